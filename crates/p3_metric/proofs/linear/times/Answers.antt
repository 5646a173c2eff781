use Rattle.std.proofs.Common.{rules, arith, ◌∙◌, ◌^◌, ◌<◌, ◌*ℤ◌, ap, sym, subst}
use Rattle.std.specs.Int.RustNames.{unsigned_abs}
use Rattle.p3_metric.specs.Entries.{number_at}
use Rattle.p3_metric.specs.Forms.{IsSmall, IsLarge}
use Rattle.p3_metric.specs.declared.linear.Linear.{Linear}
use Rattle.p3_metric.proofs.BoundLemmas.{product_below, passed_factor_below, passed_product_fits, within_below, product_is, scaled_is}
use Rattle.p3_metric.proofs.linear.times.Goals as goal

pub multiplied-requires-clause-fits : goal.multiplied-requires-clause-fits
multiplied-requires-clause-fits c = λ name. passed_factor_below c.args.factor (number_at c.args.form.counts name) (2 ^ 64) (2 ^ 62) (2 ^ 126) (omega arith) c.requires.factor (within_below (number_at c.args.form.counts name) (c.requires.form.coefficients.counts name)) (omega arith)

pub overflow_mul-product : goal.overflow_mul-product
overflow_mul-product c = passed_product_fits c.args.form.constant c.args.factor (search rules) c.ranges.factor (let h : unsigned_abs (c.args.form.constant *ℤ c.args.factor) < 2 ^ 126 = c.requires.constant in omega (arith, h))

pub overflow_mul-product-2 : goal.overflow_mul-product-2
overflow_mul-product-2 c = passed_product_fits c.args.form.cost c.args.factor (search rules) c.ranges.factor (product_below c.args.form.cost c.args.factor (2 ^ 62) (2 ^ 64) (2 ^ 127) (within_below c.args.form.cost c.requires.form.coefficients.cost) c.requires.factor (omega arith))

pub returns-clause-product : goal.returns-clause-product
returns-clause-product c =
    let e = c.measure.ensures.form in
    let cost = within_below c.args.form.cost c.requires.form.coefficients.cost in
    let constant : unsigned_abs (c.args.form.constant *ℤ c.args.factor) < 2 ^ 126 = c.requires.constant in
    record {
      places = ap (λ (f : Linear). f.places) e;
      constant = ap (λ (f : Linear). f.constant) e ∙ product_is c.args.form.constant c.args.factor (2 ^ 64) (2 ^ 64) (omega arith) (omega arith) c.requires.form.constant c.requires.factor (omega (arith, constant));
      cost = ap (λ (f : Linear). f.cost) e ∙ product_is c.args.form.cost c.args.factor (2 ^ 62) (2 ^ 64) (omega arith) (omega arith) cost c.requires.factor (product_below c.args.form.cost c.args.factor (2 ^ 62) (2 ^ 64) (2 ^ 127) cost c.requires.factor (omega arith));
      counts = λ name. ap (λ (f : Linear). number_at f.counts name) e ∙ c.in_ok-entries.ensures.numbers name ∙ scaled_is c.args.factor (number_at c.args.form.counts name) c.requires.factor;
    }

pub returns-clause-small : goal.returns-clause-small
returns-clause-small c = λ e. let P : Linear → Type 0 = λ f. IsSmall f in subst P (sym c.measure.ensures.form) (c.measure.ensures.small e)

pub returns-clause-large : goal.returns-clause-large
returns-clause-large c = λ e. let P : Linear → Type 0 = λ f. IsLarge f in subst P (sym c.measure.ensures.form) (c.measure.ensures.large e)
