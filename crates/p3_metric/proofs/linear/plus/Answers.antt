use Rattle.std.proofs.Common.{arith, ◌∙◌, ◌^◌, ap, sym, subst}
use Rattle.p3_metric.specs.Entries.{number_at}
use Rattle.p3_metric.specs.Forms.{IsSmall, IsLarge}
use Rattle.p3_metric.specs.declared.linear.Linear.{Linear}
use Rattle.p3_metric.proofs.BoundLemmas.{passed_below, passed_factor_below, within_below, sum_combined, counts_combined}
use Rattle.p3_metric.proofs.linear.plus.Goals as goal

pub mixed-constant-requires : goal.mixed-constant-requires
mixed-constant-requires c = record {
  first = passed_below c.args.first.constant (2 ^ 64) (omega arith) c.requires.first.constant;
  factor = passed_below c.power_of_ten-factor.result (2 ^ 20) (omega arith) c.power_of_ten-factor.ensures.small;
  second = passed_below c.args.second.constant (2 ^ 64) (omega arith) c.requires.second.constant;
  other = passed_below c.power_of_ten-other.result (2 ^ 20) (omega arith) c.power_of_ten-other.ensures.small;
}

pub mixed-cost-requires : goal.mixed-cost-requires
mixed-cost-requires c =
    let one = within_below c.args.first.cost c.requires.first.coefficients.cost in
    let two = within_below c.args.second.cost c.requires.second.coefficients.cost in
    record {
      first = passed_below c.args.first.cost (2 ^ 64) (omega arith) (omega (arith, one));
      factor = passed_below c.power_of_ten-factor.result (2 ^ 20) (omega arith) c.power_of_ten-factor.ensures.small;
      second = passed_below c.args.second.cost (2 ^ 64) (omega arith) (omega (arith, two));
      other = passed_below c.power_of_ten-other.result (2 ^ 20) (omega arith) c.power_of_ten-other.ensures.small;
    }

pub combined-requires-clause-first : goal.combined-requires-clause-first
combined-requires-clause-first c = λ name. passed_factor_below c.power_of_ten-factor.result (number_at c.args.first.counts name) (2 ^ 20) (2 ^ 62) (2 ^ 124) (omega arith) c.power_of_ten-factor.ensures.small (within_below (number_at c.args.first.counts name) (c.requires.first.coefficients.counts name)) (omega arith)

pub combined-requires-clause-second : goal.combined-requires-clause-second
combined-requires-clause-second c = λ name. passed_factor_below c.power_of_ten-other.result (number_at c.args.second.counts name) (2 ^ 20) (2 ^ 62) (2 ^ 124) (omega arith) c.power_of_ten-other.ensures.small (within_below (number_at c.args.second.counts name) (c.requires.second.coefficients.counts name)) (omega arith)

pub returns-clause-sum : goal.returns-clause-sum
returns-clause-sum c =
    let e = c.measure.ensures.form in
    let F = c.power_of_ten-factor.result in
    let O = c.power_of_ten-other.result in
    let sum = sum_combined F O c.args.first.places c.args.second.places c.max-places.result c.power_of_ten-factor.ensures.small c.power_of_ten-other.ensures.small c.max-places.ensures c.power_of_ten-factor.ensures.power c.power_of_ten-other.ensures.power in
    let one = within_below c.args.first.cost c.requires.first.coefficients.cost in
    let two = within_below c.args.second.cost c.requires.second.coefficients.cost in
    record {
      places = ap (λ (f : Linear). f.places) e ∙ c.max-places.ensures;
      constant = ap (λ (f : Linear). f.constant) e ∙ sum c.args.first.constant c.args.second.constant c.mixed-constant.result c.requires.first.constant c.requires.second.constant c.mixed-constant.ensures;
      cost = ap (λ (f : Linear). f.cost) e ∙ sum c.args.first.cost c.args.second.cost c.mixed-cost.result (omega (arith, one)) (omega (arith, two)) c.mixed-cost.ensures;
      counts = λ name. ap (λ (f : Linear). number_at f.counts name) e ∙ c.in_ok-entries.ensures.numbers name
          ∙ counts_combined F O c.args.first.places c.args.second.places c.max-places.result c.power_of_ten-factor.ensures.small c.power_of_ten-other.ensures.small c.max-places.ensures c.power_of_ten-factor.ensures.power c.power_of_ten-other.ensures.power (number_at c.args.first.counts name) (number_at c.args.second.counts name);
    }

pub returns-clause-small : goal.returns-clause-small
returns-clause-small c = λ e. let P : Linear → Type 0 = λ f. IsSmall f in subst P (sym c.measure.ensures.form) (c.measure.ensures.small e)

pub returns-clause-large : goal.returns-clause-large
returns-clause-large c = λ e. let P : Linear → Type 0 = λ f. IsLarge f in subst P (sym c.measure.ensures.form) (c.measure.ensures.large e)
