use Rattle.std.proofs.Common.{arith, ◌∙◌, ◌^◌, ◌<◌, ap, sym, subst, ℤ, ◌*ℤ◌}
use Rattle.std.specs.Int.RustNames.{unsigned_abs}
use Rattle.std.proofs.lemmas.Int.{to_z-of_z}
use mir.Syntax.{w128}
use Rattle.p3_task.specs.Refusals.Metric.{is_within}
use Rattle.p3_task.specs.Sides.{weight_bound}
use Rattle.p3_metric.specs.Entries.{number_at}
use Rattle.p3_metric.proofs.EntryLemmas.{number_at_none, nothing_plus, times_below}
use Rattle.p3_metric.proofs.entries.scaled.Goals as goal

pub pour-requires : goal.pour-requires
pour-requires c = record {
  entries = λ name. let P : ℤ → Type 0 = λ z. unsigned_abs z < 2 ^ 125 in subst P (sym (number_at_none c.with_hasher-products.result c.with_hasher-products.ensures.empty name)) (omega arith);
  part = λ name. times_below (number_at c.args.entries name) c.args.factor _ (2 ^ 126) (2 ^ 126) (to_z-of_z w128 c.args.factor c.ranges.factor) (omega arith) (c.requires.fits name);
}

pub returns : goal.returns
returns c = record {
  numbers = λ name. c.in_ok-within.ensures.sums name ∙ nothing_plus (number_at c.with_hasher-products.result name) _ (number_at_none c.with_hasher-products.result c.with_hasher-products.ensures.empty name)
      ∙ ap (λ f. f *ℤ number_at c.args.entries name) (to_z-of_z w128 c.args.factor c.ranges.factor);
  within = λ w. c.in_ok-within.ensures.within w (λ name. ap (is_within weight_bound) (number_at_none c.with_hasher-products.result c.with_hasher-products.ensures.empty name));
  large = c.in_ok-within.ensures.large;
}
