use Rattle.std.proofs.Common.{◌∙◌, map, arith}
use Rattle.std.proofs.lemmas.List.{length-map}
use Rattle.p3_formula.specs.Same.{same_form}
use Rattle.p3_formula.proofs.SameLemmas.{lengths_differ, not_same}
use Rattle.p3_formula.proofs.same.+same.Goals as goal

pub are_same-returns-then-parts-others : goal.are_same-returns-then-parts-others
are_same-returns-then-parts-others t c = lengths_differ (map same_form c.args.parts.now) c.args.others.now (λ e. omega (arith, e, length-map c.args.parts.now same_form, c.if-parts-others.true))

pub is_same-returns-in-Not-other : goal.is_same-returns-in-Not-other
is_same-returns-in-Not-other t c = c.is_same.ensures ∙ (λ i. same_form (c.get.ensures i) (c.get-in-Not-other.ensures i)) ∙ not_same _ _ _ _ c.in-Not.is c.in-Not-other.is
