use Rattle.std.proofs.Common.{◌∙◌, ap, subst, sym, true≢false}
use Rattle.p3_formula.specs.Forms.{truth}
use Rattle.p3_formula.proofs.FormLemmas.{truth-False}
use Rattle.p3_flat.specs.Splitting.{AreAgainst}
use Rattle.p3_flat.proofs.ExclusionLaws.{part_excludes}
use Rattle.p3_flat.proofs.excluding.+against.Goals as goal

pub is_against-returns-else-is_opposite : goal.is_against-returns-else-is_opposite
is_against-returns-else-is_opposite t c = λ h. part_excludes c.args.form.now c.args.other.now _ c.in-And.is (subst (λ list. AreAgainst list c.args.other.now) c.items.ensures (c.are_against.ensures h))

pub is_against-returns-in-False : goal.is_against-returns-in-False
is_against-returns-in-False t c = λ h state holds. absurd (true≢false (sym holds ∙ ap (truth state) c.in-False.is ∙ truth-False state))
