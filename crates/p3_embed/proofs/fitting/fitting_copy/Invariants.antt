use Rattle.std.proofs.Common.{◌≡◌, ℕ, ◌<◌, false, Some}
use Rattle.std.specs.Prelude.{slice_get}
use Rattle.p3_formula.specs.Forms.{truth}
use Rattle.p3_formula.specs.declared.target.TargetAction.{TargetAction}
use Rattle.p3_embed.specs.declared.actions.Counted.{Counted}
use Rattle.p3_embed.proofs.fitting.fitting_copy.Given as goal

-- none of the copies passed fits
abbrev pub invariant-loop-copy : goal.invariant-loop-copy
invariant-loop-copy l = (k : ℕ) (one : Counted) (action : TargetAction) → k < l.copy-index → slice_get l.copy-items k ≡ Some one → slice_get l.target.actions one.place ≡ Some action → truth l.state action.pre ≡ false
