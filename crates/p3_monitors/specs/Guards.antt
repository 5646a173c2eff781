-- Guards of a constraint: where a step does not break it.
use Rattle.std.specs.Prelude.{◌≡◌, ◌≤◌, ℕ, Bool, true, false, List, [], ◌∷◌, ◌++◌, IsTrue}
use Rattle.std.specs.List.{list_all}
use Rattle.p3_formula.specs.Forms.{State, truth, has_atoms, nodes}
use Rattle.p3_formula.specs.GroundSat.{ground_sat}
use Rattle.p3_formula.specs.Kept.{Kept, is_own}
use Rattle.p3_formula.specs.Lasting.{stays_broken}
use Rattle.p3_formula.specs.Modals.{Agree, modal_has}
use Rattle.p3_formula.specs.Next.{after}
use Rattle.p3_formula.specs.declared.form.Change.{Change}
use Rattle.p3_formula.specs.declared.form.Form.{Form}
use Rattle.p3_formula.specs.declared.form.Form.TheVariants.{True}
use Rattle.p3_formula.specs.GroundModal.{GroundModal}
use Rattle.p3_base.specs.declared.operator.Operator.TheVariants as modal
use Rattle.p3_monitors.specs.KeepsOn.{most_nodes}
use Rattle.p3_regress.specs.Turned.{may_turn}

-- the form holds exactly where the step does not break the constraint, if that is one which stays broken and is not broken so far
abbrev pub IsGuard : ℕ → GroundModal → List Change → Form → Type 0
IsGuard base modal step guard =
    (W : List State) (state next : State) → Kept base modal W state → Agree modal (after state step) next
    → IsTrue (stays_broken modal) → ground_sat W modal ≡ true → truth state guard ≡ ground_sat (W ++ next ∷ []) modal

-- the guard has no atoms but the monitor's own and those of the constraint and of the step's conditions
abbrev pub HasGuard : ℕ → GroundModal → List Change → Form → Type 0
HasGuard base modal step guard =
    (allowed : ℕ → Bool) → IsTrue (modal_has allowed modal) → ((atom : ℕ) → is_own base modal atom ≡ true → allowed atom ≡ true)
    → IsTrue (list_all (λ change. has_atoms allowed change.cond) step) → IsTrue (has_atoms allowed guard)

-- the constraint is one that stays broken, and the step may turn a form of it the way that breaks it
abbrev pub may_break : GroundModal → List Change → Bool
may_break (modal.AtEnd f) step = false
may_break (modal.Always f) step = may_turn step false f
may_break (modal.Sometime f) step = false
may_break (modal.AtMostOnce f) step = may_turn step true f
may_break (modal.SometimeAfter f g) step = false
may_break (modal.SometimeBefore f g) step = may_turn step true f

-- what the guard of a monitor is to be
pub record IsGuarding (base : ℕ) (modal : GroundModal) (step : List Change) (guard : Form) : Type 0 where
  pub guards : IsGuard base modal step guard
  pub still : may_break modal step ≡ false → guard ≡ True
  pub atoms : HasGuard base modal step guard
  pub size : nodes guard ≤ most_nodes step modal
