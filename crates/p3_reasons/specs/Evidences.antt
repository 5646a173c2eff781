-- Which formulas of an operator show in the states that are shown why it is satisfied or not (the PDDL3 report).
use Rattle.std.specs.Prelude.{◌≡◌, ℕ, ◌<◌, Bool, true, false, List, [], ◌∷◌, length}
use Rattle.std.specs.List.{AllByRecursion}
use Rattle.p3_base.specs.declared.operator.Operator.{Operator}
use Rattle.p3_base.specs.declared.operator.Operator.TheVariants.{AtEnd, Always, Sometime, AtMostOnce, SometimeAfter, SometimeBefore}
use Rattle.p3_base.specs.declared.showing.Showing.{Showing}
use Rattle.p3_base.specs.declared.showing.Showing.TheVariants.{HoldsAt, FailsAt, Again}
use Rattle.p3_task.specs.Constraints.{holds_at}
use Rattle.p3_task.specs.Explanations.{shown}
use Rattle.p3_task.specs.Modal.{Modal}
use Rattle.p3_task.specs.States.{State, Environment}
use Rattle.p3_task.specs.declared.formula.Formula.{Formula}
use Rattle.p3_task.specs.declared.task.Task.{Task}
use Rattle.p3_reasons.specs.declared.evidence.Evidence.{Evidence}
use Rattle.p3_reasons.specs.declared.evidence.Operand.{Operand}
use Rattle.p3_reasons.specs.declared.evidence.Operand.TheVariants.{First, Second}

abbrev pub in_state : ℕ → Operand → Bool → Evidence
in_state state operand holds = record { state = state; operand = operand; holds = holds }

-- of an operator over one formula
abbrev pub of_one : Showing → List Evidence
of_one (HoldsAt state) = in_state state First true ∷ []
of_one (FailsAt state) = in_state state First false ∷ []
of_one (Again first gap again) = in_state first First true ∷ in_state gap First false ∷ in_state again First true ∷ []
of_one _ = []

-- the first formula holds, and the second neither there nor later
abbrev pub of_response : Showing → List Evidence
of_response (FailsAt state) = in_state state First true ∷ in_state state Second false ∷ []
of_response _ = []

-- the first formula holds, and the second in no state before it
abbrev pub of_precedence : Showing → List Evidence
of_precedence (FailsAt state) = in_state state First true ∷ []
of_precedence _ = []

abbrev pub evidence_of : {F : Type 0} → Operator F → Showing → List Evidence
evidence_of (AtEnd f) showing = of_one showing
evidence_of (Always f) showing = of_one showing
evidence_of (Sometime f) showing = of_one showing
evidence_of (AtMostOnce f) showing = of_one showing
evidence_of (SometimeAfter f g) showing = of_response showing
evidence_of (SometimeBefore f g) showing = of_precedence showing

-- ---- what it says

abbrev pub two : {F : Type 0} → F → F → Operand → F
two first second First = first
two first second Second = second

-- the formula of an operator; one that has no second formula has its only one there too
abbrev pub operand_of : {F : Type 0} → Operator F → Operand → F
operand_of (AtEnd f) operand = f
operand_of (Always f) operand = f
operand_of (Sometime f) operand = f
operand_of (AtMostOnce f) operand = f
operand_of (SometimeAfter f g) operand = two f g operand
operand_of (SometimeBefore f g) operand = two f g operand

-- the formula holds in that visited state, or does not
pub record IsEvident (T : Task) (W : List State) (env : Environment) (modal : Modal) (evidence : Evidence) : Type 0 where
  pub within : evidence.state < length W
  pub so : holds_at T W env (operand_of modal evidence.operand) evidence.state ≡ evidence.holds

-- what is shown of an operator is evident
abbrev pub WhatIsShownIsEvident : Type 0
WhatIsShownIsEvident = (T : Task) (W : List State) (env : Environment) (modal : Modal) → 0 < length W → AllByRecursion (IsEvident T W env modal) (evidence_of modal (shown T W env modal))
