-- The headings that answers make are those of the reasons.
use Rattle.std.proofs.Common.{◌≡◌, ◌∙◌, ℕ, zero, suc, Bool, List, [], ◌∷◌, length, map, refl, sym, ap, subst, arith, Option, Some}
use Rattle.std.specs.Prelude.{slice_get}
use Rattle.std.specs.List.{AllByRecursion, AllZip}
use Rattle.p3_base.specs.Operators.{over}
use Rattle.p3_base.specs.declared.operator.Operator.{Operator}
use Rattle.p3_base.specs.declared.operator.Operator.TheVariants.{AtEnd, Always, Sometime, AtMostOnce, SometimeAfter, SometimeBefore}
use Rattle.p3_base.specs.declared.showing.Showing.{Showing}
use Rattle.p3_base.specs.declared.showing.Showing.TheVariants.{Holds, HoldsAt, HoldsNowhere, FailsAt, Again}
use Rattle.p3_task.specs.Constraints.{HardModal}
use Rattle.p3_task.specs.Explanations.{shown}
use Rattle.p3_task.specs.Plans.{Plan, state_at, visited}
use Rattle.p3_task.specs.States.{State, start}
use Rattle.p3_task.specs.declared.formula.Formula.{Formula}
use Rattle.p3_task.specs.declared.task.Task.{Task}
use Rattle.p3_task.proofs.OnceLemmas.{Some-injective}
use Rattle.p3_numbers.specs.Conditions.{condition_of}
use Rattle.p3_numbers.specs.declared.task.NumberedTask.{NumberedTask}
use Rattle.p3_reasons.specs.Decisions.{IsDecision, Matter}
use Rattle.p3_reasons.specs.Evidences.{IsEvident, evidence_of}
use Rattle.p3_reasons.specs.declared.decision.Decision.{Decision}
use Rattle.p3_reasons.specs.declared.evidence.Evidence.{Evidence}
use Rattle.p3_reasons.specs.declared.visited.PlacedStep.{PlacedStep}
use Rattle.p3_reasons.proofs.EvidenceLaws.{what-is-shown-is-evident}
use Rattle.p3_scenes.specs.Bound.{IsBound}
use Rattle.p3_scenes.specs.Questions.{AreSteps}
use Rattle.p3_scenes.specs.Scenes.{Scene}
use Rattle.p3_scenes.proofs.QuestionLaws.{evidence-over, operators-answered, states-of}
use Rattle.p3_accounts.specs.Operators.{kind_of}
use Rattle.p3_accounts.specs.States.{operand_shown}
use Rattle.p3_accounts.specs.declared.spot.Spot.{Spot}
use Rattle.p3_unmet.specs.Sketches.{Sketch, decision_in, decisions_of, inquiry_of, operator_sketch, shown_with, state_with, states_with}
use Rattle.p3_unmet.specs.Unmet.{AreDeciding, ShowsOperand, ShowsOperator}
use Rattle.p3_unmet.specs.declared.draft.Concern.{Concern}

-- ---- operators over numbered formulas

pub kind-over : {F G : Type 0} (become : F → G) (operator : Operator F) → kind_of (over become operator) ≡ kind_of operator
kind-over become (AtEnd f) = refl
kind-over become (Always f) = refl
kind-over become (Sometime f) = refl
kind-over become (AtMostOnce f) = refl
kind-over become (SometimeAfter f g) = refl
kind-over become (SometimeBefore f g) = refl

-- ---- lists

pub zip-found : {A B : Type 0} (R : A → B → Type 0) (xs : List A) (ys : List B) → AllZip R xs ys → (k : ℕ) (x : A) → slice_get xs k ≡ Some x → (y : B) × (slice_get ys k ≡ Some y) × R x y
zip-found R [] [] all k x at = absurd (cc)
zip-found R [] (y ∷ ys) all k x at = absurd all
zip-found R (w ∷ xs) [] all k x at = absurd all
zip-found R (w ∷ xs) (y ∷ ys) all zero x at = (y, refl, subst (λ one. R one y) (Some-injective w x at) all.0)
zip-found R (w ∷ xs) (y ∷ ys) all (suc k) x at = zip-found R xs ys all.1 k x at

-- ---- states

pub states-long : (T : Task) (plan : Plan) → length (visited T plan) ≡ suc (length plan)
unfolding visited
states-long T plan = states-of T (start T) plan

-- ---- one heading

module _ (T : Task) (X : NumberedTask) (plan : Plan) (steps : List PlacedStep) (are : AreSteps T X plan steps) where
  abbrev W : List State
  W = visited T plan

  -- a decision of which the truth is known
  pub deciding : (matter : Matter) (s : State) (holds : Bool) (decision : Decision) → matter.holds s ≡ holds → IsDecision X.numbers matter s decision → AreDeciding X.numbers matter s holds decision.literals
  deciding matter s holds decision so is = record { truth = sym so; decide = is.decide }

  module _ (hard : HardModal) (scene : Scene) (bound : IsBound X.numbers hard scene) where
    pub same-kind : kind_of scene.operator ≡ kind_of hard.modal
    same-kind = ap kind_of bound.operator ∙ kind-over (λ (formula : Formula). condition_of X.numbers formula scene.scope) hard.modal

    same-evidence : (showing : Showing) → evidence_of scene.operator showing ≡ evidence_of hard.modal showing
    same-evidence showing = ap (λ operator. evidence_of operator showing) bound.operator ∙ evidence-over (λ (formula : Formula). condition_of X.numbers formula scene.scope) hard.modal showing

    abbrev decisions : List Evidence → List Decision
    decisions list = map (decision_in X steps scene.slots) (map (inquiry_of scene.operator) list)

    operand-told : (evidence : Evidence) → IsEvident T W hard.env hard.modal evidence → ShowsOperand T X.numbers W hard evidence (state_with (inquiry_of scene.operator evidence) (decision_in X steps scene.slots (inquiry_of scene.operator evidence)))
    operand-told evidence evident = record {
      is = λ i. record { state = evidence.state; operand = operand_shown (same-kind i) evidence.operand; literals = (decision_in X steps scene.slots (inquiry_of scene.operator evidence)).literals };
      decide = deciding _ (state_at W evidence.state) evidence.holds _ evident.so (operators-answered T X plan steps are evidence.state evident.within hard scene bound evidence.operand);
    }

    operands-told : (list : List Evidence) → AllByRecursion (IsEvident T W hard.env hard.modal) list → AllZip (ShowsOperand T X.numbers W hard) list (states_with (map (inquiry_of scene.operator) list) (decisions list))
    operands-told [] all = tt
    operands-told (evidence ∷ list) all = (operand-told evidence all.0, operands-told list all.1)

    states-told : (showing : Showing) → AllByRecursion (IsEvident T W hard.env hard.modal) (evidence_of hard.modal showing)
        → AllZip (ShowsOperand T X.numbers W hard) (evidence_of hard.modal showing) (states_with (map (inquiry_of scene.operator) (evidence_of scene.operator showing)) (decisions (evidence_of scene.operator showing)))
    states-told showing all =
        subst (λ list. AllZip (ShowsOperand T X.numbers W hard) (evidence_of hard.modal showing) (states_with (map (inquiry_of scene.operator) list) (decisions list))) (sym (same-evidence showing)) (operands-told (evidence_of hard.modal showing) all)

    module _ (concern : Concern) (spot : Option Spot) where
      abbrev sketch : Showing → Sketch
      sketch showing = operator_sketch concern spot scene showing

      pub operator-shown : (showing : Showing) → AllByRecursion (IsEvident T W hard.env hard.modal) (evidence_of hard.modal showing) → ShowsOperator T X.numbers W hard showing (shown_with (sketch showing) (decisions_of X steps (sketch showing)))
      operator-shown Holds all = record { states = _; is = refl; each = states-told Holds all }
      operator-shown (HoldsAt state) all = record { states = _; is = refl; each = states-told (HoldsAt state) all }
      operator-shown HoldsNowhere all = refl
      operator-shown (FailsAt state) all = record { states = _; is = refl; each = states-told (FailsAt state) all }
      operator-shown (Again first gap again) all = record { states = _; is = refl; each = states-told (Again first gap again) all }

    pub all-evident : (showing : Showing) → showing ≡ shown T W hard.env hard.modal → AllByRecursion (IsEvident T W hard.env hard.modal) (evidence_of hard.modal showing)
    all-evident showing is =
        subst (λ one. AllByRecursion (IsEvident T W hard.env hard.modal) (evidence_of hard.modal one)) (sym is)
        (what-is-shown-is-evident T W hard.env hard.modal (omega (arith, states-long T plan)))
