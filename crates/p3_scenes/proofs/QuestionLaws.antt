-- What is answered of a state by number decides it in the visited state.
use Rattle.std.proofs.Common.{◌≡◌, ◌∙◌, ℕ, ◌<◌, ◌≤◌, Bool, true, List, [], ◌∷◌, length, take, get_or, refl, sym, ap, subst, arith, zero, suc}
use Rattle.std.specs.List.{AllZip}
use Rattle.std.proofs.lemmas.Bool.{and_parts}
use Rattle.p3_base.specs.Operators.{all, over}
use Rattle.std.specs.Borrow.{Bor}
use Rattle.p3_base.specs.declared.showing.Showing.{Showing}
use Rattle.p3_base.specs.declared.operator.Operator.{Operator}
use Rattle.p3_base.specs.declared.operator.Operator.TheVariants.{AtEnd, Always, Sometime, AtMostOnce, SometimeAfter, SometimeBefore}
use Rattle.p3_task.specs.Plans.{Plan, last_state, state_after, state_at, visited, visited_from}
use Rattle.p3_task.specs.States.{State, start}
use Rattle.p3_task.specs.declared.formula.Formula.{Formula}
use Rattle.p3_task.specs.declared.task.Task.{Task}
use Rattle.p3_task.proofs.PlanLemmas.{last_state-walk, state_from}
use Rattle.p3_numbers.specs.Conditions.{condition_of, is_known_formula}
use Rattle.p3_numbers.specs.Places.{environment_of}
use Rattle.p3_numbers.specs.declared.condition.NumberedCondition.{NumberedCondition}
use Rattle.p3_numbers.specs.declared.task.NumberedTask.{NumberedTask}
use Rattle.p3_reasons.specs.Decided.{TellsFacts}
use Rattle.p3_reasons.specs.Decisions.{IsDecision, formula_matter, hard_matter}
use Rattle.p3_reasons.specs.Evidences.{evidence_of, operand_of}
use Rattle.p3_reasons.specs.Visits.{IsPlaced, test_after}
use Rattle.p3_reasons.specs.declared.evidence.Operand.{Operand}
use Rattle.p3_reasons.specs.declared.evidence.Operand.TheVariants.{First, Second}
use Rattle.p3_reasons.specs.declared.visited.PlacedStep.{PlacedStep}
use Rattle.p3_reasons.proofs.DecidedLaws.{formulas-decided, hard-parts-decided}
use Rattle.p3_reasons.proofs.VisitLaws.{visits-are-told}
use Rattle.p3_scenes.specs.Lent.{lent_words}
use Rattle.p3_numbers.specs.Tasks.{numbered_action}
use Rattle.p3_numbers.specs.Places.{words_of}
use Rattle.p3_numbers.proofs.KnownLaws.{task-known}
use Rattle.p3_scenes.proofs.BoundLaws.{none-fills}
use Rattle.p3_scenes.proofs.StepLaws.{placed-env, pre-known}
use Rattle.p3_scenes.specs.Questions.{AreSteps, EvidenceIsKept, OperatorsAreAnswered, PreferencesAreAnswered, GoalsAreAnswered, PreconditionsAreAnswered, decided, hard_decided}

-- ---- operands

operand-over : {F G : Type 0} (become : F → G) (operator : Operator F) (operand : Operand) → operand_of (over become operator) operand ≡ become (operand_of operator operand)
operand-over become (AtEnd f) operand = refl
operand-over become (Always f) operand = refl
operand-over become (Sometime f) operand = refl
operand-over become (AtMostOnce f) operand = refl
operand-over become (SometimeAfter f g) First = refl
operand-over become (SometimeAfter f g) Second = refl
operand-over become (SometimeBefore f g) First = refl
operand-over become (SometimeBefore f g) Second = refl

operand-passes : {F : Type 0} (test : F → Bool) (operator : Operator F) (operand : Operand) → all test operator ≡ true → test (operand_of operator operand) ≡ true
operand-passes test (AtEnd f) operand passes = passes
operand-passes test (Always f) operand passes = passes
operand-passes test (Sometime f) operand passes = passes
operand-passes test (AtMostOnce f) operand passes = passes
operand-passes test (SometimeAfter f g) First passes = (and_parts (test f) (test g) passes).0
operand-passes test (SometimeAfter f g) Second passes = (and_parts (test f) (test g) passes).1
operand-passes test (SometimeBefore f g) First passes = (and_parts (test f) (test g) passes).0
operand-passes test (SometimeBefore f g) Second passes = (and_parts (test f) (test g) passes).1

-- which of its formulas show something stands on the operator alone
pub evidence-over : {F G : Type 0} (become : F → G) (operator : Operator F) (showing : Showing) → evidence_of (over become operator) showing ≡ evidence_of operator showing
evidence-over become (AtEnd f) showing = refl
evidence-over become (Always f) showing = refl
evidence-over become (Sometime f) showing = refl
evidence-over become (AtMostOnce f) showing = refl
evidence-over become (SometimeAfter f g) showing = refl
evidence-over become (SometimeBefore f g) showing = refl

pub evidence-kept : EvidenceIsKept
evidence-kept N hard scene is showing =
    sym (evidence-over (λ (condition : Bor NumberedCondition). condition.now) scene.operator showing)
    ∙ ap (λ operator. evidence_of operator showing) is.operator ∙ evidence-over (λ (formula : Formula). condition_of N formula (lent_words scene.bindings.variables)) hard.modal showing

-- ---- states

zip-take : {A B : Type 0} (R : A → B → Type 0) (k : ℕ) (xs : List A) (ys : List B) → AllZip R xs ys → AllZip R (take k xs) (take k ys)
zip-take R zero xs ys zipped = tt
zip-take R (suc k) [] [] zipped = tt
zip-take R (suc k) [] (y ∷ ys) zipped = absurd zipped
zip-take R (suc k) (x ∷ xs) [] zipped = absurd zipped
zip-take R (suc k) (x ∷ xs) (y ∷ ys) zipped = (zipped.0, zip-take R k xs ys zipped.1)

module _ (T : Task) where
  walk-at : (s : State) (plan : Plan) (k : ℕ) → k ≤ length plan → get_or (visited_from T s plan) k [] ≡ state_from T s (take k plan)
  walk-at s [] zero within = refl
  walk-at s [] (suc k) within = absurd (omega arith)
  walk-at s (step ∷ plan) zero within = refl
  walk-at s (step ∷ plan) (suc k) within = walk-at (state_after T s step) plan k (omega arith)

  first-states : (plan : Plan) (k : ℕ) → k ≤ length plan → last_state (visited T (take k plan)) ≡ state_at (visited T plan) k
  unfolding visited
  first-states plan k within = last_state-walk T (take k plan) ∙ sym (walk-at (start T) plan k within)

  -- a walk visits one state more than it has steps
  pub states-of : (s : State) (plan : Plan) → length (visited_from T s plan) ≡ suc (length plan)
  states-of s [] = refl
  states-of s (step ∷ plan) = ap suc (states-of (state_after T s step) plan)

  state-within : (plan : Plan) (k : ℕ) → k < length (visited T plan) → k ≤ length plan
  unfolding visited
  state-within plan k within = omega (arith, within, states-of (start T) plan)

  module _ (X : NumberedTask) (plan : Plan) (steps : List PlacedStep) (are : AreSteps T X plan steps) (state : ℕ) (within : state < length (visited T plan)) where
    pub state-told : TellsFacts X.numbers (test_after X (take state steps)) (state_at (visited T plan) state)
    state-told = subst (TellsFacts X.numbers (test_after X (take state steps))) (first-states plan state (state-within plan state within)) (visits-are-told T X are.well are.numbered (take state plan) (take state steps) (zip-take (IsPlaced T X) state plan steps are.placed))

-- ---- answers

pub operators-answered : OperatorsAreAnswered
operators-answered T X plan steps are state within hard scene is operand =
    let N = X.numbers in
    let s = state_at (visited T plan) state in
    let test = test_after X (take state steps) in
    let f = operand_of hard.modal operand in
    let condition : condition_of N f scene.scope ≡ operand_of scene.operator operand = sym (ap (λ operator. operand_of operator operand) is.operator ∙ operand-over (λ (formula : Formula). condition_of N formula scene.scope) hard.modal operand) in
    let known : is_known_formula N f scene.scope ≡ true = operand-passes (λ (formula : Formula). is_known_formula N formula scene.scope) hard.modal operand is.known in
    subst (λ env. IsDecision N (formula_matter T env f) s (decided X test scene.slots (operand_of scene.operator operand))) (sym is.env)
    (subst (λ one. IsDecision N (formula_matter T (environment_of N scene.scope scene.slots) f) s (decided X test scene.slots one)) condition
    (formulas-decided T X are.numbered s test (state-told T X plan steps are state within) f scene.scope scene.slots is.fills known))

pub preferences-answered : PreferencesAreAnswered
preferences-answered T X plan steps are state within pref scene is =
    let N = X.numbers in
    let s = state_at (visited T plan) state in
    let test = test_after X (take state steps) in
    subst (λ env. IsDecision N (formula_matter T env pref.body) s (decided X test scene.slots scene.condition)) (sym is.env)
    (subst (λ one. IsDecision N (formula_matter T (environment_of N scene.scope scene.slots) pref.body) s (decided X test scene.slots one)) (sym is.condition)
    (formulas-decided T X are.numbered s test (state-told T X plan steps are state within) pref.body scene.scope scene.slots is.fills is.known))

pub preconditions-answered : PreconditionsAreAnswered
preconditions-answered T X plan steps are state within step placed is =
    let test = test_after X (take state steps) in
    subst (λ env. IsDecision X.numbers (hard_matter T env is.action.pre.body) (state_at (visited T plan) state) (hard_decided X test placed.objects (numbered_action X.numbers is.action).pre)) (placed-env T X are.well are.numbered step placed is)
    (hard-parts-decided T X are.numbered (state_at (visited T plan) state) test (state-told T X plan steps are state within) is.action.pre.body (words_of is.action.params) placed.objects is.fills (pre-known T X are.well are.numbered step placed is))

pub goals-answered : GoalsAreAnswered
goals-answered T X plan steps are state within =
    let N = X.numbers in
    let test = test_after X (take state steps) in
    subst (λ goal. IsDecision N (hard_matter T [] T.problem.goal.body) (state_at (visited T plan) state) (hard_decided X test [] goal)) (sym are.numbered.goal)
    (hard-parts-decided T X are.numbered (state_at (visited T plan) state) test (state-told T X plan steps are state within) T.problem.goal.body [] [] (none-fills N) (task-known T N are.well are.numbered.covers).goal)
