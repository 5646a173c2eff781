-- Answers that are noted and taken, and facts that are those behind steps.
use Rattle.std.proofs.Common.{◌≡◌, ◌∙◌, ◌⊎◌, inl, inr, ℕ, ◌+◌, ◌<◌, ◌≤◌, List, [], ◌∷◌, length, take, get_or, Option, None, Some, refl, sym, ap, arith, zero, suc}
use Rattle.std.specs.Prelude.{fold, slice_get, slice_set, IfSome}
use Rattle.std.proofs.lemmas.Grind.{fold-append}
use Rattle.p3_task.proofs.OnceLemmas.{Some-injective}
use Rattle.p3_formula.proofs.NodeLemmas.{take-next}
use Rattle.p3_numbers.specs.declared.task.NumberedTask.{NumberedTask}
use Rattle.p3_reasons.specs.Effects.{Truths, truth_of}
use Rattle.p3_reasons.specs.Outcomes.{Test}
use Rattle.p3_reasons.specs.Visits.{start_test, step_test, test_after}
use Rattle.p3_reasons.specs.declared.decision.Decision.{Decision}
use Rattle.p3_reasons.specs.declared.visited.PlacedStep.{PlacedStep}
use Rattle.p3_scenes.specs.Answers.{AreAnswers, IsBehind}
use Rattle.p3_scenes.specs.Questions.{answer_to, asked_decided}
use Rattle.p3_scenes.specs.declared.question.Question.{Question}

-- ---- places

pub get-at : {A : Type 0} (xs : List A) (k : ℕ) (x : A) → k < length xs → x ≡ get_or xs k x → slice_get xs k ≡ Some x
get-at [] k x within is = absurd (omega arith)
get-at (y ∷ xs) zero x within is = ap Some (sym is)
get-at (y ∷ xs) (suc k) x within is = get-at xs k x (omega arith) is

set-get : {A : Type 0} (xs : List A) (i k : ℕ) (v x : A) → slice_get (slice_set xs i v) k ≡ Some x → (slice_get xs k ≡ Some x) ⊎ ((k ≡ i) × (v ≡ x))
set-get [] i k v x here = inl here
set-get (y ∷ xs) zero zero v x here = inr (refl, Some-injective v x here)
set-get (y ∷ xs) zero (suc k) v x here = inl here
set-get (y ∷ xs) (suc i) zero v x here = inl here
set-get (y ∷ xs) (suc i) (suc k) v x here = by (set-get xs i k v x here)
  where
    by : (slice_get xs k ≡ Some x) ⊎ ((k ≡ i) × (v ≡ x)) → (slice_get xs k ≡ Some x) ⊎ ((suc k ≡ suc i) × (v ≡ x))
    by (inl there) = inl there
    by (inr (at, is)) = inr (ap suc at, is)

-- ---- answers

module _ (X : NumberedTask) (steps : List PlacedStep) (questions : List Question) where
  pub answers-noted : (found : List (Option Decision)) (place : ℕ) (decision : Decision) (question : Question) → AreAnswers X steps questions found → slice_get questions place ≡ Some question → decision ≡ answer_to X steps question → AreAnswers X steps questions (slice_set found place (Some decision))
  answers-noted found place decision question are asked is k other own here at = by (set-get found place k (Some decision) (Some other) here)
    where
      by : (slice_get found k ≡ Some (Some other)) ⊎ ((k ≡ place) × (Some decision ≡ Some other)) → other ≡ answer_to X steps own
      by (inl there) = are k other own there at
      by (inr (same, told)) =
          let one : question ≡ own = Some-injective question own (sym asked ∙ ap (slice_get questions) (sym same) ∙ at) in
          sym (Some-injective decision other told) ∙ is ∙ ap (answer_to X steps) one

  pub answers-known : (found : List (Option Decision)) (place : ℕ) (known : Option Decision) (question : Question) → AreAnswers X steps questions found → slice_get questions place ≡ Some question → IfSome known (λ decision. slice_get found place ≡ Some (Some decision)) → IfSome known (λ decision. decision ≡ answer_to X steps question)
  answers-known found place None question are asked there = there
  answers-known found place (Some decision) question are asked there = are place decision question there asked

  pub answers-left : (found : List (Option Decision)) (place : ℕ) → AreAnswers X steps questions found → AreAnswers X steps questions (slice_set found place None)
  answers-left found place are k other own here at = by (set-get found place k None (Some other) here)
    where
      by : (slice_get found k ≡ Some (Some other)) ⊎ ((k ≡ place) × (None ≡ Some other)) → other ≡ answer_to X steps own
      by (inl there) = are k other own there at
      by (inr (same, told)) = absurd (cc)

-- ---- facts

module _ (X : NumberedTask) (steps : List PlacedStep) where
  -- one step more
  pub behind-more : (k : ℕ) (step : PlacedStep) (facts next : Truths) → k < length steps → step ≡ get_or steps k step → IsBehind X steps k facts → ((atom : List ℕ) → truth_of next atom ≡ step_test X (truth_of facts) step atom) → IsBehind X steps (k + 1) next
  behind-more k step facts next within here behind is =
      let before : truth_of facts ≡ test_after X (take k steps) = λ j atom. behind atom j in
      λ atom. is atom ∙ ap (λ (test : Test). step_test X test step atom) before
      ∙ ap (λ (test : Test). test atom) (sym (fold-append (step_test X) (start_test X) (take k steps) (step ∷ [])) ∙ ap (fold (step_test X) (start_test X)) (take-next steps k step step within here))

  -- what is told of the facts answers a question about their state
  pub answered-behind : (facts : Truths) (question : Question) (decision : Decision) → IsBehind X steps question.state facts → decision ≡ asked_decided X (truth_of facts) question.slots.now question.asked → decision ≡ answer_to X steps question
  answered-behind facts question decision behind is =
      let told : truth_of facts ≡ test_after X (take question.state steps) = λ j atom. behind atom j in
      is ∙ ap (λ (test : Test). asked_decided X test question.slots.now question.asked) told
