-- How far a run over a plan has come, and which questions it has answered.
use Rattle.std.specs.Prelude.{◌≡◌, ℕ, ◌+◌, List, [], ◌∷◌, Option, Some, slice_get, take}
use Rattle.p3_numbers.specs.declared.task.NumberedTask.{NumberedTask}
use Rattle.p3_reasons.specs.Effects.{Truths, truth_of}
use Rattle.p3_reasons.specs.Visits.{test_after}
use Rattle.p3_reasons.specs.declared.decision.Decision.{Decision}
use Rattle.p3_reasons.specs.declared.visited.PlacedStep.{PlacedStep}
use Rattle.p3_scenes.specs.Questions.{answer_to}
use Rattle.p3_scenes.specs.declared.question.Question.{Question}

-- the state of each question and its place, counted from a number
abbrev pub places_from : ℕ → List Question → List (ℕ × ℕ)
places_from place [] = []
places_from place (question ∷ questions) = (question.state, place) ∷ places_from (place + 1) questions

-- the facts are those behind so many steps
abbrev pub IsBehind : NumberedTask → List PlacedStep → ℕ → Truths → Type 0
IsBehind X steps done facts = (atom : List ℕ) → truth_of facts atom ≡ test_after X (take done steps) atom

-- what stands at a place answers the question there
abbrev pub AreAnswers : NumberedTask → List PlacedStep → List Question → List (Option Decision) → Type 0
AreAnswers X steps questions found = (place : ℕ) (decision : Decision) (question : Question) → slice_get found place ≡ Some (Some decision) → slice_get questions place ≡ Some question → decision ≡ answer_to X steps question
