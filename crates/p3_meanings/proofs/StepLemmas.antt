-- The lines of steps.
use Rattle.std.proofs.Common.{◌≡◌, ◌∙◌, ℕ, ◌<◌, Bool, true, false, cond, List, [], ◌∷◌, ◌++◌, get_or, Option, Some, refl, sym, ap}
use Rattle.std.specs.Prelude.{codes, slice_get}
use Rattle.std.specs.Fmt.{decimal}
use Rattle.std.specs.List.{find}
use Rattle.std.proofs.lemmas.Option.{slice_get-get_or}
use Rattle.std.proofs.lemmas.Slice.Eq.{bytes_eq-Decides}
use Rattle.p3_task.specs.Lifting.{steps}
use Rattle.p3_task.specs.Limits.{step_count}
use Rattle.p3_task.specs.Names.{Name, same_name}
use Rattle.p3_task.specs.Plans.{action_named}
use Rattle.p3_task.specs.StepNumbers.{HasNumber}
use Rattle.p3_task.specs.declared.task.Action.{Action}
use Rattle.p3_task.specs.declared.task.Step.{Step}
use Rattle.p3_task.specs.declared.task.Task.{Task}
use Rattle.p3_task.proofs.OnceLemmas.{Some-injective}
use Rattle.p3_numbers.specs.Slots.{object_names}
use Rattle.p3_numbers.specs.declared.task.NumberedTask.{NumberedTask}
use Rattle.p3_reasons.specs.Visits.{IsPlaced}
use Rattle.p3_reasons.specs.declared.visited.PlacedStep.{PlacedStep}
use Rattle.p3_tree.specs.Reports.Lines.{line}
use Rattle.p3_accounts.specs.Meanings.{meaning_line}
use Rattle.p3_accounts.specs.Spots.{spot_before}
use Rattle.p3_accounts.specs.Vocabularies.{Vocabulary}
use Rattle.p3_accounts.specs.Words.{action_word, placed_text, step_text, words_text}
use Rattle.p3_accounts.specs.declared.meaning.Meant.TheVariants as meant
use Rattle.p3_accounts.specs.declared.spot.Spot.{Spot}
use Rattle.p3_unmet.specs.Sources.{Texts}
use Rattle.p3_meanings.specs.Names.{AreWordsOf}
use Rattle.p3_meanings.specs.Steps.{action_spot, line_by, step_line}

-- what is found passes the test
found_passes : {A : Type 0} (test : A → Bool) (xs : List A) (x : A) → find test xs ≡ Some x → test x ≡ true
found_passes test [] x found = absurd (cc)
found_passes {A = A} test (y ∷ xs) x found = by (test y) refl found (found_passes test xs x)
  where
    by : (b : Bool) → test y ≡ b → cond b (Some y) (find test xs) ≡ Some x → (find test xs ≡ Some x → test x ≡ true) → test x ≡ true
    by true is found rest = ap test (sym (Some-injective y x found)) ∙ is
    by false is found rest = rest found

has_its_name : (T : Task) (name : Name) (action : Action) → action_named T name ≡ Some action → action.name.name ≡ name
unfolding action_named
has_its_name T name action found = (bytes_eq-Decides action.name.name name).0 (found_passes (λ (one : Action). same_name one.name.name name) T.domain.actions action found)

module _ (T : Task) (X : NumberedTask) (V : Vocabulary) (words : AreWordsOf T X V) (texts : Texts) where
  placed_is_told : (step : Step) (placed : PlacedStep) → IsPlaced T X step placed → placed_text V placed ≡ step_text step
  placed_is_told step placed is =
      (λ i. words_text (action_word (slice_get (words.actions i) placed.action)) (object_names (words.numbers i) placed.objects))
      ∙ (λ i. words_text (action_word (is.at i)) (is.args i))
      ∙ ap (λ name. words_text name step.args) (has_its_name T step.action is.action is.named)

  -- the line of a placed step is that of the step of its number
  pub step_is_told : (number : ℕ) (placed : PlacedStep) (spot : Option Spot) → number < step_count T → ((step : Step) → HasNumber T step number → IsPlaced T X step placed) → spot ≡ action_spot texts (slice_get V.actions placed.action)
      → meaning_line V (record { spot = spot; number = number; of = meant.Step placed }) ≡ step_line V texts T number
  step_is_told number placed spot within places stands =
      let none : Step = record { action = []; args = [] } in
      let step : Step = get_or (steps T) number none in
      let has : HasNumber T step number = slice_get-get_or (steps T) number none within in
      let is : IsPlaced T X step placed = places step has in
      let at : spot ≡ action_spot texts (action_named T step.action) = stands ∙ ap (λ actions. action_spot texts (slice_get actions placed.action)) words.actions ∙ ap (action_spot texts) (is.at ∙ sym is.named) in
      let told : placed_text V placed ≡ step_text step = placed_is_told step placed is in
      (λ i. line (spot_before V (at i) ++ (codes "s" ++ decimal number ++ codes " " ++ told i)))
      ∙ sym (ap (line_by V texts T number) has)
