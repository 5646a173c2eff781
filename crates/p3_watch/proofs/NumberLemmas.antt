-- The loop that collects the numbers of the steps of lines.
use Rattle.std.proofs.Common.{◌≡◌, ◌∙◌, ℕ, ◌+◌, ◌<◌, ◌≤◌, List, [], ◌∷◌, ◌++◌, append_assoc, length, drop, sym, ap, subst, arith, length-drop, Option}
use Rattle.std.specs.Prelude.{min}
use Rattle.std.specs.List.{Contains, cons_option}
use Rattle.std.proofs.lemmas.List.{append-nil, drop_all}
use Rattle.std.proofs.lemmas.List.Elements.{All-nil, All-push, All-weaker, Contains-append_left, Contains-push}
use Rattle.p3_task.specs.PlanTexts.{IsPlanText}
use Rattle.p3_task.specs.StepNumbers.{HasStepNumbers}
use Rattle.p3_task.specs.Watching.{LineText, Empty, OneStep, Offends, Piece, line_text, lines_from, lines_of}
use Rattle.p3_task.specs.declared.task.Step.{Step}
use Rattle.p3_task.specs.declared.task.Task.{Task}
use Rattle.p3_plans.specs.Lines.{IsLineStep}
use Rattle.p3_plans.specs.declared.line.LineStep.TheVariants as step
use Rattle.p3_plans.specs.declared.reader.PlanStep.{PlanStep}
use Rattle.p3_types.specs.Finds.{IsFound}
use Rattle.p3_types.specs.declared.finding.Found.{Found}
use Rattle.p3_eval.proofs.StepsLemmas.{found_again}
use Rattle.p3_watch.specs.Lines.{line_at, line_len}
use Rattle.p3_watch.specs.Watching.{AreLinesNumbered, IsNumberOfLine, IsNumberedBy, number_in}
use Rattle.p3_watch.proofs.FollowLemmas.{lines_same}
use Rattle.p3_watch.proofs.LineLemmas.{line_ahead}

-- ---- the number of a line

module _ (T : Task) (bytes : List ℕ) where
  pub of_step : HasStepNumbers T → (slice : PlanStep) (text : LineText) → IsLineStep bytes text (step.Step slice) → (answer : Found) → ((own : Step) → IsPlanText slice.text.now (own ∷ []) → IsFound T own answer)
      → IsNumberOfLine T text (number_in answer)
  of_step K slice Empty is answer finds = tt
  of_step K slice (Offends offence) is answer finds = tt
  of_step K slice (OneStep at own) is answer finds = λ number has. ap number_in (found_again T K own number answer has (finds own is.spelled))

-- ---- the loop

-- the lines before the place have their numbers
pub record ArePassed (T : Task) (text numbers : List ℕ) (at : ℕ) : Type 0 where
  pub passed : List Piece
  pub all : passed ++ lines_from at (drop at text) ≡ lines_of text
  pub own : AreLinesNumbered T numbers passed

module _ (T : Task) (text : List ℕ) where
  pub none_passed : (numbers : List ℕ) (at : ℕ) → at ≡ 0 → ArePassed T text numbers at
  none_passed numbers at first = record { passed = []; all = ap (λ n. lines_from n (drop n text)) first; own = All-nil (λ (piece : Piece). IsNumberedBy T numbers (line_text piece.bytes)) }

  module _ (numbers : List ℕ) (at : ℕ) (before : ArePassed T text numbers at) where
    pub all_passed : length text ≤ at → AreLinesNumbered T numbers (lines_of text)
    unfolding lines_from
    all_passed past = subst (AreLinesNumbered T numbers) (sym (append-nil before.passed) ∙ ap (λ rest. before.passed ++ lines_from at rest) (sym (drop_all at text past)) ∙ before.all) before.own

    module _ (low : at < length text) (found : Option ℕ) (is : IsNumberOfLine T (line_text (line_at text at)) found) (new : List ℕ) (more : new ≡ numbers ++ cons_option found []) where
      abbrev piece : Piece
      piece = record { at = at; bytes = line_at text at }

      kept_by : (text : LineText) → IsNumberedBy T numbers text → IsNumberedBy T (numbers ++ cons_option found []) text
      kept_by Empty own = tt
      kept_by (Offends offence) own = tt
      kept_by (OneStep place step) own = λ number has. Contains-append_left numbers (cons_option found []) number (own number has)

      here_by : (text : LineText) → IsNumberOfLine T text found → IsNumberedBy T (numbers ++ cons_option found []) text
      here_by Empty own = tt
      here_by (Offends offence) own = tt
      here_by (OneStep place step) own = λ number has. subst (λ (o : Option ℕ). Contains (numbers ++ cons_option o []) number) (sym (own number has)) (Contains-push numbers number)

      pub one_passed : (next : ℕ) → next ≡ min (length text) (at + line_len (drop at text) + 1) → ArePassed T text new next
      one_passed next behind = subst (λ list. ArePassed T text list next) (sym more) (record {
        passed = before.passed ++ piece ∷ [];
        all = append_assoc before.passed (piece ∷ []) (lines_from next (drop next text))
            ∙ ap (λ rest. before.passed ++ piece ∷ rest) (lines_same text at (line_len (drop at text)) next behind)
            ∙ ap (λ rest. before.passed ++ rest) (sym (line_ahead at (drop at text) (let some = length-drop at text in omega (arith, low, some))))
            ∙ before.all;
        own = All-push (λ (one : Piece). IsNumberedBy T (numbers ++ cons_option found []) (line_text one.bytes)) before.passed piece
            (All-weaker (λ (one : Piece). IsNumberedBy T numbers (line_text one.bytes)) (λ (one : Piece). IsNumberedBy T (numbers ++ cons_option found []) (line_text one.bytes)) (λ one own. kept_by (line_text one.bytes) own) before.passed before.own)
            (here_by (line_text (line_at text at)) is);
      })
