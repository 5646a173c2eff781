-- What a line of a plan text has, as the code tells it.
use Rattle.std.specs.Prelude.{◌≡◌, ℕ, Bool, true, false, List, [], ◌∷◌, take, drop, length, Option}
use Rattle.p3_task.specs.PlanTexts.{IsPlanText}
use Rattle.p3_task.specs.Tokens.{Token}
use Rattle.p3_task.specs.Watching.{LineText, Empty, OneStep, Offends, open_behind, second_step}
use Rattle.p3_task.specs.declared.task.Step.{Step}
use Rattle.p3_plans.specs.declared.line.LineStep.{LineStep}
use Rattle.p3_plans.specs.declared.line.LineStep.TheVariants as line

-- the slice of the line at the step's `(`, which is a text of the step alone
pub record IsTextAt (bytes : List ℕ) (at : ℕ) (step : Step) (offset : ℕ) (text : List ℕ) : Type 0 where
  pub place : offset ≡ at
  pub spelled : IsPlanText text (step ∷ [])
  pub slice : text ≡ take (length text) (drop offset bytes)

-- the answer to a line with these bytes, which has that
abbrev pub IsLineStep : List ℕ → LineText → LineStep → Type 0
IsLineStep bytes Empty line.Blank = Unit {0}
IsLineStep bytes (OneStep at step) (line.Step slice) = IsTextAt bytes at step slice.offset slice.text.now
IsLineStep bytes (Offends offence) (line.Bad refusal) = refusal ≡ offence
IsLineStep _ _ _ = ⊥

-- the first `(` behind the first `)`, which has been passed or not
abbrev pub second_by : Bool → List Token → Option ℕ
second_by true tokens = open_behind tokens
second_by false tokens = second_step tokens
