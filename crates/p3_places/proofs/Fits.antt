-- Which expressions stand at an element of the table.
use Rattle.std.specs.Prelude.{Bool, false, ◌&&◌, List, [], ◌∷◌, Option, Some, None}
use Rattle.p3_task.specs.Grammar.Words.{◌>>=◌}
use Rattle.p3_task.specs.declared.expression.Expression.{Expression, Group', Row_of-Expression}
use Rattle.p3_task.specs.declared.expression.Expression.TheVariants as expression
use Rattle.p3_places.proofs.Runs.{run, run_row}
use Rattle.p3_places.specs.Places.{grammar_table, is_final, list_of, takes_word}
use Rattle.p3_places.specs.declared.state.Place.{Place}
use Rattle.p3_places.specs.declared.state.Slot.{Slot}
use Rattle.p3_places.specs.declared.state.State.{State}
use Rattle.p3_places.specs.declared.state.State.TheVariants as state

abbrev pub ends : Option State → Bool
ends None = false
ends (Some last) = is_final last

abbrev pub run_parts : State → List Expression → Option State
run_parts from [] = Some from
run_parts from (part ∷ parts) = run grammar_table from part >>= λ next. run_parts next parts

-- the row of a list leads from the start of a place to its end
abbrev pub row_fits : {shape : _} → Option Place → Row_of-Expression shape → Bool
row_fits None row = false
row_fits (Some p) row = ends (run_row grammar_table (state.Head p) row)

abbrev pub fits : Slot → Expression → Bool
fits s (expression.Word at text) = takes_word s text
fits s (Group' at shape parts) = row_fits (list_of s) parts

abbrev pub fits_one : {A : Type 0} → (A → Bool) → List A → Bool
fits_one first (x ∷ []) = first x
fits_one first _ = false

abbrev pub fits_two : {A : Type 0} → (A → Bool) → (A → Bool) → List A → Bool
fits_two first second (x ∷ y ∷ []) = first x && second y
fits_two first second _ = false
