-- The slots of variables: their places among those in scope, the outermost first.
use Rattle.std.specs.Prelude.{ℕ, ◌+◌, List, [], ◌∷◌, map, if◌then◌else◌, Option, Some, None}
use Rattle.p3_task.specs.Names.{Name, same_name}
use Rattle.p3_task.specs.declared.term.Typed.{Typed}

abbrev pub words_of : List Typed → List Name
words_of variables = map (λ variable. variable.name.name) variables

-- the last place of the variable behind those passed, or where it was found among them
abbrev pub place_after : List Name → Name → ℕ → Option ℕ → Option ℕ
place_after [] variable passed found = found
place_after (other ∷ others) variable passed found = place_after others variable (passed + 1) (if same_name other variable then Some passed else found)

-- the slot of the innermost variable of that name, the outermost variable first
abbrev pub slot_of : List Name → Name → Option ℕ
slot_of scope variable = place_after scope variable 0 None
