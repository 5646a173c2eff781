-- The facts that are told by number are those of the states of a plan.
use Rattle.std.specs.Prelude.{◌≡◌, true, map, bytes_eq}
use Rattle.std.specs.List.{list_any}
use Rattle.p3_task.specs.Effects.{next}
use Rattle.p3_task.specs.Offences.{WellFormed}
use Rattle.p3_task.specs.States.{State, start}
use Rattle.p3_task.specs.declared.effect.Effect.{Effect}
use Rattle.p3_task.specs.declared.task.Task.{Task}
use Rattle.p3_numbers.specs.Effects.{effect_of, is_known_effect}
use Rattle.p3_numbers.specs.Places.{Variables, Fills, environment_of}
use Rattle.p3_numbers.specs.Slots.{Slots}
use Rattle.p3_numbers.specs.Tasks.{IsNumberedTask}
use Rattle.p3_numbers.specs.declared.task.NumberedTask.{NumberedTask}
use Rattle.p3_expansion.specs.Statics.{atom_of}
use Rattle.p3_reasons.specs.Decided.{TellsFacts}
use Rattle.p3_reasons.specs.Effects.{changed, taken}
use Rattle.p3_reasons.specs.Outcomes.{Test}

-- the atoms of the start are the facts of the initial state
abbrev pub StartIsTold : Type 0
StartIsTold = (T : Task) (X : NumberedTask) → WellFormed T → IsNumberedTask T X → TellsFacts X.numbers (λ atom. list_any (bytes_eq atom) (map atom_of X.start)) (start T)

-- where the facts of a state are told, an effect makes them those of the next state
abbrev pub NextIsTold : Type 0
NextIsTold = (T : Task) (X : NumberedTask) → IsNumberedTask T X → (s : State) (test : Test) → TellsFacts X.numbers test s
    → (tree : Effect) (scope : Variables) (slots : Slots) → Fills X.numbers scope slots → is_known_effect X.numbers tree scope ≡ true
    → TellsFacts X.numbers (changed test (taken X.numbers test slots (effect_of X.numbers tree scope))) (next T s (environment_of X.numbers scope slots) tree)
