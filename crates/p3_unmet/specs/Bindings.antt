-- Variables in scope that mean objects, pair by pair, and the environment that they make.
use Rattle.std.specs.Prelude.{◌≡◌, List, [], ◌∷◌, map}
use Rattle.p3_task.specs.States.{Environment}
use Rattle.p3_numbers.specs.Places.{Variables, environment_of}
use Rattle.p3_numbers.specs.Slots.{Slots}
use Rattle.p3_numbers.specs.declared.numbers.Numbers.{Numbers}
use Rattle.p3_accounts.specs.declared.subject.Binding.{Binding}

-- each variable with its object, as long as there are both
abbrev pub paired_with : Variables → Slots → List Binding
paired_with [] objects = []
paired_with (variable ∷ scope) [] = []
paired_with (variable ∷ scope) (object ∷ objects) = record { variable = variable; object = object } ∷ paired_with scope objects

-- the environment that bindings make, the last one the newest
abbrev pub bound_by : Numbers → List Binding → Environment
bound_by N bindings = environment_of N (map (λ (binding : Binding). binding.variable) bindings) (map (λ (binding : Binding). binding.object) bindings)

-- variables with objects make the environment that they make apart
abbrev pub PairsBind : Type 0
PairsBind = (N : Numbers) (scope : Variables) (objects : Slots) → bound_by N (paired_with scope objects) ≡ environment_of N scope objects
