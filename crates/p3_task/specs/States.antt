-- States, environments and terms.
use Rattle.std.specs.Prelude.{Bool, List, [], ◌∷◌, map, filter_map, if◌then◌else◌, ◌&&◌, Option, Some, None}
use Rattle.std.specs.List.{list_any}
use Rattle.p3_task.specs.Names.{Name, same_name, same_names}
use Rattle.p3_task.specs.declared.term.Ref.{Ref}
use Rattle.p3_task.specs.declared.term.Term.{Term}
use Rattle.p3_task.specs.declared.term.Term.TheVariants.{Var, Const}
use Rattle.p3_task.specs.declared.state.Fact.{Fact}
use Rattle.p3_task.specs.declared.state.Binding.{Binding}
use Rattle.p3_task.specs.declared.task.Init.{Init}
use Rattle.p3_task.specs.declared.task.Init.TheVariants.{True, False, Value}
use Rattle.p3_task.specs.declared.task.Task.{Task}

-- the ground atoms that are true; of this list only the membership counts
abbrev pub State : Type 0
State = List Fact

-- variables and the objects that they mean, the newest first
abbrev pub Environment : Type 0
Environment = List Binding

abbrev pub same_fact : Fact → Fact → Bool
same_fact first second = same_name first.name second.name && same_names first.args second.args

abbrev pub has_fact : State → Fact → Bool
has_fact s fact = list_any (λ other. same_fact other fact) s

-- the object of the newest pair; a variable without a pair, which no well-formed task uses, stands for itself
abbrev pub object_of : Environment → Name → Name
object_of [] variable = variable
object_of (newest ∷ older) variable = if same_name newest.variable variable then newest.object else object_of older variable

abbrev pub meaning : Environment → Term → Name
meaning env (Var ref) = object_of env ref.name
meaning env (Const ref) = ref.name

abbrev pub meanings : Environment → List Term → List Name
meanings env args = map (meaning env) args

abbrev pub fact_of : Environment → Ref → List Term → Fact
fact_of env pred args = record { name = pred.name; args = meanings env args }

-- an atom that is said to be false has no effect
abbrev pub initial_fact : Init → Option Fact
initial_fact (True pred args) = Some (fact_of [] pred args)
initial_fact (False pred args) = None
initial_fact (Value function args number) = None

-- the initial state
unfoldable pub start : Task → State
start T = filter_map initial_fact T.problem.init
