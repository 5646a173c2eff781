-- The initial state with numbers.
use Rattle.std.specs.Prelude.{◌≡◌, Bool, true, ◌&&◌, List, [], map, filter_map, Option, Some, None}
use Rattle.std.specs.List.{list_all}
use Rattle.p3_task.specs.Names.{has_name}
use Rattle.p3_task.specs.States.{start}
use Rattle.p3_task.specs.declared.state.Fact.{Fact}
use Rattle.p3_task.specs.declared.task.Init.{Init}
use Rattle.p3_task.specs.declared.task.Init.TheVariants.{True, False, Value}
use Rattle.p3_task.specs.declared.task.Task.{Task}
use Rattle.p3_numbers.specs.Places.{number_in, numbered_terms, are_known_terms}
use Rattle.p3_numbers.specs.Slots.{values_of, name_at, object_names}
use Rattle.p3_numbers.specs.declared.numbers.Numbers.{Numbers}
use Rattle.p3_numbers.specs.declared.task.NumberedFact.{NumberedFact}
use Rattle.p3_numbers.specs.declared.task.NumberedValue.{NumberedValue}

abbrev pub fact_by : Numbers → NumberedFact → Fact
fact_by N fact = record { name = name_at N.predicates fact.predicate; args = object_names N fact.objects }

abbrev pub entry_fact : Numbers → Init → Option NumberedFact
entry_fact N (True pred args) = Some (record { predicate = number_in N.predicates pred.name; objects = values_of [] (numbered_terms N [] args) })
entry_fact N (False pred args) = None
entry_fact N (Value function args number) = None

unfoldable pub start_of : Numbers → Task → List NumberedFact
start_of N T = filter_map (entry_fact N) T.problem.init

-- the values that the entries give, that of the total cost among them
abbrev pub entry_value : Numbers → Init → Option NumberedValue
entry_value N (True pred args) = None
entry_value N (False pred args) = None
entry_value N (Value function args number) = Some (record { function = number_in N.functions function.name; objects = values_of [] (numbered_terms N [] args); number = number })

unfoldable pub initial_values_of : Numbers → Task → List NumberedValue
initial_values_of N T = filter_map (entry_value N) T.problem.init

abbrev pub is_known_entry : Numbers → Init → Bool
is_known_entry N (True pred args) = has_name N.predicates pred.name && are_known_terms N [] args
is_known_entry N (False pred args) = has_name N.predicates pred.name && are_known_terms N [] args
is_known_entry N (Value function args number) = has_name N.functions function.name && are_known_terms N [] args

-- the same atoms are true at the start, in the same order
abbrev pub StartIsKept : Task → Numbers → Type 0
StartIsKept T N = list_all (is_known_entry N) T.problem.init ≡ true → map (fact_by N) (start_of N T) ≡ start T
