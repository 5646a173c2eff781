-- What the numbers of a well-formed task cover: each name in it has a number, and each variable a slot.
use Rattle.std.specs.Prelude.{◌≡◌, Bool, true, ◌&&◌, List, [], ◌++◌, flat_map}
use Rattle.std.specs.List.{list_any, list_all}
use Rattle.p3_task.specs.Names.{Name, same_name, has_name}
use Rattle.p3_task.specs.Offences.{WellFormed, is_declared}
use Rattle.p3_task.specs.PreferenceNames.{preference_names}
use Rattle.p3_task.specs.Types.{declared_objects}
use Rattle.p3_task.specs.Uses.{Use, Objects, Variables, AtomUse, FunctionUse, SideUse, NameUse, action_uses, constraint_uses, problem_uses}
use Rattle.p3_task.specs.declared.task.Action.{Action}
use Rattle.p3_task.specs.declared.task.Header.{Header}
use Rattle.p3_task.specs.declared.task.Task.{Task}
use Rattle.p3_numbers.specs.Constraints.{is_known_constraint}
use Rattle.p3_numbers.specs.Effects.{is_known_effect}
use Rattle.p3_numbers.specs.Goals.{is_known_goal}
use Rattle.p3_numbers.specs.Places.{words_of, are_known_types}
use Rattle.p3_numbers.specs.Starts.{is_known_entry}
use Rattle.p3_numbers.specs.declared.numbers.Numbers.{Numbers}

abbrev pub declares : List Header → Name → Bool
declares headers name = list_any (λ header. same_name header.name.name name) headers

-- whether there is a range for each variable that is declared there
abbrev pub has_use_types : Numbers → Use → Bool
has_use_types N (Objects objects) = true
has_use_types N (Variables variables) = are_known_types N variables
has_use_types N (AtomUse pred args scope) = true
has_use_types N (FunctionUse function args scope) = true
has_use_types N (SideUse side scope) = true
has_use_types N (NameUse name) = true

-- what is used behind the headers of predicates and functions, whose parameters nobody binds
abbrev pub tree_uses : Task → List Use
tree_uses T = constraint_uses T.domain.constraints.body [] ++ flat_map action_uses T.domain.actions ++ problem_uses T.problem

-- what is declared has a number, and there is a range for each variable that is bound
pub record Covers (T : Task) (N : Numbers) : Type 0 where
  pub predicates : (name : Name) → declares T.domain.predicates name ≡ true → has_name N.predicates name ≡ true
  pub functions : (name : Name) → declares T.domain.functions name ≡ true → has_name N.functions name ≡ true
  pub objects : (name : Name) → is_declared (declared_objects T) name ≡ true → has_name N.objects name ≡ true
  pub preferences : (name : Name) → has_name (preference_names T) name ≡ true → has_name N.preferences name ≡ true
  pub types : list_all (has_use_types N) (tree_uses T) ≡ true

abbrev pub is_known_action : Numbers → Action → Bool
is_known_action N action = are_known_types N action.params && is_known_goal N action.pre.body (words_of action.params) && is_known_effect N action.effect.body (words_of action.params)

-- all in the trees of the task is known
pub record IsKnownTask (T : Task) (N : Numbers) : Type 0 where
  pub actions : list_all (is_known_action N) T.domain.actions ≡ true
  pub domain : is_known_constraint N T.domain.constraints.body [] ≡ true
  pub problem : is_known_constraint N T.problem.constraints.body [] ≡ true
  pub goal : is_known_goal N T.problem.goal.body [] ≡ true
  pub initial : list_all (is_known_entry N) T.problem.init ≡ true

abbrev pub WellFormedIsKnown : Type 0
WellFormedIsKnown = (T : Task) (N : Numbers) → WellFormed T → Covers T N → IsKnownTask T N
