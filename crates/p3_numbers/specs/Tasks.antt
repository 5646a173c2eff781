-- The numbered task that a task becomes.
use Rattle.std.specs.Prelude.{◌≡◌, List, [], map}
use Rattle.p3_task.specs.Names.{Name}
use Rattle.p3_task.specs.PreferenceNames.{ordered_names}
use Rattle.p3_task.specs.Types.{once_each, declared_objects}
use Rattle.p3_task.specs.declared.task.Action.{Action}
use Rattle.p3_task.specs.declared.task.Header.{Header}
use Rattle.p3_task.specs.declared.task.Task.{Task}
use Rattle.p3_numbers.specs.Constraints.{constraint_of}
use Rattle.p3_numbers.specs.Effects.{effect_of}
use Rattle.p3_numbers.specs.Goals.{goal_of}
use Rattle.p3_numbers.specs.Known.{Covers}
use Rattle.p3_numbers.specs.Places.{IsNumbering, ranges_of, words_of}
use Rattle.p3_numbers.specs.Starts.{start_of, initial_values_of}
use Rattle.p3_numbers.specs.declared.numbers.Numbers.{Numbers}
use Rattle.p3_numbers.specs.declared.task.NumberedAction.{NumberedAction}
use Rattle.p3_numbers.specs.declared.task.NumberedTask.{NumberedTask}

abbrev pub header_names : List Header → List Name
header_names headers = map (λ header. header.name.name) headers

abbrev pub object_words : Task → List Name
object_words T = words_of (declared_objects T)

-- each declared name once, in the order of first declaration, constants before objects; those of preferences in the order of the text
pub record HasNames (T : Task) (N : Numbers) : Type 0 where
  pub predicates : N.predicates ≡ once_each (header_names T.domain.predicates)
  pub functions : N.functions ≡ once_each (header_names T.domain.functions)
  pub objects : N.objects ≡ once_each (object_words T)
  pub preferences : N.preferences ≡ ordered_names T

-- its parameters have the first slots
abbrev pub numbered_action : Numbers → Action → NumberedAction
numbered_action N action = record {
  ranges = ranges_of N action.params;
  pre = goal_of N action.pre.body (words_of action.params);
  effect = effect_of N action.effect.body (words_of action.params);
}

-- each part of the task with numbers
pub record IsNumberedTask (T : Task) (X : NumberedTask) : Type 0 where
  pub names : HasNames T X.numbers
  pub numbering : IsNumbering T X.numbers
  pub covers : Covers T X.numbers
  pub actions : X.actions ≡ map (numbered_action X.numbers) T.domain.actions
  pub domain : X.domain_constraints ≡ constraint_of X.numbers T.domain.constraints.body []
  pub problem : X.problem_constraints ≡ constraint_of X.numbers T.problem.constraints.body []
  pub goal : X.goal ≡ goal_of X.numbers T.problem.goal.body []
  pub start : X.start ≡ start_of X.numbers T
  pub values : X.values ≡ initial_values_of X.numbers T
