-- Whether a task is plain, part by part.
use Rattle.std.specs.Prelude.{Bool, not, ◌&&◌, List}
use Rattle.std.specs.List.{list_any}
use Rattle.p3_task.specs.Lifting.{constrains, prefers}
use Rattle.p3_task.specs.declared.task.Action.{Action}
use Rattle.p3_task.specs.declared.task.Task.{Task}

-- a preference stands in the precondition of some action
abbrev pub some_prefers : List Action → Bool
some_prefers actions = list_any (λ (action : Action). prefers action.pre.body) actions

-- neither a constraint nor a preference stands in it
abbrev pub has_plain_trees : Task → Bool
has_plain_trees T = not (constrains T.domain.constraints.body) && not (constrains T.problem.constraints.body) && not (some_prefers T.domain.actions) && not (prefers T.problem.goal.body)
