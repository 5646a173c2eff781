-- What the sections of a problem give.
use Rattle.std.specs.Prelude.{List, [], codes, Option, Some, None}
use Rattle.p3_task.specs.Grammar.Words.{◌>>=◌, each_at, name_place, predicate_place, function_place}
use Rattle.p3_task.specs.Grammar.Lists.{object_place, objects_in}
use Rattle.p3_task.specs.Grammar.Goals.{goal_or_empty_place}
use Rattle.p3_task.specs.Grammar.Metrics.{metric_in}
use Rattle.p3_task.specs.Grammar.Halves.{Section, optional, once, body_at, part_at, initial_in, init_place}
use Rattle.p3_task.specs.declared.expression.Expression.{Expression}
use Rattle.p3_task.specs.declared.term.Ref.{Ref}
use Rattle.p3_task.specs.declared.term.Typed.{Typed}
use Rattle.p3_task.specs.declared.goal.PreGoal.{PreGoal}
use Rattle.p3_task.specs.declared.metric.Metric.{Metric}
use Rattle.p3_task.specs.declared.task.Part.{Part}
use Rattle.p3_task.specs.declared.task.Init.{Init}
use Rattle.p3_task.specs.declared.task.Init.TheVariants as init
use Rattle.p3_task.specs.declared.effect.Numeral.{Numeral}
use Rattle.p3_task.specs.declared.task.Problem.{Problem}
use Rattle.p3_syntax.specs.declared.tree.problems.Start.{Start}
use Rattle.p3_syntax.specs.declared.tree.problems.Conditions.{Conditions}
use Rattle.p3_syntax.specs.declared.tree.problems.Aims.{Aims}
use Rattle.p3_syntax.specs.declared.tree.problems.ProblemContents.{ProblemContents}
use Rattle.p3_outline.specs.declared.view.Parts.{Parts}
use Rattle.p3_outline.specs.Nodes.{expressions_of}
use Rattle.p3_syntax.specs.Sections.{requirements_among, constraints_among}

-- an atom's entry, from its parts
abbrev pub entry_in : (Ref → List Expression → Option Init) → Parts → Option Init
entry_in entry parts = initial_in entry predicate_place (expressions_of parts)

-- and that of a function's value
abbrev pub value_in : Numeral → Parts → Option Init
value_in number parts = initial_in (λ function others. each_at object_place others >>= λ args. Some (init.Value function args number)) function_place (expressions_of parts)

abbrev pub domain_name_among : List Section → Option Ref
domain_name_among sections = once (codes ":domain") (body_at name_place) sections

abbrev pub objects_among : List Section → Option (List Typed)
objects_among sections = optional (codes ":objects") [] (λ section. objects_in section.behind) sections

abbrev pub init_among : List Section → Option (List Init)
init_among sections = once (codes ":init") (λ section. each_at init_place section.behind) sections

abbrev pub goal_among : List Section → Option (Part PreGoal)
goal_among sections = once (codes ":goal") (part_at goal_or_empty_place) sections

abbrev pub metric_among : List Section → Option (Option Metric)
metric_among sections = optional (codes ":metric") None (λ section. metric_in section.behind >>= λ found. Some (Some found)) sections

-- ---- the sections together

abbrev pub start_among : List Section → Option Start
start_among sections = do
  domain ← domain_name_among sections
  words ← requirements_among sections
  objects ← objects_among sections
  entries ← init_among sections
  Some (record { domain = domain; objects = objects; init = entries })

abbrev pub conditions_among : List Section → Option Conditions
conditions_among sections = do
  goal ← goal_among sections
  constraints ← constraints_among sections
  Some (record { goal = goal; constraints = constraints })

abbrev pub aims_among : List Section → Option Aims
aims_among sections = do
  metric ← metric_among sections
  conditions ← conditions_among sections
  Some (record { conditions = conditions; metric = metric })

abbrev pub contents_among : List Section → Option ProblemContents
contents_among sections = do
  start ← start_among sections
  aims ← aims_among sections
  Some (record { start = start; aims = aims })

abbrev pub problem_of : Ref → ProblemContents → Problem
problem_of name contents = record {
  name = name;
  domain = contents.start.domain;
  objects = contents.start.objects;
  init = contents.start.init;
  goal = contents.aims.conditions.goal;
  constraints = contents.aims.conditions.constraints;
  metric = contents.aims.metric;
}
