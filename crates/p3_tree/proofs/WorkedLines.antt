-- The worked cases of what is printed compute.
use Rattle.std.proofs.Common.{refl}
use Rattle.p3_task.specs.FirstOffence.{first_offence}
use Rattle.p3_task.specs.PreferenceNames.{named_in_goal, named_in_constraint, ordered_names}
use Rattle.p3_task.specs.Refusals.Constructs.{constructs, constructs_of, constructs_all}
use Rattle.p3_task.specs.Refusals.Texts.{unbalanced_from, too_deep_from, text_refusal}
use Rattle.p3_task.specs.Refusals.Metric.{mentions, operations, nonlinear}
use Rattle.p3_task.specs.PlanTexts.{offence_from}
use Rattle.p3_task.specs.Refusals.First.{task_refusal}
use Rattle.p3_tree.specs.Reports.Explanations.{explained_lines}
use Rattle.p3_tree.specs.Reports.Watching.{judged_lines, blocks, watch_lines}
use Rattle.p3_task.specs.Watching.{lines_from, line_offence, line_text, answer_to}
use Rattle.p3_tree.specs.Worked.Followed.{ExplainedPlans, FollowedPlans, LinesOfTexts}
use Rattle.p3_task.specs.Worked.Preferences.{three_places}
use Rattle.p3_task.specs.Worked.Steps.{both_changes, once_only}
use Rattle.p3_tree.specs.Worked.Touching.{ConditionsOfSteps}
use Rattle.p3_task.specs.Worked.Trajectories.{answered, switched}
use Rattle.p3_tree.specs.Worked.Refusals.{refused, RefusedTexts, RefusedNames, RefusedTasks, NotRefused}
use Rattle.p3_tree.specs.Worked.Lines.{LinesOfTasks, LinesOfPlans, SamplesForOneAndThree, WordsOfCommands, LinesOfUsage}
use Rattle.p3_task.proofs.Computes.{meaning_computes, texts_compute}

-- refusals and printed lines
unfoldable refusals_compute : Unit {0}
unfolding meaning_computes texts_compute first_offence named_in_goal named_in_constraint ordered_names constructs constructs_of constructs_all unbalanced_from too_deep_from text_refusal mentions operations nonlinear task_refusal refused
refusals_compute = tt

pub refused_texts : RefusedTexts
unfolding refusals_compute
refused_texts = record {
  empty_text = refl;
  unbalanced_problem = refl;
  left_out_operator = refl;
  derived_predicate = refl;
  too_deep = refl;
  foreign_byte = refl;
  texts_first = refl;
  numeric_condition = refl;
  long_number = refl;
  too_many_places = refl;
}

pub refused_names : RefusedNames
unfolding refusals_compute
refused_names = record {
  duplicate_variable = refl;
  unknown_predicate = refl;
  too_few_arguments = refl;
  type_clash = refl;
  unknown_preference = refl;
}

pub refused_tasks : RefusedTasks
unfolding refusals_compute
refused_tasks = record {
  negative_weight = refl;
  dear_action = refl;
  too_many_steps = refl;
  not_linear = refl;
  large_product = refl;
  too_many_places_of_a_product = refl;
  dear_value = refl;
  large_goal = refl;
  many_preferences = refl;
  wide_action = refl;
}

pub not_refused : NotRefused
unfolding refusals_compute
not_refused = record {
  fine = refl;
  greatest_cost = refl;
  deep_enough = refl;
  wide_action = refl;
}

pub lines_of_tasks : LinesOfTasks
unfolding refusals_compute
lines_of_tasks = record {
  rewarded = refl;
  half = refl;
  trucks = refl;
  wide = refl;
  wide_extra = refl;
  narrow_extra = refl;
}

pub lines_of_plans : LinesOfPlans
unfolding refusals_compute
lines_of_plans = record {
  delivery = refl;
  rewarded_nothing = refl;
}

pub samples_for_one_and_three : SamplesForOneAndThree
unfolding refusals_compute
samples_for_one_and_three = record {
  problem_of_one = refl;
  plan_of_one = refl;
  problem_of_three = refl;
  text_of_plan = refl;
  read_plan = record { known = refl; marks = refl; words = refl };
  summary = refl;
}

pub words_of_commands : WordsOfCommands
unfolding refusals_compute
words_of_commands = record {
  compile = refl;
  over_inputs = refl;
  one_output = refl;
  no_name = refl;
  lift = refl;
  embed = refl;
  evaluate = refl;
  generate = refl;
  compile_flat = refl;
  explain = refl;
  watch = refl;
  too_few = refl;
  too_many = refl;
  superfluous_zero = refl;
  other_case = refl;
  a_file_more = refl;
  a_file_less = refl;
  none = refl;
}

pub lines_of_usage : LinesOfUsage
lines_of_usage = refl

-- plans that are explained and followed
unfoldable following_computes : Unit {0}
unfolding refusals_compute offence_from explained_lines lines_from line_offence line_text answer_to judged_lines blocks watch_lines both_changes once_only three_places switched answered
following_computes = tt

pub explained_plans : ExplainedPlans
unfolding following_computes
explained_plans = record { came_back = refl; three_places = refl; hard = refl; once = refl; unanswered = refl; answered_late = refl }

pub followed_plans : FollowedPlans
unfolding following_computes
followed_plans = record { second_step_fails = refl; refused_line = refl; two_steps = refl; earlier_offence = refl; unknown = refl; no_lines = refl }

pub lines_of_texts : LinesOfTexts
unfolding following_computes
lines_of_texts = record { none = refl; empty = refl; open_end = refl; closed_end = refl }

pub conditions_of_steps : ConditionsOfSteps
unfolding following_computes
conditions_of_steps = record { thirteen = refl; twelve = refl; line = refl; watched = refl; conditional = refl; unconditional = refl }
