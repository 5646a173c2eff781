-- The worked cases compute.
use Rattle.std.proofs.Common.{refl}
use Rattle.p3_task.specs.Worked.FirstExample.{read, written, FirstExample}
use Rattle.p3_task.specs.Worked.Steps.{hiding, both_changes, once_only, AnInnerVariableHidesAnOuterOne, AnAddWinsOverADelete, TheSecondStepFails}
use Rattle.p3_task.specs.Worked.Preferences.{empty_type, three_places, rewarded, ATypeMayHaveNoObjects, CountsOfOneNameAdd, GreatValuesMayBeBetter}
use Rattle.p3_task.specs.Worked.Trajectories.{both_at_once, switched, answered, TheSameStateIsNotBefore, AtMostOnceMeansOneStretch, SometimeAfterMeansThenOrLater}
use Rattle.p3_task.specs.Worked.Trucks.{trucks, delivery, written_delivery, TheDelivery, FaultsOfOneStep}
use Rattle.p3_task.specs.Worked.Decimals.{long_trucks, weighted_by_half, weighted_by_product, number_of, NumbersWithAPoint}
use Rattle.p3_task.specs.Worked.Limits.{hundred_objects, eight_objects, nine_objects, dear, sum_of_three, CountsForLimits}
use Rattle.p3_task.specs.Worked.Offences.{with_action, with_problem, DomainOffences, ProblemOffences}
use Rattle.p3_task.specs.Worked.Texts.{domain_text, problem_text, TextsOfTasks, TextsOfNoTask}
use Rattle.p3_task.proofs.Computes.{meaning_computes, texts_compute}

pub first_example : FirstExample
unfolding meaning_computes read written
first_example = record {
  read_steps = refl;
  read_instances = refl;
  read_base = refl;
  read_weight = refl;
  well_formed = record { duplicates = refl; unknowns = refl; miscounts = refl; clashes = refl };
  plain = refl;
  variable_free = refl;
  forgoing_valid = refl;
  forgoing_cost = refl;
  forgoing_lifts = refl;
  forgoing_loss = refl;
  collecting_valid = refl;
  collecting_cost = refl;
  collecting_lifts = refl;
  collecting_loss = refl;
}

pub an_inner_variable_hides_an_outer_one : AnInnerVariableHidesAnOuterOne
unfolding meaning_computes hiding
an_inner_variable_hides_an_outer_one = record {
  well_formed = record { duplicates = refl; unknowns = refl; miscounts = refl; clashes = refl };
  holds_inside = refl;
  cost = refl;
  value = refl;
  fails_outside = refl;
}

pub an_add_wins_over_a_delete : AnAddWinsOverADelete
unfolding meaning_computes both_changes
an_add_wins_over_a_delete = record { both = refl; delete_alone = refl }

pub the_second_step_fails : TheSecondStepFails
unfolding meaning_computes once_only
the_second_step_fails = record { one = refl; two = refl }

pub a_type_may_have_no_objects : ATypeMayHaveNoObjects
unfolding meaning_computes empty_type
a_type_may_have_no_objects = record { steps = refl; instances = refl; valid = refl; outside = refl; inside = refl; value = refl }

pub counts_of_one_name_add : CountsOfOneNameAdd
unfolding meaning_computes three_places
counts_of_one_name_add = record { valid = refl; cost = refl; count = refl; value = refl; instances = refl }

pub great_values_may_be_better : GreatValuesMayBeBetter
unfolding meaning_computes rewarded
great_values_may_be_better = record { base = refl; weight = refl; count_without = refl; value_without = refl; loss_without = refl; count_with = refl; value_with = refl }

pub the_same_state_is_not_before : TheSameStateIsNotBefore
unfolding meaning_computes both_at_once
the_same_state_is_not_before = record { valid = refl; count = refl; value = refl }

pub at_most_once_means_one_stretch : AtMostOnceMeansOneStretch
unfolding meaning_computes switched
at_most_once_means_one_stretch = record {
  at_1101 = record { valid = refl; count = refl; value = refl };
  at_0110 = record { valid = refl; count = refl; value = refl };
  at_1 = record { valid = refl; count = refl; value = refl };
}

pub sometime_after_means_then_or_later : SometimeAfterMeansThenOrLater
unfolding meaning_computes answered
sometime_after_means_then_or_later = record {
  then = record { valid = refl; count = refl; value = refl };
  never = record { valid = refl; count = refl; value = refl };
  later = record { valid = refl; count = refl; value = refl };
  still = record { valid = refl; count = refl; value = refl };
}

pub the_delivery : TheDelivery
unfolding meaning_computes trucks delivery written_delivery
the_delivery = record {
  well_formed = record { duplicates = refl; unknowns = refl; miscounts = refl; clashes = refl };
  steps = refl;
  instances = refl;
  valid = refl;
  light = refl;
  home = refl;
  back = refl;
  once = refl;
  late = refl;
  cost = refl;
  value = refl;
  lifts = refl;
}

pub faults_of_one_step : FaultsOfOneStep
unfolding meaning_computes trucks
faults_of_one_step = record { no_cost = refl; too_few = refl; unknown = refl }

pub counts_for_limits : CountsForLimits
unfolding meaning_computes hundred_objects eight_objects nine_objects dear trucks sum_of_three
counts_for_limits = record {
  hundred_size = refl;
  eight_steps = refl;
  eight_width = refl;
  eight_extra = refl;
  nine_width = refl;
  nine_extra = refl;
  mixed_extra = refl;
  wide_bound = refl;
  dear_bound = refl;
  drive_bound = refl;
  drive_size = refl;
  load_width = refl;
  load_bound = refl;
  load_size = refl;
  trucks_instances = refl;
  trucks_constraints = refl;
  sum_constant = refl;
  sum_coefficient = refl;
  other_coefficient = refl;
  sum_cost_coefficient = refl;
}

pub numbers_with_a_point : NumbersWithAPoint
unfolding meaning_computes texts_compute read long_trucks weighted_by_half weighted_by_product number_of delivery
numbers_with_a_point = record {
  long_valid = refl;
  long_cost_places = refl;
  long_cost = refl;
  long_metric_places = refl;
  long_scale = refl;
  long_value = refl;
  long_base = refl;
  long_weight = refl;
  long_cost_weight = refl;
  long_bound = refl;
  half_places = refl;
  half_scale = refl;
  half_base = refl;
  half_weight = refl;
  small_places = refl;
  difference_constant = refl;
  difference_cost = refl;
  difference_late = refl;
  one_half = refl;
  no_point = refl;
  first_point = refl;
  last_point = refl;
  two_points = refl;
}

pub domain_offences : DomainOffences
unfolding meaning_computes with_action
domain_offences = record { fine = refl; duplicate = refl; unknown = refl; miscount = refl; clash = refl; cost = refl }

pub problem_offences : ProblemOffences
unfolding meaning_computes with_problem
problem_offences = record { duplicate = refl; unknown = refl }

pub texts_of_tasks : TextsOfTasks
unfolding texts_compute domain_text problem_text read written
texts_of_tasks = record { first_domain = refl; first_problem = refl; written_domain = refl; written_problem = refl; delivery_domain = refl; delivery_problem = refl }

pub texts_of_no_task : TextsOfNoTask
unfolding texts_compute domain_text problem_text
texts_of_no_task = record { nested_operator = refl; number_argument = refl; increase_under_when = refl; twice = refl; nested_preference = refl }
