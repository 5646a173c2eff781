use Rattle.p3_task.proofs.Worked.{first_example, an_inner_variable_hides_an_outer_one, an_add_wins_over_a_delete, the_second_step_fails, a_type_may_have_no_objects, counts_of_one_name_add, great_values_may_be_better, the_same_state_is_not_before, at_most_once_means_one_stretch, sometime_after_means_then_or_later, the_delivery, faults_of_one_step, domain_offences, problem_offences, counts_for_limits, numbers_with_a_point, texts_of_tasks, texts_of_no_task}
use Rattle.p3_task.proofs.laws.worked_cases.Goals as goal

pub returns : goal.returns
returns c = record {
  first_example = first_example;
  hiding = an_inner_variable_hides_an_outer_one;
  add_and_delete = an_add_wins_over_a_delete;
  second_step = the_second_step_fails;
  empty_type = a_type_may_have_no_objects;
  three_places = counts_of_one_name_add;
  maximize = great_values_may_be_better;
  same_state = the_same_state_is_not_before;
  at_most_once = at_most_once_means_one_stretch;
  sometime_after = sometime_after_means_then_or_later;
  delivery = the_delivery;
  faults = faults_of_one_step;
  domain_offences = domain_offences;
  problem_offences = problem_offences;
  limits = counts_for_limits;
  decimals = numbers_with_a_point;
  texts = texts_of_tasks;
  refused = texts_of_no_task;
}
