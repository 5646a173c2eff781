use Rattle.p3_accounts.proofs.Worked.{whole_account, faults_of_steps, headings_of_constraints, states_that_show, shares_of_a_metric, names_of_tasks}
use Rattle.p3_accounts.proofs.laws.worked_accounts.Goals as goal

pub returns : goal.returns
returns c = record {
  whole = whole_account;
  faults = faults_of_steps;
  headings = headings_of_constraints;
  states = states_that_show;
  shares = shares_of_a_metric;
  names = names_of_tasks;
}
