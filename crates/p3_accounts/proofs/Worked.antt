-- The worked accounts compute.
use Rattle.std.proofs.Common.{refl}
use Rattle.std.specs.Fmt.{digits}
use Rattle.p3_accounts.specs.Worked.{truck_numbers, truck_words, AnAccountOfAPrecondition, FaultsOfSteps, HeadingsOfConstraints, NamesOfTasks, SharesOfAMetric, StatesThatShow}

unfoldable words_compute : Unit {0}
unfolding digits truck_numbers truck_words
words_compute = tt

pub whole_account : AnAccountOfAPrecondition
unfolding words_compute
whole_account = refl

pub faults_of_steps : FaultsOfSteps
unfolding words_compute
faults_of_steps = record { unknown = refl; few = refl; many = refl; no_object = refl; no_type = refl; no_value = refl }

pub headings_of_constraints : HeadingsOfConstraints
unfolding words_compute
headings_of_constraints = record { goal = refl; hard = refl; bare = refl; soft = refl; unnamed = refl; of_step = refl }

pub states_that_show : StatesThatShow
unfolding words_compute
states_that_show = record { none = refl; two_formulas = refl; one_formula = refl }

pub shares_of_a_metric : SharesOfAMetric
unfolding words_compute
shares_of_a_metric = refl

pub names_of_tasks : NamesOfTasks
unfolding words_compute
names_of_tasks = record { step = refl; atom = refl; monitor = refl; chain = refl; end = refl }
