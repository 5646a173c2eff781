-- What the ghost fields of a checked task say.
use Rattle.std.proofs.Common.{◌≡◌, refl, IsTrue, ap, ◌∙◌, [], Option, Some, None, ◌<◌, ℕ, List, length}
use Rattle.std.specs.Prelude.{is_none, slice_index_or}
use Rattle.std.proofs.lemmas.List.{get_or-map}
use Rattle.p3_task.proofs.OffenceLemmas.{well_formed_where_no_offence}
use Rattle.p3_task.specs.FirstOffence.{first_offence}
use Rattle.p3_task.specs.Names.{Name}
use Rattle.p3_task.specs.Offences.{WellFormed}
use Rattle.p3_task.specs.declared.task.Task.{Task}
use Rattle.p3_numbers.specs.Known.{Covers}
use Rattle.p3_numbers.specs.Places.{IsNumbering}
use Rattle.p3_numbers.specs.Slots.{name_at}
use Rattle.p3_numbers.specs.Tasks.{HasNames, IsNumberedTask}
use Rattle.p3_numbers.specs.declared.task.NumberedTask.{NumberedTask}
use Rattle.p3_types.specs.Tables.{task_over, is_well_formed, greatest_value_of, greatest_values}

none_from : {A : Type 0} (found : Option A) → IsTrue (is_none found) → found ≡ None
none_from None holds = refl
none_from (Some x) holds = absurd (cc)

pub well_formed_from : (T : Task) → IsTrue (is_well_formed T) → WellFormed T
well_formed_from T holds = (well_formed_where_no_offence T).1 (none_from (first_offence T) holds)

none_test : {A : Type 0} (found : Option A) → found ≡ None → IsTrue (is_none found)
none_test None none = refl
none_test (Some x) none = absurd (cc)

pub well_formed_test : (T : Task) → WellFormed T → IsTrue (is_well_formed T)
well_formed_test T well = none_test (first_offence T) ((well_formed_where_no_offence T).0 well)

pub greatest_at : (T : Task) (functions : List Name) (values : List ℕ) (k : ℕ) (d : ℕ) → values ≡ greatest_values T functions → k < length functions → slice_index_or values k d ≡ greatest_value_of T (name_at functions k)
greatest_at T functions values k d is within = ap (λ (all : List ℕ). slice_index_or all k d) is ∙ get_or-map (greatest_value_of T) functions k [] d within

pub numbered_from : (T : Task) (X : NumberedTask) → HasNames T X.numbers → IsNumbering T X.numbers → Covers T X.numbers → X ≡ task_over X.numbers T → IsNumberedTask T X
numbered_from T X names numbering covers trees = record {
  names = names;
  numbering = numbering;
  covers = covers;
  actions = ap (λ (Y : NumberedTask). Y.actions) trees;
  domain = ap (λ (Y : NumberedTask). Y.domain_constraints) trees;
  problem = ap (λ (Y : NumberedTask). Y.problem_constraints) trees;
  goal = ap (λ (Y : NumberedTask). Y.goal) trees;
  start = ap (λ (Y : NumberedTask). Y.start) trees;
  values = ap (λ (Y : NumberedTask). Y.values) trees;
}

pub trees_from : (T : Task) (X : NumberedTask) → IsNumberedTask T X → X ≡ task_over X.numbers T
trees_from T X is = λ i. record {
  numbers = X.numbers;
  actions = is.actions i;
  domain_constraints = is.domain i;
  problem_constraints = is.problem i;
  goal = is.goal i;
  start = is.start i;
  values = is.values i;
}
