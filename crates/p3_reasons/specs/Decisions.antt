-- Ground literals that decide whether something holds in a state: who has checked them has checked it.
use Rattle.std.specs.Prelude.{◌≡◌, ℕ, Bool, true, not, if◌then◌else◌, List, [], map, flat_map, slice_get, Some}
use Rattle.std.specs.List.{list_all}
use Rattle.p3_task.specs.Bindings.{bind}
use Rattle.p3_task.specs.Folds.{fold_goal}
use Rattle.p3_task.specs.Formulas.{holds}
use Rattle.p3_task.specs.Goals.{hard_holds}
use Rattle.p3_task.specs.Mentions.{formula_atoms}
use Rattle.p3_task.specs.States.{State, Environment, has_fact}
use Rattle.p3_task.specs.declared.formula.Formula.{Formula}
use Rattle.p3_task.specs.declared.goal.PreGoal.{PreGoal}
use Rattle.p3_task.specs.declared.goal.PreGoal.TheOpen.{PreGoal-F, Plain, Both, Each, Soft}
use Rattle.p3_task.specs.declared.state.Fact.{Fact}
use Rattle.p3_task.specs.declared.task.Task.{Task}
use Rattle.p3_numbers.specs.declared.numbers.Numbers.{Numbers}
use Rattle.p3_expansion.specs.Atoms.{fact_of}
use Rattle.p3_reasons.specs.Outcomes.{Test}
use Rattle.p3_reasons.specs.declared.decision.Decision.{Decision}
use Rattle.p3_reasons.specs.declared.decision.Literal.{Literal}

-- ---- literals

-- a ground atom that is said to be true, or to be false
pub record NamedLiteral : Type 0 where
  pub fact : Fact
  pub holds : Bool

-- what is said is so
abbrev pub agree : Bool → Bool → Bool
agree said is = if said then is else not is

abbrev pub is_so : State → NamedLiteral → Bool
is_so s literal = agree literal.holds (has_fact s literal.fact)

abbrev pub are_so : State → List NamedLiteral → Bool
are_so s literals = list_all (is_so s) literals

-- ---- what they decide

-- something that holds in some states, and stands on the atoms that it mentions
pub record Matter : Type 0 where
  pub mentioned : List Fact
  pub holds : State → Bool

pub record Decide (matter : Matter) (s : State) (literals : List NamedLiteral) : Type 0 where
  -- each literal is so in the state
  pub so : are_so s literals ≡ true
  -- its atom is mentioned
  pub mentioned : list_all (λ (literal : NamedLiteral). has_fact matter.mentioned literal.fact) literals ≡ true
  -- no atom stands twice
  pub once : (first second : ℕ) (one other : NamedLiteral) → slice_get literals first ≡ Some one → slice_get literals second ≡ Some other → one.fact ≡ other.fact → first ≡ second
  -- in each state in which they are so it holds as in this one
  pub decide : (other : State) → are_so other literals ≡ true → matter.holds other ≡ matter.holds s

abbrev pub formula_matter : Task → Environment → Formula → Matter
formula_matter T env formula = record { mentioned = formula_atoms T env formula; holds = λ s. holds T s env formula }

-- ---- the hard part of a precondition or a goal

abbrev pub hard_facts_layer : Task → PreGoal-F (Environment → List Fact) → Environment → List Fact
hard_facts_layer T (Plain formula) env = formula_atoms T env formula
hard_facts_layer T (Both parts) env = flat_map (λ part. part env) parts
hard_facts_layer T (Each variables body) env = flat_map body (bind T env variables)
hard_facts_layer T (Soft pref) env = []

-- the atoms that it mentions
unfoldable pub hard_facts : Task → Environment → PreGoal → List Fact
hard_facts T env goal = fold_goal (hard_facts_layer T) goal env

abbrev pub hard_matter : Task → Environment → PreGoal → Matter
hard_matter T env goal = record { mentioned = hard_facts T env goal; holds = λ s. hard_holds T s env goal }

-- ---- by number

-- what a literal says
abbrev pub named_literal : Numbers → Literal → NamedLiteral
named_literal N literal = record { fact = fact_of N literal.atom; holds = literal.holds }

-- the atoms that are true in a state
abbrev pub test_of : Numbers → State → Test
test_of N s atom = has_fact s (fact_of N atom)

-- it tells whether the matter holds in the state, and literals that decide it there
pub record IsDecision (N : Numbers) (matter : Matter) (s : State) (decision : Decision) : Type 0 where
  pub truth : decision.holds ≡ matter.holds s
  pub decide : Decide matter s (map (named_literal N) decision.literals)
