-- What a condition comes to at objects, by a test of ground atoms: whether it holds, and which atoms decide it. Of a true conjunction all parts decide, of a false one its first false part; of a true disjunction its first true part, of a false one all parts.
use Rattle.std.specs.Prelude.{◌==◌, Bool, true, false, not, List, [], ◌∷◌, map, flat_map, find, fold, unwrap_or}
use Rattle.p3_numbers.specs.Folds.{fold_condition, fold_goal}
use Rattle.p3_numbers.specs.Slots.{Slots, value_of, bound}
use Rattle.p3_numbers.specs.declared.condition.NumberedCondition.{NumberedCondition, NumberedCondition-F}
use Rattle.p3_numbers.specs.declared.condition.NumberedCondition.TheOpen as layer
use Rattle.p3_numbers.specs.declared.goal.NumberedGoal.{NumberedGoal, NumberedGoal-F}
use Rattle.p3_numbers.specs.declared.goal.NumberedGoal.TheOpen as goal_layer
use Rattle.p3_numbers.specs.declared.numbers.Numbers.{Numbers}
use Rattle.p3_expansion.specs.Atoms.{GroundAtom, atom_at, with_atom}
use Rattle.p3_reasons.specs.declared.decision.Decision.{Decision}
use Rattle.p3_reasons.specs.declared.decision.Literal.{Literal}

pub record Outcome : Type 0 where
  pub holds : Bool
  pub atoms : List GroundAtom

-- which ground atoms are true
abbrev pub Test : Type 0
Test = GroundAtom → Bool

-- ---- of parts

-- a false part decides alone whether every part holds, and a true one whether some part does
abbrev pub settles : Bool → Bool → Bool
settles true holds = not holds
settles false holds = holds

-- every part, or else some part: by the first that decides alone, or else by all
abbrev pub joined : Bool → List Outcome → Outcome
joined every parts = unwrap_or (find (λ (part : Outcome). settles every part.holds) parts) (record { holds = every; atoms = flat_map (λ (part : Outcome). part.atoms) parts })

abbrev pub opposite : Outcome → Outcome
opposite part = record part { holds = not part.holds }

-- ---- of a condition

abbrev pub outcome_layer : Numbers → Test → NumberedCondition-F (Slots → Outcome) → Slots → Outcome
outcome_layer N test (layer.Atom predicate args) slots = record { holds = test (atom_at slots predicate args); atoms = atom_at slots predicate args ∷ [] }
outcome_layer N test (layer.Equal left right) slots = record { holds = value_of slots left == value_of slots right; atoms = [] }
outcome_layer N test (layer.And parts) slots = joined true (map (λ part. part slots) parts)
outcome_layer N test (layer.Or parts) slots = joined false (map (λ part. part slots) parts)
outcome_layer N test (layer.Not part) slots = opposite (part slots)
outcome_layer N test (layer.Imply first second) slots = joined false (opposite (first slots) ∷ second slots ∷ [])
outcome_layer N test (layer.Exists ranges body) slots = joined false (map body (bound N slots ranges))
outcome_layer N test (layer.Forall ranges body) slots = joined true (map body (bound N slots ranges))

unfoldable pub outcome : Numbers → Test → Slots → NumberedCondition → Outcome
outcome N test slots condition = fold_condition (outcome_layer N test) condition slots

-- ---- of the hard part of a precondition or a goal: preferences hold

abbrev pub hard_outcome_layer : Numbers → Test → NumberedGoal-F (Slots → Outcome) → Slots → Outcome
hard_outcome_layer N test (goal_layer.Plain condition) slots = outcome N test slots condition
hard_outcome_layer N test (goal_layer.Both parts) slots = joined true (map (λ part. part slots) parts)
hard_outcome_layer N test (goal_layer.Each ranges body) slots = joined true (map body (bound N slots ranges))
hard_outcome_layer N test (goal_layer.Soft preference) slots = record { holds = true; atoms = [] }

unfoldable pub hard_outcome : Numbers → Test → Slots → NumberedGoal → Outcome
hard_outcome N test slots goal = fold_goal (hard_outcome_layer N test) goal slots

-- ---- literals

abbrev pub literal_of : Test → GroundAtom → Literal
literal_of test atom = record { atom = atom; holds = test atom }

-- each of the atoms once, where it comes first
abbrev pub each_once : List GroundAtom → List GroundAtom
each_once atoms = fold with_atom [] atoms

abbrev pub decision_of : Test → Outcome → Decision
decision_of test outcome = record { holds = outcome.holds; literals = map (literal_of test) (each_once outcome.atoms) }
