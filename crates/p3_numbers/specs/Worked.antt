-- Worked cases on numbered formulas: hidden variables, several types, equality and types without objects.
use Rattle.std.specs.Prelude.{◌≡◌, Bool, true, false, List, [], ◌∷◌, codes, map}
use Prim.Native.String.{String}
use Rattle.p3_task.specs.States.{State}
use Rattle.p3_task.specs.Worked.Build.{term, typed, atom}
use Rattle.p3_task.specs.declared.formula.Formula.{Formula}
use Rattle.p3_task.specs.declared.formula.Formula.TheVariants as formula
use Rattle.p3_numbers.specs.Conditions.{met, condition_of}
use Rattle.p3_numbers.specs.declared.condition.NumberedArgument.TheVariants.{Slot}
use Rattle.p3_numbers.specs.declared.condition.NumberedCondition.TheVariants as condition
use Rattle.p3_numbers.specs.declared.numbers.Numbers.{Numbers}

-- two objects, the first of type t and the second of type u, and none of type v
unfoldable pub small : Numbers
small = record {
  predicates = codes "p" ∷ [];
  functions = [];
  objects = codes "a" ∷ codes "b" ∷ [];
  preferences = [];
  types = (codes "t" ∷ []) ∷ (codes "t" ∷ codes "u" ∷ []) ∷ (codes "v" ∷ []) ∷ [];
  ranges = (0 ∷ []) ∷ (0 ∷ 1 ∷ []) ∷ [] ∷ [];
}

abbrev pub p_at : List String → State
p_at objects = map (λ object. record { name = codes "p"; args = codes object ∷ [] }) objects

abbrev pub is_met : State → Formula → Bool
is_met s tree = met small s [] (condition_of small tree [])

-- (exists (?x - t) (forall (?x - (either t u)) (p ?x)))
abbrev pub hidden_variable : Formula
hidden_variable = formula.Exists (typed "?x" ("t" ∷ []) ∷ []) (formula.Forall (typed "?x" ("t" ∷ "u" ∷ []) ∷ []) (atom "p" ("?x" ∷ [])))

pub record AnInnerVariableHasASlotOfItsOwn : Type 0 where
  pub condition : condition_of small hidden_variable [] ≡ condition.Exists (0 ∷ []) (condition.Forall (1 ∷ []) (condition.Atom 0 (Slot 1 ∷ [])))
  pub of_all : is_met (p_at ("a" ∷ "b" ∷ [])) hidden_variable ≡ true
  pub of_the_outer_type : is_met (p_at ("a" ∷ [])) hidden_variable ≡ false

pub record EqualTermsAreOneObject : Type 0 where
  -- (= a b)
  pub two_objects : is_met [] (formula.Equal (term "a") (term "b")) ≡ false
  -- (exists (?x - (either t u)) (= b ?x))
  pub found : is_met [] (formula.Exists (typed "?x" ("t" ∷ "u" ∷ []) ∷ []) (formula.Equal (term "b") (term "?x"))) ≡ true
  -- (exists (?x - t) (= b ?x))
  pub of_another_type : is_met [] (formula.Exists (typed "?x" ("t" ∷ []) ∷ []) (formula.Equal (term "b") (term "?x"))) ≡ false

pub record ATypeWithoutObjects : Type 0 where
  -- (exists (?x - v) (and))
  pub some : is_met [] (formula.Exists (typed "?x" ("v" ∷ []) ∷ []) (formula.And [])) ≡ false
  -- (forall (?x - v) (or))
  pub all : is_met [] (formula.Forall (typed "?x" ("v" ∷ []) ∷ []) (formula.Or [])) ≡ true
