-- Worked cases of the literals that decide a formula.
use Rattle.std.specs.Prelude.{◌≡◌, Bool, true, false, List, [], ◌∷◌, codes, map}
use Prim.Native.String.{String}
use Rattle.p3_task.specs.States.{State}
use Rattle.p3_task.specs.Worked.Build.{term, typed, atom}
use Rattle.p3_task.specs.declared.formula.Formula.{Formula}
use Rattle.p3_task.specs.declared.formula.Formula.TheVariants.{And, Or, Not, Imply, Exists, Forall, Equal}
use Rattle.p3_numbers.specs.Conditions.{condition_of}
use Rattle.p3_numbers.specs.Worked.{small, p_at}
use Rattle.p3_reasons.specs.Decisions.{NamedLiteral, named_literal, test_of}
use Rattle.p3_reasons.specs.Outcomes.{outcome, decision_of}

-- the literals that decide the formula in the state
abbrev pub deciding : State → Formula → List NamedLiteral
deciding s tree = map (named_literal small) (decision_of (test_of small s) (outcome small (test_of small s) [] (condition_of small tree []))).literals

-- p is true, or false, of the object
abbrev pub p_is : Bool → String → NamedLiteral
p_is holds object = record { fact = record { name = codes "p"; args = codes object ∷ [] }; holds = holds }

abbrev pub p : String → Formula
p object = atom "p" (object ∷ [])

pub record PartsThatDecide : Type 0 where
  -- (and (p a) (not (p b))) is true by both parts
  pub both : deciding (p_at ("a" ∷ [])) (And (p "a" ∷ Not (p "b") ∷ [])) ≡ p_is true "a" ∷ p_is false "b" ∷ []
  -- and false by its first false part alone
  pub one_false : deciding [] (And (Not (p "b") ∷ p "a" ∷ p "b" ∷ [])) ≡ p_is false "a" ∷ []
  -- (or (p a) (p b)) is true by its first true part alone
  pub one_true : deciding (p_at ("b" ∷ [])) (Or (p "a" ∷ p "b" ∷ [])) ≡ p_is true "b" ∷ []
  -- and false by both, each atom once
  pub neither : deciding [] (Or (p "b" ∷ p "a" ∷ p "b" ∷ [])) ≡ p_is false "b" ∷ p_is false "a" ∷ []

pub record ImplicationsThatAreDecided : Type 0 where
  -- (imply (p a) (p b))
  pub by_the_first : deciding [] (Imply (p "a") (p "b")) ≡ p_is false "a" ∷ []
  pub by_the_second : deciding (p_at ("a" ∷ "b" ∷ [])) (Imply (p "a") (p "b")) ≡ p_is true "b" ∷ []
  pub by_both : deciding (p_at ("a" ∷ [])) (Imply (p "a") (p "b")) ≡ p_is true "a" ∷ p_is false "b" ∷ []

-- over the objects a and b
pub record QuantifiersThatAreDecided : Type 0 where
  pub by_one_object : deciding (p_at ("a" ∷ [])) (Forall (typed "?x" ("t" ∷ "u" ∷ []) ∷ []) (p "?x")) ≡ p_is false "b" ∷ []
  pub by_all_objects : deciding (p_at ("a" ∷ "b" ∷ [])) (Forall (typed "?x" ("t" ∷ "u" ∷ []) ∷ []) (p "?x")) ≡ p_is true "a" ∷ p_is true "b" ∷ []
  pub by_some_object : deciding (p_at ("b" ∷ [])) (Exists (typed "?x" ("t" ∷ "u" ∷ []) ∷ []) (p "?x")) ≡ p_is true "b" ∷ []
  -- (forall (?x - v) (p ?x)) where no object has the type, and (= a b), stand on no state
  pub by_nothing : deciding [] (Forall (typed "?x" ("v" ∷ []) ∷ []) (p "?x")) ≡ []
  pub by_names : deciding [] (And (p "a" ∷ Equal (term "a") (term "b") ∷ [])) ≡ p_is false "a" ∷ []
  pub by_names_alone : deciding [] (Equal (term "a") (term "b")) ≡ []
