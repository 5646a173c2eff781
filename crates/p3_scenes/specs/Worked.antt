-- Worked cases of operators and preferences at objects, and of first words.
use Rattle.std.specs.Prelude.{◌≡◌, ℕ, false, List, [], ◌∷◌, codes, map, None, Some}
use Rattle.p3_base.specs.declared.operator.Operator.TheVariants.{Always}
use Rattle.p3_base.specs.declared.refusal.Role.TheVariants.{Domain}
use Rattle.p3_task.specs.Worked.Build.{typed, atom}
use Rattle.p3_task.specs.declared.constraint.Constraint.{Constraint}
use Rattle.p3_task.specs.declared.constraint.Constraint.TheVariants.{Each, Single, Soft}
use Rattle.p3_task.specs.declared.formula.Formula.{Formula}
use Rattle.p3_task.specs.declared.formula.Formula.TheVariants.{Atom, And, Or, Not, Exists}
use Rattle.p3_numbers.specs.Places.{Variables}
use Rattle.p3_numbers.specs.Slots.{Slots}
use Rattle.p3_numbers.specs.Worked.{small}
use Rattle.p3_scenes.specs.FirstWords.{first_word}
use Rattle.p3_scenes.specs.Scenes.{Scene, SoftScene, scenes, soft_scenes}

-- (forall (?x - (either t u)) ..)
abbrev pub of_each : Constraint → Constraint
of_each body = Each (typed "?x" ("t" ∷ "u" ∷ []) ∷ []) body

-- (always (p ?x))
abbrev pub always_p : Constraint
always_p = Single (Always (atom "p" ("?x" ∷ [])))

abbrev pub hard_slots : Constraint → List Slots
hard_slots tree = map (λ (scene : Scene). scene.slots) (scenes small Domain false tree [] [])

abbrev pub hard_variables : Constraint → List Variables
hard_variables tree = map (λ (scene : Scene). scene.scope) (scenes small Domain false tree [] [])

abbrev pub soft_slots : Constraint → List (List Slots)
soft_slots tree = map (λ (scene : SoftScene). map (λ (operator : Scene). operator.slots) scene.operators) (soft_scenes small Domain tree [] [])

-- over the objects a and b, whose numbers are 0 and 1
pub record OperatorsAtObjects : Type 0 where
  pub slots : hard_slots (of_each always_p) ≡ (0 ∷ []) ∷ (1 ∷ []) ∷ []
  pub variables : hard_variables (of_each always_p) ≡ (codes "?x" ∷ []) ∷ (codes "?x" ∷ []) ∷ []
  -- a preference outside the quantifier is one instance with two operators, and one inside it two with one
  pub outside : soft_slots (Soft 0 None (of_each always_p)) ≡ ((0 ∷ []) ∷ (1 ∷ []) ∷ []) ∷ []
  pub inside : soft_slots (of_each (Soft 0 None always_p)) ≡ ((0 ∷ []) ∷ []) ∷ ((1 ∷ []) ∷ []) ∷ []
  pub none_hard : hard_slots (of_each (Soft 0 None always_p)) ≡ []

-- (p) with its word at the offset
abbrev pub p_from : ℕ → Formula
p_from at = Atom (record { name = codes "p"; at = at }) []

pub record FirstWordsOfFormulas : Type 0 where
  -- (and (or) (not (p)) (p))
  pub behind_nothing : first_word (And (Or [] ∷ Not (p_from 7) ∷ p_from 9 ∷ [])) ≡ Some 7
  -- (exists (?x) (p))
  pub of_a_variable : first_word (Exists (record { name = record { name = codes "?x"; at = 3 }; types = [] } ∷ []) (p_from 7)) ≡ Some 3
  -- (and)
  pub none : first_word (And []) ≡ None
