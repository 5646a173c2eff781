-- The operators of trajectory constraints (the PDDL3 report), over whatever stands for a formula: what they are made of, and what they mean over tests at the places of the list of visited states.
use Rattle.std.specs.Prelude.{ℕ, Bool, true, false, ◌&&◌, List, [], ◌∷◌, ◌++◌}
use Rattle.p3_base.specs.Trajectories as trajectory
use Rattle.p3_base.specs.Showings.{shown_at_end, shown_always, shown_sometime, shown_at_most_once, shown_sometime_after, shown_sometime_before}
use Rattle.p3_base.specs.declared.showing.Showing.{Showing}
use Rattle.p3_base.specs.declared.operator.Binary.{Binary}
use Rattle.p3_base.specs.declared.operator.Binary.TheVariants as two
use Rattle.p3_base.specs.declared.operator.Operands.{Operands}
use Rattle.p3_base.specs.declared.operator.Operands.TheVariants.{One, Two}
use Rattle.p3_base.specs.declared.operator.Operator.{Operator}
use Rattle.p3_base.specs.declared.operator.Operator.TheVariants.{AtEnd, Always, Sometime, AtMostOnce, SometimeAfter, SometimeBefore}
use Rattle.p3_base.specs.declared.operator.Unary.{Unary}
use Rattle.p3_base.specs.declared.operator.Unary.TheVariants as one

-- ---- what they are made of

abbrev pub formulas_of : {F : Type 0} → Operator F → List F
formulas_of (AtEnd f) = f ∷ []
formulas_of (Always f) = f ∷ []
formulas_of (Sometime f) = f ∷ []
formulas_of (AtMostOnce f) = f ∷ []
formulas_of (SometimeAfter f g) = f ∷ g ∷ []
formulas_of (SometimeBefore f g) = f ∷ g ∷ []

-- the operator of a kind over its formulas
abbrev pub unary : {F : Type 0} → Unary → F → Operator F
unary one.AtEnd f = AtEnd f
unary one.Always f = Always f
unary one.Sometime f = Sometime f
unary one.AtMostOnce f = AtMostOnce f

abbrev pub binary : {F : Type 0} → Binary → F → F → Operator F
binary two.SometimeAfter f g = SometimeAfter f g
binary two.SometimeBefore f g = SometimeBefore f g

-- as they are lent
abbrev pub operator_of : {F : Type 0} → Operands F → Operator F
operator_of (One kind formula) = unary kind formula.now
operator_of (Two kind first second) = binary kind first.now second.now

-- the same operator over what the formulas become
abbrev pub over : {F G : Type 0} → (F → G) → Operator F → Operator G
over become (AtEnd f) = AtEnd (become f)
over become (Always f) = Always (become f)
over become (Sometime f) = Sometime (become f)
over become (AtMostOnce f) = AtMostOnce (become f)
over become (SometimeAfter f g) = SometimeAfter (become f) (become g)
over become (SometimeBefore f g) = SometimeBefore (become f) (become g)

-- what is found in the formulas, put together where there are two
abbrev pub joined : {F X : Type 0} → (X → X → X) → (F → X) → Operator F → X
joined join find (AtEnd f) = find f
joined join find (Always f) = find f
joined join find (Sometime f) = find f
joined join find (AtMostOnce f) = find f
joined join find (SometimeAfter f g) = join (find f) (find g)
joined join find (SometimeBefore f g) = join (find f) (find g)

-- each formula passes the test
abbrev pub all : {F : Type 0} → (F → Bool) → Operator F → Bool
all test operator = joined (λ first second. first && second) test operator

-- what each formula lists
abbrev pub each : {F X : Type 0} → (F → List X) → Operator F → List X
each list operator = joined (λ first second. first ++ second) list operator

-- one operator over formulas that stand in a relation, first to first and second to second
abbrev pub Pairs : {F G : Type 0} → (F → G → Type 0) → Operator F → Operator G → Type 0
Pairs related (AtEnd f) (AtEnd f2) = related f f2
Pairs related (Always f) (Always f2) = related f f2
Pairs related (Sometime f) (Sometime f2) = related f f2
Pairs related (AtMostOnce f) (AtMostOnce f2) = related f f2
Pairs related (SometimeAfter f g) (SometimeAfter f2 g2) = related f f2 × related g g2
Pairs related (SometimeBefore f g) (SometimeBefore f2 g2) = related f f2 × related g g2
Pairs related _ _ = ⊥

-- the last state alone counts
abbrev pub is_at_end : {F : Type 0} → Operator F → Bool
is_at_end (AtEnd f) = true
is_at_end _ = false

-- ---- what they mean, over n visited states

abbrev pub is_satisfied : ℕ → Operator (ℕ → Bool) → Bool
is_satisfied n (AtEnd f) = trajectory.at_end n f
is_satisfied n (Always f) = trajectory.always n f
is_satisfied n (Sometime f) = trajectory.sometime n f
is_satisfied n (AtMostOnce f) = trajectory.at_most_once n f
is_satisfied n (SometimeAfter f g) = trajectory.sometime_after n f g
is_satisfied n (SometimeBefore f g) = trajectory.sometime_before n f g

-- the states that show whether it is satisfied
abbrev pub showing : ℕ → Operator (ℕ → Bool) → Showing
showing n (AtEnd f) = shown_at_end n f
showing n (Always f) = shown_always n f
showing n (Sometime f) = shown_sometime n f
showing n (AtMostOnce f) = shown_at_most_once n f
showing n (SometimeAfter f g) = shown_sometime_after n f g
showing n (SometimeBefore f g) = shown_sometime_before n f g
