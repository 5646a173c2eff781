-- The step of a number stands at the first place at which no lower number stands.
use Rattle.std.proofs.Common.{◌≡◌, ◌∙◌, ℕ, zero, suc, ◌+◌, ◌<◌, ◌≤◌, ◌==◌, nat_lt, Bool, true, false, ◌&&◌, cond, List, [], ◌∷◌, length, get_or, Some, None, refl, sym, ap, arith}
use Rattle.std.specs.Prelude.{find, IfSome}
use Rattle.std.specs.List.{All}
use Rattle.std.specs.List.Sorted.{IsPartitionPoint}
use Rattle.std.proofs.lemmas.Bool.{ltb-false, ltb-true, ne_eqb, and_parts, cases_lt}
use Rattle.std.proofs.lemmas.Bool.Decides.{nat_tests}
use mathlib.Core.Logic.{◌⊎◌, inl, inr}
use Rattle.p3_formula.specs.Conditions.{rises}
use Rattle.p3_formula.specs.declared.task.GroundStep.{GroundStep}
use Rattle.p3_run.specs.Steps.{IsByNumber, numbered_step}

-- the first that passes, and none
module _ {A : Type 0} (test : A → Bool) where
  pub find_first : (xs : List A) (place : ℕ) (d : A) → place < length xs → test (get_or xs place d) ≡ true → ((k : ℕ) → k < place → test (get_or xs k d) ≡ false) → find test xs ≡ Some (get_or xs place d)
  find_first [] place d within passes before = absurd (omega (arith, within))
  find_first (x ∷ xs) zero d within passes before = ap (λ b. cond b (Some x) (find test xs)) passes
  find_first (x ∷ xs) (suc place) d within passes before =
      ap (λ b. cond b (Some x) (find test xs)) (before 0 (omega arith))
      ∙ find_first xs place d (omega (arith, within)) passes (λ k lt. before (suc k) (omega (arith, lt)))

  pub find_none : (xs : List A) → ((k : ℕ) (d : A) → k < length xs → test (get_or xs k d) ≡ false) → find test xs ≡ None
  find_none [] none = refl
  find_none (x ∷ xs) none = ap (λ b. cond b (Some x) (find test xs)) (none 0 x (omega arith)) ∙ find_none xs (λ k d lt. none (suc k) d (omega (arith, lt)))

-- rising numbers
module _ (count : ℕ) where
  low : (from : ℕ) (step : GroundStep) (steps : List GroundStep) → rises from count (step ∷ steps) ≡ true → from ≤ step.number
  low from step steps up =
      let parts = and_parts (nat_lt step.number count && nat_lt from (step.number + 1)) (rises (step.number + 1) count steps) up in
      let h = ltb-true from (step.number + 1) (and_parts (nat_lt step.number count) (nat_lt from (step.number + 1)) parts.0).1 in
      omega (arith, h)

  up_rest : (from : ℕ) (step : GroundStep) (steps : List GroundStep) → rises from count (step ∷ steps) ≡ true → rises (step.number + 1) count steps ≡ true
  up_rest from step steps up = (and_parts (nat_lt step.number count && nat_lt from (step.number + 1)) (rises (step.number + 1) count steps) up).1

  above : (from : ℕ) (steps : List GroundStep) → rises from count steps ≡ true → (k : ℕ) (d : GroundStep) → k < length steps → from ≤ (get_or steps k d).number
  above from [] up k d within = absurd (omega (arith, within))
  above from (step ∷ steps) up zero d within = low from step steps up
  above from (step ∷ steps) up (suc k) d within =
      let h = above (step.number + 1) steps (up_rest from step steps up) k d (omega (arith, within)) in
      let l = low from step steps up in
      omega (arith, h, l)

  pub by_number : (from : ℕ) (steps : List GroundStep) → rises from count steps ≡ true → IsByNumber steps
  by_number from [] up i j d le within = absurd (omega (arith, within))
  by_number from (step ∷ steps) up zero zero d le within = omega arith
  by_number from (step ∷ steps) up zero (suc j) d le within = let h = above (step.number + 1) steps (up_rest from step steps up) j d (omega (arith, within)) in omega (arith, h)
  by_number from (step ∷ steps) up (suc i) zero d le within = absurd (omega (arith, le))
  by_number from (step ∷ steps) up (suc i) (suc j) d le within = by_number (step.number + 1) steps (up_rest from step steps up) i j d (omega (arith, le)) (omega (arith, within))

-- a place before which lower numbers stand, and from which on none does
module _ (steps : List GroundStep) (number place : ℕ) (rising : IsByNumber steps)
    (first : IsPartitionPoint (λ (step : GroundStep). nat_lt step.number number ≡ true) (λ (step : GroundStep). nat_lt step.number number ≡ false) steps place) (bound : place ≤ length steps) where
  lower : (k : ℕ) (d : GroundStep) → k < place → ((get_or steps k d).number == number) ≡ false
  lower k d lt = let h = ltb-true _ number (first.0 k d (omega (arith, lt, bound)) lt) in ne_eqb _ number (λ e. omega (arith, h, e))

  pub found_there : (step : GroundStep) → place < length steps → step ≡ get_or steps place step → (step.number == number) ≡ true → numbered_step steps number ≡ Some step
  found_there step within is same =
      find_first (λ (one : GroundStep). one.number == number) steps place step within (ap (λ (one : GroundStep). one.number == number) (sym is) ∙ same) (λ k lt. lower k step lt)
      ∙ ap Some (sym is)

  higher : (k : ℕ) (d : GroundStep) → place ≤ k → k < length steps → (place < length steps → ((get_or steps place d).number == number) ≡ false) → ((get_or steps k d).number == number) ≡ false
  higher k d from within differs =
      let inside : place < length steps = omega (arith, from, within) in
      let least = ltb-false _ number (first.1 place d (omega arith) inside) in
      let up = rising place k d from within in
      let apart = differs inside in
      ne_eqb _ number (λ e. absurd (contradict (get_or steps place d).number (omega (arith, least, up, e)) apart))
    where
      contradict : (n : ℕ) → n ≡ number → (n == number) ≡ false → ⊥
      contradict n same apart = grind (arith, nat_tests)

  pub none_there : ((d : GroundStep) → place < length steps → ((get_or steps place d).number == number) ≡ false) → numbered_step steps number ≡ None
  none_there differs = find_none (λ (one : GroundStep). one.number == number) steps (λ k d lt. by k d lt (cases_lt k place)) where
    by : (k : ℕ) (d : GroundStep) → k < length steps → (k < place) ⊎ (place ≤ k) → ((get_or steps k d).number == number) ≡ false
    by k d lt (inl before) = lower k d before
    by k d lt (inr from) = higher k d from lt (differs d)

-- what all items have, the one that is found has
pub found_has : {A : Type 0} (P : A → Type 0) (test : A → Bool) (xs : List A) → All P xs → IfSome (find test xs) P
found_has P test [] all = tt
found_has P test (x ∷ xs) all = by (test x) (all 0 x (omega arith)) (found_has P test xs (λ k d lt. all (suc k) d (omega (arith, lt)))) where
  by : (b : Bool) → P x → IfSome (find test xs) P → IfSome (cond b (Some x) (find test xs)) P
  by true here later = here
  by false here later = later
