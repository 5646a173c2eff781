-- The steps as which actions count, by their names.
use Rattle.std.proofs.Common.{◌≡◌, ◌∙◌, ◌≢◌, ℕ, zero, suc, ◌+◌, ◌<◌, ◌≤◌, ◌^◌, Bool, true, false, ◌∷◌, Some, None, refl, sym, ap, arith}
use Rattle.std.specs.Prelude.{cond, find}
use Rattle.std.specs.List.{range_with_len}
use Rattle.std.proofs.lemmas.Bool.{ne_eqb}
use Rattle.p3_base.specs.Copies.{is_copy_of, copy_name}
use Rattle.p3_base.specs.Words.{Name}
use Rattle.p3_base.proofs.CopyLemmas.{copy_of_own, copy_of_only, copy_of_none}
use Rattle.p3_formula.specs.Targets.{lifted_number}
use Rattle.p3_formula.specs.declared.task.GroundTask.{GroundTask}

-- ---- the first number of a range that passes a test

found : (test : ℕ → Bool) (i top : ℕ) → test i ≡ true → ((n : ℕ) → n < top → test n ≡ true → i ≡ n) → (count from : ℕ) → from ≤ i → i < from + count → from + count ≤ top → find test (range_with_len from count) ≡ Some i
found test i top own only zero from low high room = absurd (omega (arith, low, high))
found test i top own only (suc count) from low high room = by (test from) refl (found test i top own only count (from + 1))
  where
    by : (b : Bool) → test from ≡ b → (from + 1 ≤ i → i < from + 1 + count → from + 1 + count ≤ top → find test (range_with_len (from + 1) count) ≡ Some i) → find test (range_with_len from (suc count)) ≡ Some i
    by true e later = ap (λ b. cond b (Some from) (find test (range_with_len (from + 1) count))) e ∙ ap Some (sym (only from (omega (arith, room)) e))
    by false e later =
        let apart : from ≢ i = λ same. absurd (let bad : true ≡ false = sym own ∙ ap test (sym same) ∙ e in cc) in
        ap (λ b. cond b (Some from) (find test (range_with_len (from + 1) count))) e ∙ later (omega (arith, low, apart)) (omega (arith, high)) (omega (arith, room))

found_none : (test : ℕ → Bool) → ((n : ℕ) → test n ≡ false) → (count from : ℕ) → find test (range_with_len from count) ≡ None
found_none test none zero from = refl
found_none test none (suc count) from = ap (λ b. cond b (Some from) (find test (range_with_len (from + 1) count))) (none from) ∙ found_none test none count (from + 1)

-- a copy of a step counts as that step
pub copy_lifted : (G : GroundTask) (number : ℕ) (rest : Name) → number < G.step_count → G.step_count ≤ 2 ^ 64 → lifted_number G (copy_name number rest) ≡ Some number
copy_lifted G number rest within small =
    found (λ n. is_copy_of n (copy_name number rest)) number (2 ^ 64) (copy_of_own number rest)
    (λ n little is. copy_of_only number n rest (omega (arith, within, small)) little is) G.step_count 0 (omega arith) (omega (arith, within)) (omega (arith, small))

-- a name that begins with another letter counts as none
pub other_not_lifted : (G : GroundTask) (byte : ℕ) (rest : Name) → 115 ≢ byte → lifted_number G (byte ∷ rest) ≡ None
other_not_lifted G byte rest differ =
    found_none (λ n. is_copy_of n (byte ∷ rest)) (λ n. copy_of_none n byte rest (ne_eqb 115 byte differ)) G.step_count 0
