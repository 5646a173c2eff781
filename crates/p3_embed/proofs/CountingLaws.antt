-- The steps as which actions count, by their names.
use Rattle.std.proofs.Common.{◌≡◌, ◌∙◌, ℕ, zero, suc, ◌+◌, ◌<◌, ◌≤◌, ◌^◌, Bool, true, false, cond, length, drop, refl, sym, ap, arith, Some, None}
use Rattle.std.specs.Prelude.{find}
use Rattle.std.specs.List.{range_with_len}
use Rattle.p3_base.specs.Copies.{copy_prefix, is_copy_of}
use Rattle.p3_base.specs.Words.{Name}
use Rattle.p3_base.proofs.CopyLemmas.{copy_of_only}
use Rattle.p3_base.specs.Copied.{IsNoCopy}
use Rattle.p3_base.proofs.CopiedLaws.{copy_is}
use Rattle.p3_formula.specs.Targets.{lifted_number}
use Rattle.p3_formula.specs.declared.task.GroundTask.{GroundTask}
use Rattle.p3_formula.proofs.NameLaws.{copy_lifted}

none_found : (test : ℕ → Bool) (top : ℕ) → ((n : ℕ) → n < top → test n ≡ false) → (count from : ℕ) → from + count ≤ top → find test (range_with_len from count) ≡ None
none_found test top none zero from room = refl
none_found test top none (suc count) from room =
    ap (λ b. cond b (Some from) (find test (range_with_len (from + 1) count))) (none from (omega (arith, room))) ∙ none_found test top none count (from + 1) (omega (arith, room))

module _ (G : GroundTask) (few : G.step_count < 2 ^ 32) (name : Name) where
  pub counts : (number : ℕ) → is_copy_of number name ≡ true → number < G.step_count → Some number ≡ lifted_number G name
  counts number is within = sym (ap (lifted_number G) (copy_is name number is) ∙ copy_lifted G number (drop (length (copy_prefix number)) name) within (omega (arith, few)))

  pub counts_not : (number : ℕ) → number < 2 ^ 32 → is_copy_of number name ≡ true → (number < G.step_count → ⊥) → None ≡ lifted_number G name
  counts_not number small is past = sym (none_found (λ n. is_copy_of n name) G.step_count none G.step_count 0 (omega arith))
    where
      none : (n : ℕ) → n < G.step_count → is_copy_of n name ≡ false
      none n within = by (is_copy_of n name) refl
        where
          by : (b : Bool) → is_copy_of n name ≡ b → b ≡ false
          by false e = refl
          by true e = absurd (let same = copy_of_only number n (drop (length (copy_prefix number)) name) (omega (arith, small)) (omega (arith, within, few)) (ap (is_copy_of n) (sym (copy_is name number is)) ∙ e) in past (omega (arith, same, within)))

  pub no_copy_counts : IsNoCopy name → None ≡ lifted_number G name
  no_copy_counts none = sym (none_found (λ n. is_copy_of n name) G.step_count (λ n within. none n (omega (arith, within, few))) G.step_count 0 (omega arith))
