-- The step as which a written step counts, by the number in its name.
use Rattle.std.proofs.Common.{◌≡◌, ◌∙◌, ℕ, suc, ◌+◌, ◌-◌, ◌<◌, ◌≤◌, ◌^◌, Bool, true, false, ◌&&◌, cond, List, [], ◌∷◌, drop, length, refl, sym, ap, arith, Option, Some, None}
use Rattle.std.specs.Prelude.{◌↔◌, IsTrue, find, option_map, slice_get}
use Rattle.std.specs.List.{enumerate_from}
use Rattle.p3_base.specs.Copies.{copy_prefix, is_copy_of}
use Rattle.p3_base.specs.Words.{Name}
use Rattle.p3_base.proofs.CopyLemmas.{copy_of_only}
use Rattle.p3_base.specs.Copied.{IsNoCopy}
use Rattle.p3_base.proofs.CopiedLaws.{copy_is}
use Rattle.p3_task.specs.Lifting.{lifted_step, steps}
use Rattle.p3_task.specs.Names.{is_empty}
use Rattle.p3_task.specs.declared.task.Step.{Step}
use Rattle.p3_task.specs.declared.task.Task.{Task}

-- ---- the first numbered step of a list that passes a test

module _ (bare : Bool) (test : ℕ → Bool) where
  abbrev passes : ℕ × Step → Bool
  passes numbered = bare && test numbered.0

  abbrev first_from : ℕ → List Step → Option Step
  first_from from xs = option_map (λ (numbered : ℕ × Step). numbered.1) (find passes (enumerate_from from xs))

  -- none passes
  none_first : (from : ℕ) (xs : List Step) → ((n : ℕ) → n < from + length xs → (bare && test n) ≡ false) → first_from from xs ≡ None
  none_first from [] none = refl
  none_first from (x ∷ xs) none =
      ap (λ b. option_map (λ (numbered : ℕ × Step). numbered.1) (cond b (Some (from, x)) (find passes (enumerate_from (from + 1) xs)))) (none from (omega arith))
      ∙ none_first (from + 1) xs (λ n within. none n (omega (arith, within)))

  -- just one does
  one_first : (from number : ℕ) (xs : List Step) → (bare && test number) ≡ true → ((n : ℕ) → n < from + length xs → test n ≡ true → number ≡ n) → from ≤ number → number < from + length xs
      → first_from from xs ≡ slice_get xs (number - from)
  one_first from number [] own only low high = absurd (omega (arith, low, high))
  one_first from number (x ∷ xs) own only low high = by (bare && test from) refl (one_first (from + 1) number xs own (λ n within. only n (omega (arith, within))))
    where
      tests : (b : Bool) → (b && test from) ≡ true → test from ≡ true
      tests true e = e
      tests false e = absurd (cc)

      by : (b : Bool) → (bare && test from) ≡ b → (from + 1 ≤ number → number < from + 1 + length xs → first_from (from + 1) xs ≡ slice_get xs (number - (from + 1))) → first_from from (x ∷ xs) ≡ slice_get (x ∷ xs) (number - from)
      by true e rest =
          let same : number ≡ from = only from (omega arith) (tests bare e) in
          let here : number - from ≡ 0 = omega (arith, same) in
          ap (λ b. option_map (λ (numbered : ℕ × Step). numbered.1) (cond b (Some (from, x)) (find passes (enumerate_from (from + 1) xs)))) e
          ∙ ap (slice_get (x ∷ xs)) (sym here)
      by false e rest =
          let apart : number ≡ from → ⊥ = λ same. let bad : true ≡ false = sym own ∙ ap (λ n. bare && test n) same ∙ e in cc in
          let behind : number - from ≡ suc (number - (from + 1)) = omega (arith, low, apart) in
          ap (λ b. option_map (λ (numbered : ℕ × Step). numbered.1) (cond b (Some (from, x)) (find passes (enumerate_from (from + 1) xs)))) e
          ∙ rest (omega (arith, low, apart)) (omega (arith, high))
          ∙ ap (slice_get (x ∷ xs)) (sym behind)

-- ---- whether there are arguments

pub some_arguments : (args : List Name) (r : Bool) → (IsTrue r ↔ (args ≡ [])) → r ≡ false → is_empty args ≡ false
some_arguments [] r tells e = absurd (let bad : true ≡ false = sym (tells.1 refl) ∙ e in cc)
some_arguments (arg ∷ args) r tells e = refl

pub no_arguments : (args : List Name) (r : Bool) → (IsTrue r ↔ (args ≡ [])) → r ≡ true → is_empty args ≡ true
no_arguments args r tells e = ap is_empty (tells.0 e)

-- ---- a written step

no_bool : (b : Bool) → (b ≡ true → ⊥) → b ≡ false
no_bool true never = absurd (never refl)
no_bool false never = refl

module _ (T : Task) (written : Step) where
  abbrev test : ℕ → Bool
  test number = is_copy_of number written.action

  -- with arguments it counts as none
  pub with_arguments : is_empty written.args ≡ false → lifted_step T written ≡ None
  unfolding lifted_step
  with_arguments some = none_first (is_empty written.args) test 0 (steps T) (λ n within. ap (λ b. b && test n) some)

  module _ (few : length (steps T) < 2 ^ 32) where
    -- whose name is that of a copy of no step, it counts as none
    pub of_no_copy : IsNoCopy written.action → lifted_step T written ≡ None
    unfolding lifted_step
    of_no_copy none = none_first (is_empty written.args) test 0 (steps T) (λ n within. neither (is_empty written.args) (none n (omega (arith, within, few))))
      where
        neither : (b : Bool) {other : Bool} → other ≡ false → (b && other) ≡ false
        neither true e = e
        neither false e = refl

    module _ (number : ℕ) (small : number < 2 ^ 32) (is : is_copy_of number written.action ≡ true) where
      only : (n : ℕ) → n < 2 ^ 32 → test n ≡ true → number ≡ n
      only n little e = copy_of_only number n (drop (length (copy_prefix number)) written.action) (omega (arith, small)) (omega (arith, little)) (ap (is_copy_of n) (sym (copy_is written.action number is)) ∙ e)

      -- below the count of steps it counts as that step
      pub of_copy : is_empty written.args ≡ true → number < length (steps T) → lifted_step T written ≡ slice_get (steps T) number
      unfolding lifted_step
      of_copy bare within =
          one_first (is_empty written.args) test 0 number (steps T) (ap (λ b. b && test number) bare ∙ is) (λ n low. only n (omega (arith, low, few))) (omega arith) (omega (arith, within))
          ∙ ap (slice_get (steps T)) (omega arith)

      -- and else as none
      pub of_other_copy : (number < length (steps T) → ⊥) → lifted_step T written ≡ None
      unfolding lifted_step
      of_other_copy past = none_first (is_empty written.args) test 0 (steps T) (λ n within. no_bool (is_empty written.args && test n)
          (λ e. let same = only n (omega (arith, within, few)) (both (is_empty written.args) e) in past (omega (arith, same, within))))
        where
          both : (b : Bool) {other : Bool} → (b && other) ≡ true → other ≡ true
          both true e = e
          both false e = absurd (cc)
