-- Tests at all places, or at some, and at one place more; and what violates an operator is that it is not satisfied.
use Rattle.std.proofs.Common.{◌≡◌, ◌∙◌, ℕ, zero, suc, ◌+◌, ◌-◌, ◌<◌, ◌≤◌, nat_lt, nat_le, Bool, true, false, not, ◌&&◌, ◌||◌, List, [], ◌∷◌, ◌++◌, refl, sym, ap, arith}
use Rattle.std.specs.Bool.{Decides, one_answer}
use Rattle.std.specs.List.{list_any, list_all, range_with_len}
use Rattle.std.proofs.lemmas.Bool.{leb-true, le-leb, true≢false, cases_eq, cases_lt}
use Rattle.std.proofs.lemmas.Bool.Decides.{Decides-like, Decides-and, Decides-or, Decides-not, Decides-ltb, Decides-below_and, Decides-below_or}
use Rattle.std.proofs.lemmas.List.Folds.{list_any-append, list_all-append}
use Rattle.std.proofs.Math.Bool.{and-true, or-false, and_comm, or_comm, not-not}
use mathlib.Core.Logic.{◌⊎◌, inl, inr, ⊎_elim}
use Rattle.p3_base.specs.Connectives.{◌implies◌}
use Rattle.p3_base.specs.Trajectories.{each, some, holds_once_from, at_most_once, sometime_after, sometime_before, came_back, is_awaited, came_early}

last_place : (a n j : ℕ) → a + n ≡ j → range_with_len a (suc n) ≡ range_with_len a n ++ j ∷ []
last_place a zero j e = ap (λ k. k ∷ []) (omega arith)
last_place a (suc n) j e = ap (λ r. a ∷ r) (last_place (a + 1) n j (omega arith))

module _ (p : ℕ → Bool) (n : ℕ) where
  pub each-more : each (suc n) p ≡ (each n p && p n)
  each-more = ap (list_all p) (last_place 0 n n (omega arith)) ∙ list_all-append p (range_with_len 0 n) (n ∷ []) ∙ ap (λ b. each n p && b) (and-true (p n))

  pub some-more : some (suc n) p ≡ (some n p || p n)
  some-more = ap (list_any p) (last_place 0 n n (omega arith)) ∙ list_any-append p (range_with_len 0 n) (n ∷ []) ∙ ap (λ b. some n p || b) (or-false (p n))

-- ---- what the tests tell

module _ (p : ℕ → Bool) (P : ℕ → Type 0) (tells : (k : ℕ) → Decides (p k) (P k)) (n : ℕ) where
  pub each_tells : Decides (each n p) ((k : ℕ) → k < n → P k)
  each_tells = Decides-below_and p P (λ m. each m p) tells refl (λ m. each-more p m ∙ and_comm (each m p) (p m)) n

  pub some_tells : Decides (some n p) ((k : ℕ) × (k < n) × P k)
  some_tells = Decides-below_or p P (λ m. some m p) tells refl (λ m. some-more p m ∙ or_comm (some m p) (p m)) n

pub true_tells : (b : Bool) → Decides b (b ≡ true)
true_tells b = (λ h. h, λ h. h)

pub not_tells : (b : Bool) → Decides (not b) (b ≡ false)
not_tells true = (λ h. sym h, λ h. sym h)
not_tells false = (λ h. refl, λ h. refl)

pub le_tells : (a b : ℕ) → Decides (nat_le a b) (a ≤ b)
le_tells a b = (leb-true a b, le-leb a b)

pub implies_tells : {P Q : Type 0} (a b : Bool) → Decides a P → Decides b Q → Decides (a implies b) (P → Q)
implies_tells true b d e = (λ h p. e.0 h, λ f. e.1 (f (d.0 refl)))
implies_tells false b d e = (λ h p. absurd (true≢false (sym (d.1 p))), λ f. refl)

-- ---- the same tests at the places

module _ {p q : ℕ → Bool} where
  pub each-same : (n : ℕ) → ((k : ℕ) → k < n → p k ≡ q k) → each n p ≡ each n q
  each-same zero same = refl
  each-same (suc n) same = each-more p n ∙ (λ i. each-same n (λ k lt. same k (omega arith)) i && same n (omega arith) i) ∙ sym (each-more q n)

  pub some-same : (n : ℕ) → ((k : ℕ) → k < n → p k ≡ q k) → some n p ≡ some n q
  some-same zero same = refl
  some-same (suc n) same = some-more p n ∙ (λ i. some-same n (λ k lt. same k (omega arith)) i || same n (omega arith) i) ∙ sym (some-more q n)

-- ---- a gap, as places tell it

abbrev pub HasGap : ℕ → (ℕ → Bool) → Type 0
HasGap n h = (k : ℕ) × (k < n) × ((h k ≡ true) × ((j : ℕ) × (j < n) × (((j < k) × (h j ≡ false)) × ((i : ℕ) × (i < n) × ((i < j) × (h i ≡ true))))))

abbrev pub Holds : ℕ → (ℕ → Bool) → Type 0
Holds n h = (i : ℕ) × (i < n) × (h i ≡ true)

holds_tells : (n : ℕ) (h : ℕ → Bool) → Decides (some n h) (Holds n h)
holds_tells n h = some_tells h (λ i. h i ≡ true) (λ i. true_tells (h i)) n

pub came_tells : (n : ℕ) (h : ℕ → Bool) → Decides (came_back n h) (HasGap n h)
came_tells n h =
    some_tells _ (λ k. (h k ≡ true) × ((j : ℕ) × (j < n) × (((j < k) × (h j ≡ false)) × ((i : ℕ) × (i < n) × ((i < j) × (h i ≡ true))))))
    (λ k. Decides-and (h k) _ (true_tells (h k))
    (some_tells _ (λ j. ((j < k) × (h j ≡ false)) × ((i : ℕ) × (i < n) × ((i < j) × (h i ≡ true))))
    (λ j. Decides-and (nat_lt j k && not (h j)) _ (Decides-and (nat_lt j k) (not (h j)) (Decides-ltb j k) (not_tells (h j)))
    (some_tells _ (λ i. (i < j) × (h i ≡ true)) (λ i. Decides-and (nat_lt i j) (h i) (Decides-ltb i j) (true_tells (h i))) n)) n)) n

-- where two bits differ, so do their places
apart : (h : ℕ → Bool) (i j : ℕ) → h i ≡ true → h j ≡ false → (i ≡ j) → ⊥
apart h i j on off same = true≢false (sym on ∙ ap h same ∙ off)

-- there is a gap with one place more where there was one, or where it held, does not hold at the last place, and holds at the new one
module _ (n : ℕ) (h : ℕ → Bool) where
  abbrev LastGap : Type 0
  LastGap = (Holds n h × (h (n - 1) ≡ false)) × (h n ≡ true)

  gap_before : HasGap (suc n) h → HasGap n h ⊎ LastGap
  gap_before (k, k_in, (back, (j, j_in, ((j_k, ceased), (i, i_in, (i_j, held)))))) = by (cases_lt k n) where
    at_end : n ≤ k → (b : Bool) → h (n - 1) ≡ b → HasGap n h ⊎ LastGap
    at_end last true on =
        let differ : (n - 1 ≡ j) → ⊥ = apart h (n - 1) j on ceased in
        let j_last : j < n - 1 = ⊎_elim (λ e. absurd (differ (sym e))) (λ ne. omega arith) (cases_eq j (n - 1)) in
        inl (n - 1, omega arith, (on, (j, omega arith, ((j_last, ceased), (i, omega arith, (i_j, held))))))
    at_end last false off =
        let is : k ≡ n = omega arith in
        inr (((i, omega arith, held), off), sym (ap h is) ∙ back)

    by : (k < n) ⊎ (n ≤ k) → HasGap n h ⊎ LastGap
    by (inl lt) = inl (k, lt, (back, (j, omega arith, ((j_k, ceased), (i, omega arith, (i_j, held))))))
    by (inr last) = at_end last (h (n - 1)) refl

  gap_after : HasGap n h ⊎ LastGap → HasGap (suc n) h
  gap_after (inl (k, k_in, (back, (j, j_in, ((j_k, ceased), (i, i_in, (i_j, held))))))) = (k, omega arith, (back, (j, omega arith, ((j_k, ceased), (i, omega arith, (i_j, held))))))
  gap_after (inr (((i, i_in, held), off), back)) =
      let i_last : i < n - 1 = ⊎_elim (λ e. absurd (apart h i (n - 1) held off e)) (λ ne. omega arith) (cases_eq i (n - 1)) in
      (n, omega arith, (back, (n - 1, omega arith, ((omega arith, off), (i, omega arith, (i_last, held))))))

  pub came-more : came_back (suc n) h ≡ (came_back n h || ((some n h && not (h (n - 1))) && h n))
  came-more = one_answer _ _ (came_tells (suc n) h)
      (Decides-like _ gap_after gap_before
      (Decides-or (came_back n h) _ (came_tells n h)
      (Decides-and (some n h && not (h (n - 1))) (h n) (Decides-and (some n h) (not (h (n - 1))) (holds_tells n h) (not_tells (h (n - 1)))) (true_tells (h n)))))

-- ---- a place where g is awaited, and one that comes too early

module _ (n : ℕ) (h g : ℕ → Bool) where
  abbrev Awaits : ℕ → Type 0
  Awaits m = (i : ℕ) × (i < m) × ((h i ≡ true) × ((j : ℕ) → j < m → i ≤ j → g j ≡ false))

  awaits_tells : (m : ℕ) → Decides (is_awaited m h g) (Awaits m)
  awaits_tells m = some_tells _ (λ i. (h i ≡ true) × ((j : ℕ) → j < m → i ≤ j → g j ≡ false))
      (λ i. Decides-and (h i) _ (true_tells (h i)) (each_tells _ (λ j. i ≤ j → g j ≡ false) (λ j. implies_tells (nat_le i j) (not (g j)) (le_tells i j) (not_tells (g j))) m)) m

  awaits_before : Awaits (suc n) → (Awaits n ⊎ (h n ≡ true)) × (g n ≡ false)
  awaits_before (i, i_in, (held, never)) = (by (cases_lt i n), never n (omega arith) (omega arith)) where
    by : (i < n) ⊎ (n ≤ i) → Awaits n ⊎ (h n ≡ true)
    by (inl lt) = inl (i, lt, (held, λ j j_in i_j. never j (omega arith) i_j))
    by (inr last) = let is : i ≡ n = omega arith in inr (sym (ap h is) ∙ held)

  -- not at the new place, so not at one of all
  nor_last : (i : ℕ) → g n ≡ false → ((j : ℕ) → j < n → i ≤ j → g j ≡ false) → (j : ℕ) → j < suc n → i ≤ j → g j ≡ false
  nor_last i off never j j_in i_j = ⊎_elim (λ lt. never j lt i_j) (λ last. let is : j ≡ n = omega arith in ap g is ∙ off) (cases_lt j n)

  awaits_after : (Awaits n ⊎ (h n ≡ true)) × (g n ≡ false) → Awaits (suc n)
  awaits_after (inl (i, i_in, (held, never)), off) = (i, omega arith, (held, nor_last i off never))
  awaits_after (inr held, off) = (n, omega arith, (held, nor_last n off (λ j j_in n_j. absurd (omega arith))))

  pub awaited-more : is_awaited (suc n) h g ≡ ((is_awaited n h g || h n) && not (g n))
  awaited-more = one_answer _ _ (awaits_tells (suc n))
      (Decides-like _ awaits_after awaits_before
      (Decides-and (is_awaited n h g || h n) (not (g n)) (Decides-or (is_awaited n h g) (h n) (awaits_tells n) (true_tells (h n))) (not_tells (g n))))

  abbrev Early : ℕ → Type 0
  Early m = (i : ℕ) × (i < m) × ((h i ≡ true) × ((j : ℕ) → j < m → j < i → g j ≡ false))

  early_tells : (m : ℕ) → Decides (came_early m h g) (Early m)
  early_tells m = some_tells _ (λ i. (h i ≡ true) × ((j : ℕ) → j < m → j < i → g j ≡ false))
      (λ i. Decides-and (h i) _ (true_tells (h i)) (each_tells _ (λ j. j < i → g j ≡ false) (λ j. implies_tells (nat_lt j i) (not (g j)) (Decides-ltb j i) (not_tells (g j))) m)) m

  early_before : Early (suc n) → Early n ⊎ ((h n ≡ true) × (some n g ≡ false))
  early_before (i, i_in, (held, never)) = by (cases_lt i n) where
    none : n ≤ i → (b : Bool) → some n g ≡ b → some n g ≡ false
    none last false off = off
    none last true on = let (j, j_in, there) = (holds_tells n g).0 on in absurd (true≢false (sym there ∙ never j (omega arith) (omega arith)))

    by : (i < n) ⊎ (n ≤ i) → Early n ⊎ ((h n ≡ true) × (some n g ≡ false))
    by (inl lt) = inl (i, lt, (held, λ j j_in j_i. never j (omega arith) j_i))
    by (inr last) = let is : i ≡ n = omega arith in inr (sym (ap h is) ∙ held, none last (some n g) refl)

  -- where it holds at no place, it does not at one of them
  nowhere : some n g ≡ false → (j : ℕ) → j < n → g j ≡ false
  nowhere none j j_in = by (g j) refl where
    by : (b : Bool) → g j ≡ b → g j ≡ false
    by false off = off
    by true on = absurd (true≢false (sym ((holds_tells n g).1 (j, j_in, on)) ∙ none))

  early_after : Early n ⊎ ((h n ≡ true) × (some n g ≡ false)) → Early (suc n)
  early_after (inl (i, i_in, (held, never))) = (i, omega arith, (held, λ j j_in j_i. never j (omega arith) j_i))
  early_after (inr (held, none)) = (n, omega arith, (held, λ j j_in j_n. nowhere none j j_n))

  pub early-more : came_early (suc n) h g ≡ (came_early n h g || (h n && not (some n g)))
  early-more = one_answer _ _ (early_tells (suc n))
      (Decides-like _ early_after early_before
      (Decides-or (came_early n h g) _ (early_tells n) (Decides-and (h n) (not (some n g)) (true_tells (h n)) (not_tells (some n g)))))

-- ---- satisfaction, as places tell it

dual : {A : Type 0} (p : A → Bool) (xs : List A) → not (list_any p xs) ≡ list_all (λ x. not (p x)) xs
dual p [] = refl
dual p (x ∷ xs) = outside (p x) (list_any p xs) ∙ ap (λ b. not (p x) && b) (dual p xs) where
  outside : (a b : Bool) → not (a || b) ≡ (not a && not b)
  outside true b = refl
  outside false b = refl

-- where a holds some place has both, or else a holds and each place that has the one has not the other
either : (a : Bool) (n : ℕ) (p q : ℕ → Bool) → (a implies some n (λ j. p j && q j)) ≡ not (a && each n (λ j. p j implies not (q j)))
either false n p q = refl
either true n p q = sym (not-not (some n (λ j. p j && q j))) ∙ ap not (dual (λ j. p j && q j) (range_with_len 0 n) ∙ (λ i. each n (λ j. outside (p j) (q j) i))) where
  outside : (a b : Bool) → not (a && b) ≡ (a implies not b)
  outside true b = refl
  outside false b = refl

module _ (n : ℕ) (h g : ℕ → Bool) where
  pub not-awaited : sometime_after n h g ≡ not (is_awaited n h g)
  not-awaited = (λ e. each n (λ i. either (h i) n (λ j. nat_le i j) g e)) ∙ sym (dual (λ i. h i && each n (λ j. nat_le i j implies not (g j))) (range_with_len 0 n))

  pub not-early : sometime_before n h g ≡ not (came_early n h g)
  not-early = (λ e. each n (λ i. either (h i) n (λ j. nat_lt j i) g e)) ∙ sym (dual (λ i. h i && each n (λ j. nat_lt j i implies not (g j))) (range_with_len 0 n))

module _ (n : ℕ) (h : ℕ → Bool) where
  abbrev OnceFrom : ℕ → Type 0
  OnceFrom i = (j : ℕ) × (j < n) × (((i ≤ j) × ((k : ℕ) → k < n → (i ≤ k) × (k ≤ j) → h k ≡ true)) × ((k : ℕ) → k < n → j < k → h k ≡ false))

  once_tells : Decides (each n (λ i. h i implies holds_once_from n h i)) ((i : ℕ) → i < n → h i ≡ true → OnceFrom i)
  once_tells = each_tells _ (λ i. h i ≡ true → OnceFrom i) (λ i. implies_tells (h i) (holds_once_from n h i) (true_tells (h i))
      (some_tells _ (λ j. ((i ≤ j) × ((k : ℕ) → k < n → (i ≤ k) × (k ≤ j) → h k ≡ true)) × ((k : ℕ) → k < n → j < k → h k ≡ false))
      (λ j. Decides-and (nat_le i j && _) _ (Decides-and (nat_le i j) _ (le_tells i j)
      (each_tells _ (λ k. (i ≤ k) × (k ≤ j) → h k ≡ true) (λ k. implies_tells (nat_le i k && nat_le k j) (h k) (Decides-and (nat_le i k) (nat_le k j) (le_tells i k) (le_tells k j)) (true_tells (h k))) n))
      (each_tells _ (λ k. j < k → h k ≡ false) (λ k. implies_tells (nat_lt j k) (not (h k)) (Decides-ltb j k) (not_tells (h k))) n)) n)) n

  -- the last place at which it holds
  Last : ℕ → ℕ → Type 0
  Last m i = (j : ℕ) × (j < m) × ((i ≤ j) × (h j ≡ true) × ((k : ℕ) → k < m → j < k → h k ≡ false))

  last_more : (m i : ℕ) → i < suc m → h i ≡ true → (i < m → Last m i) → (b : Bool) → h m ≡ b → Last (suc m) i
  unfolding Last
  last_more m i i_in held earlier true on = (m, omega arith, (omega arith, on, λ k k_in m_k. absurd (omega arith)))
  last_more m i i_in held earlier false off =
      let i_m : i < m = ⊎_elim (λ e. absurd (apart h i m held off e)) (λ ne. omega arith) (cases_eq i m) in
      let found = earlier i_m in
      (found.0, let lt = found.1 in omega arith, (found.2.0, found.2.1, λ k k_in j_k. ⊎_elim (λ lt. found.2.2 k lt j_k) (λ last. let is : k ≡ m = omega arith in ap h is ∙ off) (cases_lt k m)))

  last_one : (m i : ℕ) → i < m → h i ≡ true → Last m i
  last_one zero i i_in held = absurd (omega arith)
  last_one (suc m) i i_in held = last_more m i i_in held (λ i_m. last_one m i i_m held) (h m) refl

  -- without a gap it holds from a place up to the last at which it does
  without_gap : (HasGap n h → ⊥) → (i : ℕ) → i < n → h i ≡ true → OnceFrom i
  unfolding Last
  without_gap none i i_in held =
      let last = last_one n i i_in held in
      (last.0, last.1, ((last.2.0, λ k k_in between. between_on last.0 last.1 last.2.1 k k_in between.0 between.1 (h k) refl), last.2.2)) where
        between_on : (j : ℕ) → j < n → h j ≡ true → (k : ℕ) → k < n → i ≤ k → k ≤ j → (b : Bool) → h k ≡ b → h k ≡ true
        between_on j j_in back k k_in i_k k_j true on = on
        between_on j j_in back k k_in i_k k_j false off =
            let i_before : i < k = ⊎_elim (λ e. absurd (apart h i k held off e)) (λ ne. omega arith) (cases_eq i k) in
            let j_after : k < j = ⊎_elim (λ e. absurd (apart h j k back off e)) (λ ne. omega arith) (cases_eq j k) in
            absurd (none (j, j_in, (back, (k, k_in, ((j_after, off), (i, i_in, (i_before, held)))))))

  -- where it holds once from each place, there is no gap
  no_gap : ((i : ℕ) → i < n → h i ≡ true → OnceFrom i) → HasGap n h → ⊥
  no_gap once (k, k_in, (back, (j, j_in, ((j_k, ceased), (i, i_in, (i_j, held)))))) = by (once i i_in held) where
    by : OnceFrom i → ⊥
    by (l, l_in, ((i_l, on), off)) = ⊎_elim
        (λ l_k. true≢false (sym back ∙ off k k_in l_k))
        (λ k_l. true≢false (sym (on j j_in (omega arith, omega arith)) ∙ ceased))
        (cases_lt l k)

  pub not-came : at_most_once n h ≡ not (came_back n h)
  not-came = one_answer _ _ once_tells (Decides-like _ without_gap no_gap (Decides-not (came_back n h) (came_tells n h)))
