-- The copies of one step lie between two places of a list by rising number, and the list has all copies.
use Rattle.std.proofs.Common.{◌≡◌, ◌∙◌, ℕ, zero, suc, ◌+◌, ◌-◌, ◌≤◌, ◌<◌, ◌==◌, nat_lt, nat_le, Bool, true, false, cond, List, [], ◌∷◌, ◌++◌, length, take, drop, get_or, refl, sym, ap, subst, arith, add-zero, zero-add, ◌⊎◌, inl, inr, Option, Some, None}
use Rattle.std.specs.Prelude.{Contains, slice_get}
use Rattle.std.specs.List.{All, filter}
use Rattle.std.specs.List.Sorted.{IsPartitionPoint}
use Rattle.std.proofs.lemmas.Bool.Decides.{nat_tests}
use Rattle.std.proofs.lemmas.List.{get_or-take, get_or-drop, length-take-le, length-drop, take-append-drop, take_all, take_more, append-nil}
use Rattle.std.proofs.lemmas.List.Elements.{All-contains, filter-append, filter_passes}
use Rattle.std.proofs.lemmas.List.Sorted.{Contains-permutation, IsPermutation-sym}
use Rattle.p3_embed.specs.declared.actions.Counted.{Counted}
use Rattle.p3_embed.specs.Actions.{AreCopies, counted, counted_from, counted_of, is_of}
use Rattle.p3_simulation.proofs.Walks.{head_or_tail, in_none, is_behind, is_head}

-- ---- the items with one key, in a list by rising keys

module _ {A : Type 0} (key : A → ℕ) where
  none_kept : (test : A → Bool) (items : List A) → All (λ one. test one ≡ false) items → filter test items ≡ []
  none_kept test [] all = refl
  none_kept test (one ∷ items) all = ap (λ b. cond b (one ∷ filter test items) (filter test items)) (all 0 one (omega arith)) ∙ none_kept test items (λ k d within. all (suc k) d (omega (arith, within)))

  all_kept : (test : A → Bool) (items : List A) → All (λ one. test one ≡ true) items → filter test items ≡ items
  all_kept test [] all = refl
  all_kept test (one ∷ items) all = ap (λ b. cond b (one ∷ filter test items) (filter test items)) (all 0 one (omega arith)) ∙ ap (λ rest. one ∷ rest) (all_kept test items (λ k d within. all (suc k) d (omega (arith, within))))

  lower : (a b : ℕ) → nat_lt a b ≡ true → (a == b) ≡ false
  lower a b h = grind (arith, nat_tests)

  higher : (a b : ℕ) → nat_le a b ≡ false → (a == b) ≡ false
  higher a b h = grind (arith, nat_tests)

  between : (a b : ℕ) → nat_lt a b ≡ false → nat_le a b ≡ true → (a == b) ≡ true
  between a b h k = grind (arith, nat_tests)

  module _ (wanted : ℕ) (items : List A) (start count : ℕ) (bound : start ≤ length items)
      (first : IsPartitionPoint (λ (one : A). nat_lt (key one) wanted ≡ true) (λ (one : A). nat_lt (key one) wanted ≡ false) items start) where
    abbrev has_key : A → Bool
    has_key one = key one == wanted

    abbrev rest : List A
    rest = take (length items - start) (drop start items)

    rest_is : rest ≡ drop start items
    rest_is = take_all (length items - start) (drop start items) (let l = length-drop start items in omega (arith, l))

    module _ (small : count ≤ length rest) (second : IsPartitionPoint (λ (one : A). nat_le (key one) wanted ≡ true) (λ (one : A). nat_le (key one) wanted ≡ false) rest count) where
      front_none : filter has_key (take start items) ≡ []
      front_none = none_kept has_key (take start items)
          (λ k d h.
          let l = length-take-le start items bound in
          let within : k < start = omega (arith, h, l) in
          ap has_key (get_or-take start items k d within) ∙ lower _ wanted (first.0 k d (omega (arith, within, bound)) within))

      back_none : filter has_key (drop count rest) ≡ []
      back_none = none_kept has_key (drop count rest)
          (λ k d h.
          let l = length-drop count rest in
          ap has_key (get_or-drop count rest k d) ∙ higher _ wanted (second.1 (count + k) d (omega arith) (omega (arith, h, l))))

      mid_all : filter has_key (take count rest) ≡ take count rest
      mid_all = all_kept has_key (take count rest)
          (λ k d h.
          let l = length-take-le count rest small in
          let within : k < count = omega (arith, h, l) in
          let long = ap (λ (list : List A). length list) rest_is ∙ length-drop start items in
          let here : get_or (take count rest) k d ≡ get_or items (start + k) d = get_or-take count rest k d within ∙ ap (λ (list : List A). get_or list k d) rest_is ∙ get_or-drop start items k d in
          ap has_key here
          ∙ between _ wanted (first.1 (start + k) d (omega arith) (omega (arith, within, small, long)))
          (ap (λ (one : A). nat_le (key one) wanted) (sym here ∙ get_or-take count rest k d within) ∙ second.0 k d (omega (arith, within, small)) within))

      pub found_between : take count rest ≡ filter has_key items
      found_between =
          sym (append-nil (take count rest))
          ∙ (λ i. sym mid_all i ++ sym back_none i)
          ∙ sym (filter-append has_key (take count rest) (drop count rest))
          ∙ ap (filter has_key) (take-append-drop count rest ∙ rest_is)
          ∙ (λ i. sym front_none i ++ filter has_key (drop start items))
          ∙ sym (filter-append has_key (take start items) (drop start items))
          ∙ ap (filter has_key) (take-append-drop start items)

-- ---- the copies among the actions

-- one action more
counted_more : (place : ℕ) (counts : List (Option ℕ)) (count : Option ℕ) → counted_from place (counts ++ count ∷ []) ≡ counted_from place counts ++ counted_of (place + length counts) count
counted_more place [] None = refl
counted_more place [] (Some number) = ap (λ n. counted number n ∷ []) (omega arith)
counted_more place (None ∷ counts) count = counted_more (place + 1) counts count ∙ ap (λ n. counted_from (place + 1) counts ++ counted_of n count) (omega arith)
counted_more place (Some other ∷ counts) count = ap (λ rest. counted other place ∷ rest) (counted_more (place + 1) counts count ∙ ap (λ n. counted_from (place + 1) counts ++ counted_of n count) (omega arith))

pub counted_next : (counts : List (Option ℕ)) (place : ℕ) → place < length counts → counted_from 0 (take place counts) ++ counted_of place (get_or counts place None) ≡ counted_from 0 (take (place + 1) counts)
counted_next counts place within =
    let long = length-take-le place counts (omega (arith, within)) in
    let here : place ≡ 0 + length (take place counts) = omega (arith, long) in
    ap (λ n. counted_from 0 (take place counts) ++ counted_of n (get_or counts place None)) here
    ∙ sym (counted_more 0 (take place counts) (get_or counts place None))
    ∙ ap (counted_from 0) (sym (take_more counts place None within))

-- all copies are there
counted_has : (from : ℕ) (counts : List (Option ℕ)) (place number : ℕ) → slice_get counts place ≡ Some (Some number) → Contains (counted_from from counts) (counted number (from + place))
counted_has from [] place number is = absurd (cc)
counted_has from (None ∷ counts) zero number is = absurd (let bad : None ≡ Some number = cc in cc)
counted_has from (Some other ∷ counts) zero number is =
    let same : other ≡ number = cc in
    subst (λ (one : Counted). Contains (counted other from ∷ counted_from (from + 1) counts) one) (λ i. counted (same i) (sym (add-zero from) i)) (is_head (counted other from) (counted_from (from + 1) counts))
counted_has from (None ∷ counts) (suc place) number is = subst (λ n. Contains (counted_from (from + 1) counts) (counted number n)) (omega arith) (counted_has (from + 1) counts place number is)
counted_has from (Some other ∷ counts) (suc place) number is =
    is_behind (counted other from) (counted_from (from + 1) counts) _ (subst (λ n. Contains (counted_from (from + 1) counts) (counted number n)) (omega arith) (counted_has (from + 1) counts place number is))

-- and no others
record Behind (from : ℕ) (counts : List (Option ℕ)) (one : Counted) : Type 0 where
  place : ℕ
  is : one.place ≡ from + place
  counts_so : slice_get counts place ≡ Some (Some one.number)

counted_are : (from : ℕ) (counts : List (Option ℕ)) (one : Counted) → Contains (counted_from from counts) one → Behind from counts one
counted_are from [] one member = in_none one member
counted_are from (None ∷ counts) one member = let found = counted_are (from + 1) counts one member in record { place = suc found.place; is = found.is ∙ omega arith; counts_so = found.counts_so }
counted_are from (Some number ∷ counts) one member = by (head_or_tail (counted number from) (counted_from (from + 1) counts) one member) (counted_are (from + 1) counts one)
  where
    by : (counted number from ≡ one) ⊎ Contains (counted_from (from + 1) counts) one → (Contains (counted_from (from + 1) counts) one → Behind (from + 1) counts one) → Behind from (Some number ∷ counts) one
    by (inl is) later = record { place = 0; is = sym (ap (λ (c : Counted). c.place) is) ∙ sym (add-zero from); counts_so = ap (λ (c : Counted). Some (Some c.number)) is }
    by (inr member) later = let found = later member in record { place = suc found.place; is = found.is ∙ omega arith; counts_so = found.counts_so }

kept : {A : Type 0} (test : A → Bool) (items : List A) (one : A) → Contains items one → test one ≡ true → Contains (filter test items) one
kept test [] one member e = in_none one member
kept test (x ∷ items) one member e = by (test x) refl (head_or_tail x items one member) (kept test items one)
  where
    by : (b : Bool) → test x ≡ b → (x ≡ one) ⊎ Contains items one → (Contains items one → test one ≡ true → Contains (filter test items) one) → Contains (cond (test x) (x ∷ filter test items) (filter test items)) one
    by true t (inl is) later = subst (λ b. Contains (cond b (x ∷ filter test items) (filter test items)) one) (sym t) (subst (Contains (x ∷ filter test items)) is (is_head x (filter test items)))
    by true t (inr behind) later = subst (λ b. Contains (cond b (x ∷ filter test items) (filter test items)) one) (sym t) (is_behind x (filter test items) one (later behind e))
    by false t (inl is) later = absurd (let bad : true ≡ false = sym e ∙ ap test (sym is) ∙ t in cc)
    by false t (inr behind) later = subst (λ b. Contains (cond b (x ∷ filter test items) (filter test items)) one) (sym t) (later behind e)

passed : {A : Type 0} (test : A → Bool) (items : List A) (one : A) → Contains (filter test items) one → Contains items one
passed test [] one member = in_none one member
passed test (x ∷ items) one member = by (test x) refl (passed test items one)
  where
    by : (b : Bool) → test x ≡ b → (Contains (filter test items) one → Contains items one) → Contains (x ∷ items) one
    by true t later = elim (head_or_tail x (filter test items) one (subst (λ b. Contains (cond b (x ∷ filter test items) (filter test items)) one) t member)) [
      | inl is ↦ subst (Contains (x ∷ items)) is (is_head x items)
      | inr behind ↦ is_behind x items one (later behind)
    ]
    by false t later = is_behind x items one (later (subst (λ b. Contains (cond b (x ∷ filter test items) (filter test items)) one) t member))

module _ (counts : List (Option ℕ)) (copies : List Counted) (are : AreCopies counts copies) (number : ℕ) where
  -- each copy of the step is found
  pub copy_found : (place : ℕ) → slice_get counts place ≡ Some (Some number) → Contains (filter (is_of number) copies) (counted number place)
  copy_found place is =
      let own : (number == number) ≡ true = grind (arith, nat_tests) in
      kept (is_of number) copies (counted number place) (Contains-permutation (counted_from 0 counts) copies (counted number place) are.same (subst (λ n. Contains (counted_from 0 counts) (counted number n)) (zero-add place) (counted_has 0 counts place number is))) own

  -- what is found is a copy of the step
  pub found_is_copy : (one : Counted) → Contains (filter (is_of number) copies) one → slice_get counts one.place ≡ Some (Some number)
  found_is_copy one member =
      let behind = counted_are 0 counts one (Contains-permutation copies (counted_from 0 counts) one (IsPermutation-sym (counted_from 0 counts) copies are.same) (passed (is_of number) copies one member)) in
      let passes : (one.number == number) ≡ true = All-contains (λ (c : Counted). is_of number c ≡ true) (filter (is_of number) copies) one (filter_passes (is_of number) copies) member in
      let same : one.number ≡ number = grind (arith, nat_tests, passes) in
      ap (slice_get counts) (behind.is ∙ zero-add behind.place) ∙ behind.counts_so ∙ ap (λ n. Some (Some n)) same
