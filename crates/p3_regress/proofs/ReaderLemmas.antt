-- The readers of an atom lie between two places of a list by rising atom, and tell which of several things read it.
use Rattle.std.proofs.Common.{◌≡◌, ◌∙◌, ◌⊎◌, inl, inr, ℕ, zero, suc, ◌+◌, ◌-◌, ◌≤◌, ◌<◌, ◌==◌, nat_lt, nat_le, Bool, true, false, ◌&&◌, ◌||◌, cond, List, [], ◌∷◌, ◌++◌, length, map, take, drop, get_or, refl, sym, ap, arith, append_assoc, true≢false}
use Rattle.std.specs.Prelude.{Contains, slice_index_or}
use Rattle.std.specs.List.{All, filter, flat_map, list_any}
use Rattle.std.specs.List.Sorted.{IsPermutation, IsPartitionPoint}
use Rattle.std.proofs.lemmas.Bool.{eq-eqb, eqb-true, ne_eqb, or_cases, or_left, or_right}
use Rattle.std.proofs.lemmas.Bool.Decides.{nat_tests}
use Rattle.std.proofs.lemmas.List.{get_or-take, get_or-drop, length-take-le, length-drop, take-append-drop, take_all, take_more, append-nil, map-append}
use Rattle.std.proofs.lemmas.List.Elements.{filter-append}
use Rattle.std.proofs.lemmas.List.Folds.{list_any-append}
use Rattle.std.proofs.lemmas.List.Sorted.{list_any-IsPermutation}
use Rattle.p3_formula.specs.declared.form.Change.{Change}
use Rattle.p3_formula.proofs.FormLemmas.{list_any-map}
use Rattle.p3_regress.specs.Readers.{is_at, is_read_at, mentions, places_of, reader, readers_from, reads_atom}
use Rattle.p3_regress.specs.declared.readers.PartReader.{PartReader}

-- ---- one thing more

from_more : (place : ℕ) (lists : List (List ℕ)) (atoms : List ℕ) → readers_from place (lists ++ atoms ∷ []) ≡ readers_from place lists ++ map (reader (place + length lists)) atoms
from_more place [] atoms = append-nil (map (reader place) atoms) ∙ ap (λ n. map (reader n) atoms) (same place)
  where
    same : (n : ℕ) → n ≡ n + zero
    same n = omega arith
from_more place (one ∷ lists) atoms =
    ap (λ rest. map (reader place) one ++ rest) (from_more (place + 1) lists atoms ∙ ap (λ n. readers_from (place + 1) lists ++ map (reader n) atoms) moved)
    ∙ sym (append_assoc (map (reader place) one) (readers_from (place + 1) lists) (map (reader (place + suc (length lists))) atoms))
  where
    moved : place + 1 + length lists ≡ place + suc (length lists)
    moved = omega arith

length-map : {A B : Type 0} (f : A → B) (xs : List A) → length (map f xs) ≡ length xs
length-map f [] = refl
length-map f (x ∷ xs) = ap suc (length-map f xs)

pub readers_next : {A : Type 0} (atoms : A → List ℕ) (xs : List A) (index : ℕ) (x : A) → index < length xs → x ≡ get_or xs index x
    → readers_from 0 (map atoms (take index xs)) ++ map (reader index) (atoms x) ≡ readers_from 0 (map atoms (take (index + 1) xs))
readers_next atoms xs index x within at =
    let counted = length-take-le index xs (omega (arith, within)) in
    let long = length-map atoms (take index xs) in
    let place : index ≡ 0 + length (map atoms (take index xs)) = omega (arith, counted, long) in
    ap (λ n. readers_from 0 (map atoms (take index xs)) ++ map (reader n) (atoms x)) place
    ∙ sym (from_more 0 (map atoms (take index xs)) (atoms x))
    ∙ ap (readers_from 0) (sym (map-append atoms (take index xs) (x ∷ [])) ∙ ap (map atoms) (sym (take_more xs index x within ∙ ap (λ one. take index xs ++ one ∷ []) (sym at))))

-- ---- the readers of one atom

none_kept : (test : PartReader → Bool) (readers : List PartReader) → All (λ one. test one ≡ false) readers → filter test readers ≡ []
none_kept test [] all = refl
none_kept test (one ∷ readers) all = ap (λ b. cond b (one ∷ filter test readers) (filter test readers)) (all 0 one (omega arith)) ∙ none_kept test readers (λ k d within. all (suc k) d (omega (arith, within)))

all_kept : (test : PartReader → Bool) (readers : List PartReader) → All (λ one. test one ≡ true) readers → filter test readers ≡ readers
all_kept test [] all = refl
all_kept test (one ∷ readers) all = ap (λ b. cond b (one ∷ filter test readers) (filter test readers)) (all 0 one (omega arith)) ∙ ap (λ rest. one ∷ rest) (all_kept test readers (λ k d within. all (suc k) d (omega (arith, within))))

lower : (a b : ℕ) → nat_lt a b ≡ true → (a == b) ≡ false
lower a b h = grind (arith, nat_tests)

higher : (a b : ℕ) → nat_le a b ≡ false → (a == b) ≡ false
higher a b h = grind (arith, nat_tests)

between : (a b : ℕ) → nat_lt a b ≡ false → nat_le a b ≡ true → (a == b) ≡ true
between a b h k = grind (arith, nat_tests)

module _ (atom : ℕ) (readers : List PartReader) (start count : ℕ) (bound : start ≤ length readers)
    (first : IsPartitionPoint (λ (one : PartReader). nat_lt one.atom atom ≡ true) (λ (one : PartReader). nat_lt one.atom atom ≡ false) readers start) where
  abbrev rest : List PartReader
  rest = take (length readers - start) (drop start readers)

  rest_is : rest ≡ drop start readers
  rest_is = take_all (length readers - start) (drop start readers) (let l = length-drop start readers in omega (arith, l))

  module _ (small : count ≤ length rest) (second : IsPartitionPoint (λ (one : PartReader). nat_le one.atom atom ≡ true) (λ (one : PartReader). nat_le one.atom atom ≡ false) rest count) where
    front_none : filter (reads_atom atom) (take start readers) ≡ []
    front_none = none_kept (reads_atom atom) (take start readers)
        (λ k d h.
        let l = length-take-le start readers bound in
        let within : k < start = omega (arith, h, l) in
        ap (λ (one : PartReader). one.atom == atom) (get_or-take start readers k d within) ∙ lower _ atom (first.0 k d (omega (arith, within, bound)) within))

    back_none : filter (reads_atom atom) (drop count rest) ≡ []
    back_none = none_kept (reads_atom atom) (drop count rest)
        (λ k d h.
        let l = length-drop count rest in
        ap (λ (one : PartReader). one.atom == atom) (get_or-drop count rest k d) ∙ higher _ atom (second.1 (count + k) d (omega arith) (omega (arith, h, l))))

    mid_all : filter (reads_atom atom) (take count rest) ≡ take count rest
    mid_all = all_kept (reads_atom atom) (take count rest)
        (λ k d h.
        let l = length-take-le count rest small in
        let within : k < count = omega (arith, h, l) in
        let long = ap length rest_is ∙ length-drop start readers in
        let here : get_or (take count rest) k d ≡ get_or readers (start + k) d = get_or-take count rest k d within ∙ ap (λ list. get_or list k d) rest_is ∙ get_or-drop start readers k d in
        ap (λ (one : PartReader). one.atom == atom) here
        ∙ between _ atom (first.1 (start + k) d (omega arith) (omega (arith, within, small, long)))
        (ap (λ (one : PartReader). nat_le one.atom atom) (sym here ∙ get_or-take count rest k d within) ∙ second.0 k d (omega (arith, within, small)) within))

    pub found : take count rest ≡ filter (reads_atom atom) readers
    found =
        sym (append-nil (take count rest))
        ∙ (λ i. sym mid_all i ++ sym back_none i)
        ∙ sym (filter-append (reads_atom atom) (take count rest) (drop count rest))
        ∙ ap (filter (reads_atom atom)) (take-append-drop count rest ∙ rest_is)
        ∙ (λ i. sym front_none i ++ filter (reads_atom atom) (drop start readers))
        ∙ sym (filter-append (reads_atom atom) (take start readers) (drop start readers))
        ∙ ap (filter (reads_atom atom)) (take-append-drop start readers)

-- ---- tests at some item

pub any_alike : {A : Type 0} (some other : A → Bool) → ((x : A) → some x ≡ other x) → (xs : List A) → list_any some xs ≡ list_any other xs
any_alike some other alike [] = refl
any_alike some other alike (x ∷ xs) = λ i. alike x i || any_alike some other alike xs i

pub any_weaker : {A : Type 0} (some other : A → Bool) → ((x : A) → some x ≡ true → other x ≡ true) → (xs : List A) → list_any some xs ≡ true → list_any other xs ≡ true
any_weaker some other weaker [] h = h
any_weaker some other weaker (x ∷ xs) h = elim (or_cases (some x) (list_any some xs) h) [
  | inl here ↦ or_left (other x) _ (weaker x here)
  | inr later ↦ or_right (other x) _ (any_weaker some other weaker xs later)
]

pub none_of : {A : Type 0} (test : A → Bool) → ((x : A) → test x ≡ false) → (xs : List A) → list_any test xs ≡ false
none_of test fails [] = refl
none_of test fails (x ∷ xs) = λ i. fails x i || none_of test fails xs i

any-flat_map : {A B : Type 0} (test : B → Bool) (f : A → List B) (xs : List A) → list_any test (flat_map f xs) ≡ list_any (λ x. list_any test (f x)) xs
any-flat_map test f [] = refl
any-flat_map test f (x ∷ xs) = list_any-append test (f x) (flat_map f xs) ∙ ap (λ b. list_any test (f x) || b) (any-flat_map test f xs)

any-filter : {A : Type 0} (test keep : A → Bool) (xs : List A) → list_any test (filter keep xs) ≡ list_any (λ x. keep x && test x) xs
any-filter test keep [] = refl
any-filter test keep (x ∷ xs) = by (keep x) (any-filter test keep xs)
  where
    by : (b : Bool) → list_any test (filter keep xs) ≡ list_any (λ y. keep y && test y) xs → list_any test (cond b (x ∷ filter keep xs) (filter keep xs)) ≡ ((b && test x) || list_any (λ y. keep y && test y) xs)
    by true rest = ap (λ b. test x || b) rest
    by false rest = rest

pub mentioned : (place : ℕ) (places : List ℕ) → mentions place places ≡ true → Contains places place
mentioned place [] h = absurd (true≢false (sym h))
mentioned place (one ∷ places) h = elim (or_cases (one == place) (mentions place places) h) [
  | inl here ↦ (0, omega arith, eqb-true one place here)
  | inr later ↦ let rest = mentioned place places later in (suc rest.0, (let w = rest.1 in omega (arith, w)), rest.2)
]

pub mentions_it : (place : ℕ) (places : List ℕ) (index : ℕ) → index < length places → slice_index_or places index place ≡ place → mentions place places ≡ true
mentions_it place [] index within is = absurd (omega (arith, within))
mentions_it place (one ∷ places) zero within is = or_left (one == place) _ (eq-eqb one place is)
mentions_it place (one ∷ places) (suc index) within is = or_right (one == place) _ (mentions_it place places index (omega (arith, within)) is)

-- ---- the readers of an atom at a place

and_false : (b : Bool) → (b && false) ≡ false
and_false true = refl
and_false false = refl

and_true : (b : Bool) → (b && true) ≡ b
and_true true = refl
and_true false = refl

or_false : (b : Bool) → (b || false) ≡ b
or_false true = refl
or_false false = refl

module _ (atom : ℕ) where
  own : (place : ℕ) (atoms : List ℕ) → list_any (is_at atom place) (map (reader place) atoms) ≡ mentions atom atoms
  own place atoms = list_any-map (is_at atom place) (reader place) atoms ∙ any_alike (λ one. (one == atom) && (place == place)) (λ one. one == atom) (λ one. ap (λ b. (one == atom) && b) (eq-eqb place place refl) ∙ and_true (one == atom)) atoms

  foreign : (place other : ℕ) (atoms : List ℕ) → (place ≡ other → ⊥) → list_any (is_at atom other) (map (reader place) atoms) ≡ false
  foreign place other atoms apart = list_any-map (is_at atom other) (reader place) atoms ∙ none_of (λ one. (one == atom) && (place == other)) (λ one. ap (λ b. (one == atom) && b) (ne_eqb place other apart) ∙ and_false (one == atom)) atoms

  module _ {A : Type 0} (atoms : A → List ℕ) where
    -- none stands outside their places
    pub outside : (from other : ℕ) (xs : List A) → (other < from) ⊎ (from + length xs ≤ other) → list_any (is_at atom other) (readers_from from (map atoms xs)) ≡ false
    outside from other [] far = refl
    outside from other (x ∷ xs) far =
        list_any-append (is_at atom other) (map (reader from) (atoms x)) (readers_from (from + 1) (map atoms xs))
        ∙ (λ i. foreign from other (atoms x) (apart far) i || outside (from + 1) other xs (further far) i)
      where
        apart : (other < from) ⊎ (from + suc (length xs) ≤ other) → from ≡ other → ⊥
        apart (inl low) same = omega (arith, low, same)
        apart (inr high) same = omega (arith, high, same)

        further : (other < from) ⊎ (from + suc (length xs) ≤ other) → (other < from + 1) ⊎ (from + 1 + length xs ≤ other)
        further (inl low) = inl (omega (arith, low))
        further (inr high) = inr (omega (arith, high))

    -- one stands at a place where what stands there reads the atom
    pub inside : (from index : ℕ) (xs : List A) (d : A) → index < length xs → list_any (is_at atom (from + index)) (readers_from from (map atoms xs)) ≡ mentions atom (atoms (get_or xs index d))
    inside from index [] d within = absurd (omega (arith, within))
    inside from zero (x ∷ xs) d within =
        list_any-append (is_at atom (from + zero)) (map (reader from) (atoms x)) (readers_from (from + 1) (map atoms xs))
        ∙ (λ i. ap (λ place. list_any (is_at atom place) (map (reader from) (atoms x))) here i || outside (from + 1) (from + zero) xs (inl (omega arith)) i)
        ∙ or_false _ ∙ own from (atoms x)
      where
        here : from + zero ≡ from
        here = omega arith
    inside from (suc index) (x ∷ xs) d within =
        list_any-append (is_at atom (from + suc index)) (map (reader from) (atoms x)) (readers_from (from + 1) (map atoms xs))
        ∙ (λ i. foreign from (from + suc index) (atoms x) (λ same. omega (arith, same)) i || ap (λ place. list_any (is_at atom place) (readers_from (from + 1) (map atoms xs))) moved i)
        ∙ inside (from + 1) index xs d (omega (arith, within))
      where
        moved : from + suc index ≡ from + 1 + index
        moved = omega arith

-- ---- the places that are read

-- those of the readers of each change's atom
abbrev pub places_in : List PartReader → List Change → List ℕ
places_in readers changes = flat_map (λ (change : Change). places_of (filter (reads_atom change.atom) readers)) changes

pub read_there : (readers : List PartReader) (changes : List Change) (places : List ℕ) → IsPermutation (places_in readers changes) places → (place : ℕ) → mentions place places ≡ is_read_at changes readers place
read_there readers changes places found place =
    sym (list_any-IsPermutation (λ one. one == place) (places_in readers changes) places found)
    ∙ any-flat_map (λ one. one == place) (λ (change : Change). places_of (filter (reads_atom change.atom) readers)) changes
    ∙ any_alike _ _ (λ (change : Change).
    list_any-map (λ one. one == place) (λ (one : PartReader). one.place) (filter (reads_atom change.atom) readers)
    ∙ any-filter (λ (one : PartReader). one.place == place) (reads_atom change.atom) readers) changes
