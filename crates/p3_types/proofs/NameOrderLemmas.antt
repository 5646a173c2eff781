-- Names in order, and look-ups by halving.
use Rattle.std.proofs.Common.{◌≡◌, ◌∙◌, ℕ, zero, suc, ◌+◌, ◌<◌, ◌≤◌, refl, sym, ap, subst, ◌==◌, Bool, true, false, ◌||◌, List, [], ◌∷◌, ◌++◌, map, length, get_or, drop, Option, Some, None, arith}
use Rattle.std.specs.Prelude.{slice_get, nat_lt, position, MatchOption}
use borrow.Author.Tests.{ltb-true, ltb-false}
use Rattle.std.specs.Cmp.{unsigned_ties}
use Rattle.std.specs.Cmp.Lexicographic.{lists_ties, nat_list_cmp_total}
use Rattle.std.specs.List.{All, Contains, list_any}
use Rattle.std.specs.List.Sorted.{IsPermutation, IsSortedBy}
use Rattle.std.specs.Ordering.{is_lt, is_eq, is_ne, nat_cmp, ordering_then, ordering_index}
use Rattle.std.specs.Char.{to_ascii_lowercase}
use Rattle.std.specs.Str.{str_to_ascii_lowercase}
use Rattle.std.specs.declared.cmp.Ordering.{Ordering}
use Rattle.std.specs.declared.cmp.Ordering.TheVariants.{Less, Equal, Greater}
use Rattle.std.proofs.lemmas.Bool.{true≢false, or_left, or_right, or_parts}
use Rattle.std.proofs.lemmas.Bool.Decides.{Decides-eqb}
use Rattle.std.proofs.lemmas.Cmp.{tied_itself}
use Rattle.std.proofs.lemmas.List.{get_or-map, get_or_default, drop_more, drop_all, length-map, map-append}
use Rattle.std.proofs.lemmas.List.Elements.{All-nil, All-push, All-map, Contains-append_left, Contains-push}
use Rattle.std.proofs.lemmas.List.Sorted.{All-permutation, Contains-permutation, IsPermutation-map, searchable_from_sorted}
use Rattle.std.proofs.lemmas.Slice.Eq.{bytes_eq-Decides}
use borrow.Author.Count.{below_more}
use denote.Ref.{Bor}
use Rattle.p3_task.proofs.OnceLemmas.{AreOnce, each_once, Some-injective}
use Rattle.p3_task.specs.Names.{Name, same_name, has_name}
use Rattle.p3_task.specs.PreferenceNames.{ordered_names}
use Rattle.p3_task.specs.declared.task.Task.{Task}
use Rattle.p3_numbers.specs.Slots.{name_at}
use Rattle.p3_types.specs.NameOrders.{compare, IsNameOrder, ArePlaced, IsBetween}

abbrev pub Pair : Type 0
Pair = Bor Name × ℕ

abbrev pub place_of : Pair → ℕ
place_of pair = pair.1

-- ---- the pairs of names and places

pub placed_none : (names : List Name) (pairs : List Pair) → pairs ≡ [] → ArePlaced names 0 pairs
placed_none names pairs e =
    let start : ArePlaced names 0 [] = record { named = All-nil (λ (other : Pair). other.0.now ≡ name_at names other.1); within = All-nil (λ (other : Pair). other.1 < length names); whole = λ place below. absurd (omega arith) } in
    subst (ArePlaced names 0) (sym e) start

pub placed_more : (names : List Name) (count : ℕ) (pairs : List Pair) (pair : Pair) → ArePlaced names count pairs → pair.0.now ≡ name_at names count → pair.1 ≡ count → count < length names → ArePlaced names (count + 1) (pairs ++ pair ∷ [])
placed_more names count pairs pair placed named at within = record {
  named = All-push (λ (other : Pair). other.0.now ≡ name_at names other.1) pairs pair placed.named (named ∙ ap (name_at names) (sym at));
  within = All-push (λ (other : Pair). other.1 < length names) pairs pair placed.within (subst (λ place. place < length names) (sym at) within);
  whole = below_more (λ place. Contains (map place_of (pairs ++ pair ∷ [])) place) count
      (λ place below. subst (λ places. Contains places place) (sym (map-append place_of pairs (pair ∷ []))) (Contains-append_left (map place_of pairs) (pair.1 ∷ []) place (placed.whole place below)))
      (subst (λ places. Contains places count) (sym (map-append place_of pairs (pair ∷ []))) (subst (λ place. Contains (map place_of pairs ++ pair.1 ∷ []) place) at (Contains-push (map place_of pairs) pair.1)));
}

pub ruleset placed_laws = (placed_none, placed_more)

-- ---- places in a list

any_from_place : (xs : List ℕ) (k x : ℕ) → k < length xs → get_or xs k x ≡ x → list_any (λ other. other == x) xs ≡ true
any_from_place [] k x within at = absurd (omega arith)
any_from_place (y ∷ xs) zero x within at = or_left (y == x) _ ((Decides-eqb y x).1 at)
any_from_place (y ∷ xs) (suc k) x within at = or_right (y == x) _ (any_from_place xs k x (omega arith) at)

place_from_any : (xs : List ℕ) (x : ℕ) → list_any (λ other. other == x) xs ≡ true → Contains xs x
place_from_any [] x e = absurd (true≢false (sym e))
place_from_any (y ∷ xs) x e = by (y == x) refl e (place_from_any xs x)
  where
    by : (t : Bool) → (y == x) ≡ t → (t || list_any (λ other. other == x) xs) ≡ true → (list_any (λ other. other == x) xs ≡ true → Contains xs x) → Contains (y ∷ xs) x
    by true same e rest = (0, omega arith, (Decides-eqb y x).0 same)
    by false apart e rest = let (k, within, at) = rest e in (suc k, omega (arith, within), at)

-- ---- the sorted pairs

abbrev pub pair_order : Pair → Pair → Ordering
pair_order first second = ordering_then (compare first.0.now second.0.now) (nat_cmp first.1 second.1)

first_not_less : (r s : Ordering) → is_lt (ordering_then r s) ≡ false → is_lt r ≡ false
first_not_less Less s e = e
first_not_less Equal s e = refl
first_not_less Greater s e = refl

rising_places : (names : List Name) (sorted : List Pair) → All (λ (pair : Pair). pair.0.now ≡ name_at names pair.1) sorted → IsSortedBy (λ first second. is_lt (pair_order first second)) sorted
    → IsSortedBy (λ first second. is_lt (compare (name_at names first) (name_at names second))) (map place_of sorted)
rising_places names [] named rising k d low high = absurd (omega arith)
rising_places names (e ∷ others) named rising k d low high = by (e ∷ others) named rising (omega (arith, high, length-map (e ∷ others) place_of))
  where
    by : (sorted : List Pair) → All (λ (pair : Pair). pair.0.now ≡ name_at names pair.1) sorted → IsSortedBy (λ first second. is_lt (pair_order first second)) sorted → k + 1 < length sorted
        → is_lt (compare (name_at names (get_or (map place_of sorted) (k + 1) d)) (name_at names (get_or (map place_of sorted) k d))) ≡ false
    by sorted named rising next =
        let here : k < length sorted = omega (arith, next) in
        let apart = first_not_less _ _ (rising k e low next) in
        subst (λ a. is_lt (compare (name_at names (get_or (map place_of sorted) (k + 1) d)) (name_at names a)) ≡ false) (sym (get_or-map place_of sorted k e d here))
        (subst (λ b. is_lt (compare (name_at names b) (name_at names (get_or sorted k e).1)) ≡ false) (sym (get_or-map place_of sorted (k + 1) e d next))
        (subst (λ a. is_lt (compare (name_at names (get_or sorted (k + 1) e).1) a) ≡ false) (named k e here)
        (subst (λ b. is_lt (compare b (get_or sorted k e).0.now) ≡ false) (named (k + 1) e next) apart)))

pub order_of_pairs : (names : List Name) (pairs sorted : List Pair) (order : List ℕ) → ArePlaced names (length names) pairs → IsPermutation pairs sorted → IsSortedBy (λ first second. is_lt (pair_order first second)) sorted → order ≡ map place_of sorted → IsNameOrder names order
order_of_pairs names pairs sorted order placed moved rising is =
    let sorted_order : IsNameOrder names (map place_of sorted) = record {
      within = All-map (λ place. place < length names) place_of sorted (All-permutation (λ (pair : Pair). pair.1 < length names) pairs sorted moved placed.within);
      rising = rising_places names sorted (All-permutation (λ (pair : Pair). pair.0.now ≡ name_at names pair.1) pairs sorted moved placed.named) rising;
      whole = λ place below.
          let (k, within, at) = Contains-permutation _ _ place (IsPermutation-map place_of pairs sorted moved) (placed.whole place below) in
          any_from_place (map place_of sorted) k place within at;
    } in
    subst (IsNameOrder names) (sym is) sorted_order

-- ---- names that are the same

equal_is_same : (first second : Name) → compare first second ≡ Equal → first ≡ second
equal_is_same first second e = (bytes_eq-Decides first second).0 (lists_ties nat_cmp unsigned_ties first second ∙ ap is_eq e)

itself_is_equal : (name : Name) → compare name name ≡ Equal
itself_is_equal name = tied_itself nat_list_cmp_total name

pub slice_at : {X : Type 0} (xs : List X) (i : ℕ) (d : X) → i < length xs → slice_get xs i ≡ Some (get_or xs i d)
slice_at [] i d within = absurd (omega arith)
slice_at (x ∷ xs) zero d within = refl
slice_at (x ∷ xs) (suc i) d within = slice_at xs i d (omega arith)

pub found_at : (names : List Name) (word : Name) (place : ℕ) → compare (name_at names place) word ≡ Equal → place < length names → slice_get names place ≡ Some word
found_at names word place e within = slice_at names place [] within ∙ ap Some (equal_is_same _ _ e)

pub record IsAt (names : List Name) (word : Name) : Type 0 where
  pub place : ℕ
  pub within : place < length names
  pub is : name_at names place ≡ word

pub place_of_word : (names : List Name) (word : Name) → has_name names word ≡ true → IsAt names word
place_of_word [] word e = absurd (true≢false (sym e))
place_of_word (name ∷ names) word e = by (same_name name word) refl e (place_of_word names word)
  where
    by : (t : Bool) → same_name name word ≡ t → (t || has_name names word) ≡ true → (has_name names word ≡ true → IsAt names word) → IsAt (name ∷ names) word
    by true same e rest = record { place = 0; within = omega arith; is = (bytes_eq-Decides name word).0 same }
    by false apart e rest = let found = rest e in record { place = suc found.place; within = omega (arith, found.within); is = found.is }

-- ---- the place of a name

pub apart_at : (names : List Name) (word : Name) (k : ℕ) → has_name names word ≡ false → k < length names → same_name (get_or names k []) word ≡ false
apart_at [] word k none within = absurd (omega arith)
apart_at (name ∷ names) word zero none within = (or_parts (same_name name word) _ none).0
apart_at (name ∷ names) word (suc k) none within = apart_at names word k (or_parts (same_name name word) _ none).1 (omega arith)

pub slice_within : {X : Type 0} (xs : List X) (i : ℕ) (x : X) → slice_get xs i ≡ Some x → i < length xs
slice_within [] i x e = absurd (cc)
slice_within (y ∷ xs) zero x e = omega arith
slice_within (y ∷ xs) (suc i) x e = let rest = slice_within xs i x e in omega (arith, rest)

pub map_same : {X : Type 0} (xs : List X) → map (λ x. x) xs ≡ xs
map_same [] = refl
map_same (x ∷ xs) = ap (λ rest. x ∷ rest) (map_same xs)

-- ---- halving

module _ (names : List Name) (order : List ℕ) (word : Name) where
  abbrev stand : ℕ → ℕ
  stand place = ordering_index (compare (name_at names place) word)

  rises : IsNameOrder names order → (i j d : ℕ) → i ≤ j → j < length order → stand (get_or order i d) ≤ stand (get_or order j d)
  rises o i j d upto within = searchable_from_sorted nat_list_cmp_total (name_at names) order word o.rising i j d upto within

  least_is : (r : Ordering) → ordering_index r ≤ 0 → r ≡ Less
  least_is Less e = refl
  least_is Equal e = absurd (omega arith)
  least_is Greater e = absurd (omega arith)

  most_is : (r : Ordering) → 2 ≤ ordering_index r → r ≡ Greater
  most_is Less e = absurd (omega arith)
  most_is Equal e = absurd (omega arith)
  most_is Greater e = refl

  stands : (middle place d : ℕ) → middle < length order → place ≡ get_or order middle 0 → compare (name_at names place) word ≡ compare (name_at names (get_or order middle d)) word
  stands middle place d within at = ap (λ p. compare (name_at names p) word) (at ∙ get_or_default order middle 0 d within)

  pub between_up : (low high middle place : ℕ) → IsNameOrder names order → IsBetween names order word low high → middle < high → place ≡ get_or order middle 0 → compare (name_at names place) word ≡ Less → IsBetween names order word (middle + 1) high
  between_up low high middle place o between below at less = record {
    bound = between.bound;
    before = λ k d under.
        let inside : middle < length order = omega (arith, below, between.bound) in
        let here : stand (get_or order middle d) ≡ 0 = ap ordering_index (sym (stands middle place d inside at) ∙ less) in
        least_is _ (omega (arith, here, rises o k middle d (omega (arith, under)) inside));
    behind = between.behind;
  }

  pub between_down : (low high middle place : ℕ) → IsNameOrder names order → IsBetween names order word low high → middle < high → place ≡ get_or order middle 0 → compare (name_at names place) word ≡ Greater → IsBetween names order word low middle
  between_down low high middle place o between below at greater = record {
    bound = omega (arith, below, between.bound);
    before = between.before;
    behind = λ k d past within.
        let inside : middle < length order = omega (arith, below, between.bound) in
        let here : stand (get_or order middle d) ≡ 2 = ap ordering_index (sym (stands middle place d inside at) ∙ greater) in
        most_is _ (omega (arith, here, rises o middle k d past within));
  }

  not_there : (has : Bool) → (has ≡ true → ⊥) → has ≡ false
  not_there true never = absurd (never refl)
  not_there false never = refl

  pub between_none : (low high : ℕ) → IsNameOrder names order → IsBetween names order word low high → high ≤ low → has_name names word ≡ false
  between_none low high o between met = not_there _ (λ has.
      let found = place_of_word names word has in
      let (k, within, at) = place_from_any order found.place (o.whole found.place found.within) in
      let equal : compare (name_at names (get_or order k found.place)) word ≡ Equal = ap (λ p. compare (name_at names p) word) at ∙ ap (λ name. compare name word) found.is ∙ itself_is_equal word in
      by k found.place within equal)
    where
      by : (k d : ℕ) → k < length order → compare (name_at names (get_or order k d)) word ≡ Equal → ⊥
      by k d within equal = two (nat_lt k low) refl
        where
          two : (t : Bool) → nat_lt k low ≡ t → ⊥
          two true less = let e = between.before k d (ltb-true k low less) in let wrong = sym e ∙ equal in (cc)
          two false more = let e = between.behind k d (omega (arith, met, ltb-false k low more)) within in let wrong = sym e ∙ equal in (cc)

  pub inside_order : (place middle : ℕ) → IsNameOrder names order → middle < length order → place ≡ get_or order middle 0 → place < length names
  inside_order place middle o within at = subst (λ p. p < length names) (sym at) (o.within middle 0 within)

-- ---- one name and a word, byte by byte

pub named_at : {X : Type 0} (name_of : X → Name) (items : List X) (place : ℕ) (item : X) → place < length items → item ≡ get_or items place item → name_at (map name_of items) place ≡ name_of item
named_at name_of items place item within at = get_or-map name_of items place item [] within ∙ ap name_of (sym at)

module _ (name word : Name) (place : ℕ) where
  abbrev pub left : ℕ → Ordering
  left n = compare (drop n name) (drop n (str_to_ascii_lowercase word))

  longer : length word ≤ place → drop place (str_to_ascii_lowercase word) ≡ []
  longer past = drop_all place _ (omega (arith, past, length-map word to_ascii_lowercase))

  pub word_ends : place < length name → length word ≤ place → left place ≡ Greater
  word_ends within past = (λ i. compare (drop_more name place 0 within i) (longer past i))

  pub name_ends : length name ≤ place → place < length word → left place ≡ Less
  name_ends past within = (λ i. compare (drop_all place name past i) (drop_more (str_to_ascii_lowercase word) place 0 (omega (arith, within, length-map word to_ascii_lowercase)) i))

  pub bytes_first : place < length name → place < length word → left place ≡ ordering_then (nat_cmp (get_or name place 0) (to_ascii_lowercase (get_or word place 0))) (left (place + 1))
  bytes_first within inside =
      (λ i. compare (drop_more name place 0 within i) (drop_more (str_to_ascii_lowercase word) place 0 (omega (arith, inside, length-map word to_ascii_lowercase)) i))
      ∙ ap (λ byte. ordering_then (nat_cmp (get_or name place 0) byte) (left (place + 1))) (get_or-map to_ascii_lowercase word place 0 0 inside)

pub differs_first : (r s : Ordering) → is_ne r ≡ true → ordering_then r s ≡ r
differs_first Less s e = refl
differs_first Equal s e = absurd (true≢false (sym e))
differs_first Greater s e = refl

pub equal_first : (r s : Ordering) → is_ne r ≡ false → ordering_then r s ≡ s
equal_first Less s e = absurd (true≢false e)
equal_first Equal s e = refl
equal_first Greater s e = absurd (true≢false e)
