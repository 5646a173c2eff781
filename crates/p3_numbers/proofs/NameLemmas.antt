-- A table of names as the list of its keys.
use Rattle.std.proofs.Common.{◌≡◌, ◌∙◌, ℕ, ◌+◌, Bool, true, false, not, if◌then◌else◌, cond, List, [], ◌∷◌, ◌++◌, map, length, Some, None, refl, sym, ap, subst, nat_lt, ◌&&◌, ◌||◌, ◌<◌, get_or, take, true≢false, ◌≤◌, arith}
use Rattle.std.specs.Prelude.{bytes_eq, position}
use Rattle.std.specs.List.{list_any, position_or_len}
use Rattle.std.specs.Cmp.Lexicographic.{pointwise, nat_list_eq_equiv}
use Rattle.std.proofs.lemmas.Bool.{ltb-false}
use Rattle.std.proofs.lemmas.List.{map-append, length-map}
use Rattle.std.specs.Prelude.{flat_map}
use Rattle.std.proofs.lemmas.List.{take_more, append-nil}
use Rattle.std.proofs.lemmas.List.Folds.{list_any-append}
use Rattle.std.proofs.lemmas.List.Concat.{flat_map-append}
use Rattle.std.proofs.lemmas.Slice.Eq.{bytes_eq-Decides}
use Rattle.p3_numbers.specs.Names.{Adds}
use Rattle.p3_task.specs.Names.{Name, same_name, same_names, has_name}
use Rattle.p3_task.proofs.MeaningLemmas.{list_any-map}
use Rattle.p3_task.proofs.OnceLemmas.{Some-injective}
use Rattle.indexmap.specs.IndexSet.{insert_key}

-- ---- tables of keys, seen as what is read off each

module _ {A B : Type 0} (seen : A → B) (eq : B → B → Bool) (symm : (one other : B) → eq one other ≡ eq other one) where
  swap : (key : B) → ◌≡◌ {A = B → Bool} (λ other. eq key other) (λ other. eq other key)
  swap key = λ i other. symm key other i

  pub has-keys : (keys : List A) (key : B) → list_any (λ other. eq key (seen other)) keys ≡ list_any (λ other. eq other key) (map seen keys)
  has-keys keys key = sym (list_any-map (eq key) seen keys) ∙ (λ i. list_any (swap key i) (map seen keys))

  position-map : (test : B → Bool) (keys : List A) → position_or_len (λ key. test (seen key)) keys ≡ position_or_len test (map seen keys)
  position-map test [] = refl
  position-map test (key ∷ keys) = λ i. cond (not (test (seen key))) (1 + position-map test keys i) 0

  pub place-keys : (keys : List A) (key : B) → position_or_len (λ other. eq key (seen other)) keys ≡ position_or_len (λ other. eq other key) (map seen keys)
  place-keys keys key = position-map (eq key) keys ∙ (λ i. position_or_len (swap key i) (map seen keys))

  pub number-keys : (keys : List A) (key : B) → position (λ other. eq key (seen other)) keys ≡ position (λ other. eq other key) (map seen keys)
  number-keys keys key = λ i. cond (nat_lt (place-keys keys key i) (sym (length-map keys seen) i)) (Some (place-keys keys key i)) None

  pub insert-keys : (keys : List A) (key : A)
      → map seen (insert_key (λ one other. eq (seen one) (seen other)) keys key) ≡ (if list_any (λ other. eq other (seen key)) (map seen keys) then map seen keys else map seen keys ++ seen key ∷ [])
  insert-keys keys key = by (list_any (λ other. eq (seen key) (seen other)) keys) ∙ (λ i. if has-keys keys (seen key) i then map seen keys else map seen keys ++ seen key ∷ [])
    where
      by : (found : Bool) → map seen (if found then keys else keys ++ key ∷ []) ≡ (if found then map seen keys else map seen keys ++ seen key ∷ [])
      by true = refl
      by false = map-append seen keys (key ∷ [])

pub same-swap : (name : Name) → ◌≡◌ {A = Name → Bool} (λ other. bytes_eq name other) (λ other. same_name other name)
same-swap name = swap (λ other. other) bytes_eq nat_list_eq_equiv.symm name

-- words that are not copied, and lists of them
module _ {W V : Type 0} (now : W → List ℕ) (items : V → List W) where
  same-words : (xs ys : List W) → pointwise (λ x y. bytes_eq (now x) (now y)) xs ys ≡ same_names (map now xs) (map now ys)
  same-words [] [] = refl
  same-words [] (y ∷ ys) = refl
  same-words (x ∷ xs) [] = refl
  same-words (x ∷ xs) (y ∷ ys) = ap (λ rest. bytes_eq (now x) (now y) && rest) (same-words xs ys)

  pub same-keys : ◌≡◌ {A = V → V → Bool} (λ one other. pointwise (λ x y. bytes_eq (now x) (now y)) (items one) (items other)) (λ one other. same_names (map now (items one)) (map now (items other)))
  same-keys = λ i one other. same-words (items one) (items other) i

-- ---- names that are added

or-assoc : (a b c : Bool) → ((a || b) || c) ≡ (a || (b || c))
or-assoc true b c = refl
or-assoc false b c = refl

pub or-false : (a : Bool) → (a || false) ≡ a
or-false true = refl
or-false false = refl

pub adds-none : (old : List Name) → Adds old [] old
adds-none old = λ other. sym (or-false (has_name old other))

pub adds-append : (old now new first second : List Name) → Adds old first now → Adds now second new → Adds old (first ++ second) new
adds-append old now new first second before after = λ other.
    after other ∙ (λ i. before other i || has_name second other) ∙ or-assoc (has_name old other) (has_name first other) (has_name second other)
    ∙ (λ i. has_name old other || sym (list_any-append (λ one. same_name one other) first second) i)

absorbs : (names : List Name) (name other : Name) → has_name names name ≡ true → has_name names other ≡ (has_name names other || (same_name name other || false))
absorbs names name other found = by (bytes_eq name other) refl (has_name names other) refl
  where
    by : (same : Bool) → bytes_eq name other ≡ same → (there : Bool) → has_name names other ≡ there → there ≡ (there || (same || false))
    by same is true here = refl
    by false is false here = refl
    by true is false here = absurd (true≢false (sym found ∙ ap (has_name names) ((bytes_eq-Decides name other).0 is) ∙ here))

pub adds-insert : (old new : List Name) (name : Name) → new ≡ (if has_name old name then old else old ++ name ∷ []) → Adds old (name ∷ []) new
adds-insert old new name is = λ other. ap (λ names. has_name names other) is ∙ by other (has_name old name) refl
  where
    by : (other : Name) (found : Bool) → has_name old name ≡ found → has_name (if found then old else old ++ name ∷ []) other ≡ (has_name old other || (same_name name other || false))
    by other true here = absorbs old name other here
    by other false here = list_any-append (λ one. same_name one other) old (name ∷ [])

pub adds-more : {A : Type 0} (f : A → List Name) (old now new : List Name) (xs : List A) (i : ℕ) (x : A) → i < length xs → x ≡ get_or xs i x
    → Adds old (flat_map f (take i xs)) now → Adds now (f x) new → Adds old (flat_map f (take (i + 1) xs)) new
adds-more f old now new xs i x within read before after =
    subst (λ names. Adds old names new)
    (ap (λ rest. flat_map f (take i xs) ++ rest) (sym (append-nil (f x))) ∙ sym (flat_map-append f (take i xs) (x ∷ [])) ∙ ap (flat_map f) (sym (take_more xs i x within ∙ ap (λ item. take i xs ++ item ∷ []) (sym read))))
    (adds-append old now new (flat_map f (take i xs)) (f x) before after)

pub ruleset adds_laws = (adds-none, adds-append, adds-more)

-- ---- what is at no place

place_at_most : {A : Type 0} (test : A → Bool) (xs : List A) → position_or_len test xs ≤ length xs
place_at_most test [] = omega arith
place_at_most test (x ∷ xs) = by (test x) (place_at_most test xs)
  where
    by : (here : Bool) → position_or_len test xs ≤ length xs → cond (not here) (1 + position_or_len test xs) 0 ≤ length (x ∷ xs)
    by true later = omega arith
    by false later = omega (arith, later)

-- what is at no place has the number behind the last
pub place_behind : {A : Type 0} (test : A → Bool) (xs : List A) → position test xs ≡ None → position_or_len test xs ≡ length xs
place_behind test xs none = by (nat_lt (position_or_len test xs) (length xs)) refl none
  where
    by : (within : Bool) → nat_lt (position_or_len test xs) (length xs) ≡ within → cond within (Some (position_or_len test xs)) None ≡ None → position_or_len test xs ≡ length xs
    by true is none = absurd (cc)
    by false is none =
        let most = place_at_most test xs in
        let least = ltb-false (position_or_len test xs) (length xs) is in
        omega (arith, most, least)

-- what is at a place has its number
pub place_found : {A : Type 0} (test : A → Bool) (xs : List A) (place : ℕ) → position test xs ≡ Some place → place ≡ position_or_len test xs
place_found test xs place is = by (nat_lt (position_or_len test xs) (length xs)) is
  where
    by : (within : Bool) → cond within (Some (position_or_len test xs)) None ≡ Some place → place ≡ position_or_len test xs
    by true found = Some-injective _ _ (sym found)
    by false found = absurd (cc)

pub ruleset number_laws = (place_behind)
