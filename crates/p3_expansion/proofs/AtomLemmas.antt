-- A table of ground atoms as the list of its keys.
use Rattle.std.proofs.Common.{◌≡◌, ◌∙◌, ℕ, ◌<◌, Bool, true, false, if◌then◌else◌, List, [], ◌∷◌, ◌++◌, map, length, get_or, slice_get, Some, refl, sym, ap, arith, zero, suc, nat_lt, true≢false}
use Rattle.std.specs.Prelude.{bytes_eq, position}
use Rattle.std.specs.List.{list_any, IsDistinct}
use Rattle.std.proofs.lemmas.Bool.Decides.{nat_tests}
use Rattle.std.proofs.lemmas.List.{map-append}
use Rattle.std.proofs.lemmas.List.Quantifiers.{position-Some}
use Rattle.std.proofs.lemmas.Map.Keys.{apart_from_distinct}
use Rattle.std.proofs.lemmas.Slice.Eq.{bytes_eq-Decides}
use Rattle.p3_formula.proofs.FormLemmas.{list_any-map}
use Rattle.indexmap.specs.IndexSet.{insert_key}
use Rattle.p3_expansion.specs.Atoms.{GroundAtom, AreDistinct, with_atom}

pub found-with : (atoms : List GroundAtom) (atom : GroundAtom) → list_any (bytes_eq atom) atoms ≡ true → atoms ≡ with_atom atoms atom
found-with atoms atom found = rw found refl

module _ {A : Type 0} (items : A → GroundAtom) where
  pub has-keys : (keys : List A) (atom : GroundAtom) → list_any (λ key. bytes_eq atom (items key)) keys ≡ list_any (bytes_eq atom) (map items keys)
  has-keys keys atom = sym (list_any-map (bytes_eq atom) items keys)

  pub insert-keys : (keys : List A) (key : A) → map items (insert_key (λ x y. bytes_eq (items x) (items y)) keys key) ≡ with_atom (map items keys) (items key)
  insert-keys keys key = by (list_any (λ other. bytes_eq (items key) (items other)) keys) ∙ (λ i. if has-keys keys (items key) i then map items keys else map items keys ++ items key ∷ [])
    where
      by : (found : Bool) → map items (if found then keys else keys ++ key ∷ []) ≡ (if found then map items keys else map items keys ++ items key ∷ [])
      by true = refl
      by false = map-append items keys (key ∷ [])

  at-key : (keys : List A) (i : ℕ) (d : A) → i < length keys → slice_get (map items keys) i ≡ Some (items (get_or keys i d))
  at-key [] i d within = absurd (omega arith)
  at-key (key ∷ keys) zero d within = refl
  at-key (key ∷ keys) (suc i) d within = at-key keys i d (omega arith)

  pub stored-key : (keys : List A) (i : ℕ) (key : A) (atom : GroundAtom) → slice_get keys i ≡ Some key → bytes_eq atom (items key) ≡ true → slice_get (map items keys) i ≡ Some atom
  stored-key [] i key atom here same = absurd (cc)
  stored-key (other ∷ keys) zero key atom here same =
      let is : other ≡ key = cc in
      ap (λ one. Some (items one)) is ∙ ap Some (sym ((bytes_eq-Decides atom (items key)).0 same))
  stored-key (other ∷ keys) (suc i) key atom here same = stored-key keys i key atom here same

  pub found-key : (keys : List A) (i : ℕ) (atom : GroundAtom) → position (λ key. bytes_eq atom (items key)) keys ≡ Some i → slice_get (map items keys) i ≡ Some atom
  found-key [] i atom found = absurd (cc)
  found-key (key ∷ keys) i atom found =
      let at = position-Some (λ key. bytes_eq atom (items key)) (key ∷ keys) i key found in
      at-key (key ∷ keys) i key at.0 ∙ ap Some (sym ((bytes_eq-Decides atom (items (get_or (key ∷ keys) i key))).0 at.1))

  key-of : (keys : List A) (i : ℕ) (d : A) (atom : GroundAtom) → slice_get (map items keys) i ≡ Some atom → (i < length keys) × (items (get_or keys i d) ≡ atom)
  key-of [] i d atom here = absurd (cc)
  key-of (key ∷ keys) zero d atom here = (omega arith, cc)
  key-of (key ∷ keys) (suc i) d atom here = let rest = key-of keys i d atom here in (omega (arith, rest.0), rest.1)

  pub one-number : (keys : List A) → IsDistinct (λ x y. bytes_eq (items x) (items y)) keys → AreDistinct (map items keys)
  one-number [] distinct = record { one_number = λ first second atom here there. absurd (cc) }
  one-number (key ∷ keys) distinct = record { one_number = λ a b atom here there. by a b atom here there (nat_lt a b) (nat_lt b a) refl refl }
    where
      all : List A
      all = key ∷ keys

      apart : (a b : ℕ) (atom : GroundAtom) → slice_get (map items (key ∷ keys)) a ≡ Some atom → slice_get (map items (key ∷ keys)) b ≡ Some atom → a < b → ⊥
      apart a b atom here there less =
          let one = key-of (key ∷ keys) a key atom here in
          let other = key-of (key ∷ keys) b key atom there in
          true≢false (sym ((bytes_eq-Decides (items (get_or (key ∷ keys) a key)) (items (get_or (key ∷ keys) b key))).1 (one.1 ∙ sym other.1)) ∙ apart_from_distinct (λ x y. bytes_eq (items x) (items y)) (key ∷ keys) a b key distinct less other.0)

      by : (a b : ℕ) (atom : GroundAtom) → slice_get (map items (key ∷ keys)) a ≡ Some atom → slice_get (map items (key ∷ keys)) b ≡ Some atom → (t u : Bool) → nat_lt a b ≡ t → nat_lt b a ≡ u → a ≡ b
      by a b atom here there true u less more = absurd (apart a b atom here there (grind (arith, nat_tests)))
      by a b atom here there false true less more = absurd (apart b a atom there here (grind (arith, nat_tests)))
      by a b atom here there false false less more = grind (arith, nat_tests)
