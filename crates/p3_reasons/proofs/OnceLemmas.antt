-- Each atom of a list once: what passes, and that no atom stands twice.
use Rattle.std.proofs.Common.{◌≡◌, ◌∙◌, Bool, true, false, ◌&&◌, ◌||◌, if◌then◌else◌, List, [], ◌∷◌, ◌++◌, refl, sym, ap, subst}
use Rattle.std.specs.Prelude.{bytes_eq, fold}
use Rattle.std.specs.Cmp.{IsEquivalence}
use Rattle.std.specs.List.{list_any, list_all, IsDistinct}
use Rattle.std.proofs.Math.Bool.{and-true, and_assoc}
use Rattle.std.proofs.lemmas.Bool.{and_parts}
use Rattle.std.specs.Bool.{one_answer}
use Rattle.std.proofs.lemmas.List.{map-id}
use Rattle.std.proofs.lemmas.List.Folds.{list_all-append}
use Rattle.std.proofs.lemmas.Map.Keys.{IsDistinct-push}
use Rattle.std.proofs.lemmas.Slice.Eq.{bytes_eq-Decides}
use Rattle.p3_expansion.specs.Atoms.{GroundAtom, AreDistinct, with_atom}
use Rattle.p3_expansion.proofs.AtomLemmas.{one-number}
use Rattle.p3_reasons.specs.Outcomes.{each_once}

-- ---- what passes

module _ (passes : GroundAtom → Bool) where
  found-passes : (atoms : List GroundAtom) (atom : GroundAtom) → list_any (bytes_eq atom) atoms ≡ true → list_all passes atoms ≡ true → passes atom ≡ true
  found-passes [] atom found all = absurd (cc)
  found-passes (first ∷ atoms) atom found all = by (bytes_eq atom first) refl (found-passes atoms atom)
    where
      split : (passes first ≡ true) × (list_all passes atoms ≡ true)
      split = and_parts (passes first) (list_all passes atoms) all

      by : (same : Bool) → bytes_eq atom first ≡ same → (list_any (bytes_eq atom) atoms ≡ true → list_all passes atoms ≡ true → passes atom ≡ true) → passes atom ≡ true
      by true same behind = ap passes ((bytes_eq-Decides atom first).0 same) ∙ split.0
      by false other behind = behind (sym (ap (λ one. one || list_any (bytes_eq atom) atoms) other) ∙ found) split.1

  passes-with : (atoms : List GroundAtom) (atom : GroundAtom) → list_all passes (with_atom atoms atom) ≡ (list_all passes atoms && passes atom)
  passes-with atoms atom = by (list_any (bytes_eq atom) atoms) refl
    where
      there : list_any (bytes_eq atom) atoms ≡ true → (all : Bool) → list_all passes atoms ≡ all → list_all passes atoms ≡ (list_all passes atoms && passes atom)
      there found true all = all ∙ sym (λ i. all i && found-passes atoms atom found all i)
      there found false some = some ∙ sym (ap (λ one. one && passes atom) some)

      by : (found : Bool) → list_any (bytes_eq atom) atoms ≡ found → list_all passes (if found then atoms else atoms ++ atom ∷ []) ≡ (list_all passes atoms && passes atom)
      by true found = there found (list_all passes atoms) refl
      by false found = list_all-append passes atoms (atom ∷ []) ∙ ap (λ last. list_all passes atoms && last) (and-true (passes atom))

  passes-more : (before atoms : List GroundAtom) → list_all passes (fold with_atom before atoms) ≡ (list_all passes before && list_all passes atoms)
  passes-more before [] = sym (and-true (list_all passes before))
  passes-more before (atom ∷ atoms) =
      passes-more (with_atom before atom) atoms ∙ ap (λ front. front && list_all passes atoms) (passes-with before atom) ∙ and_assoc (list_all passes before) (passes atom) (list_all passes atoms)

  pub passes-once : (atoms : List GroundAtom) → list_all passes (each_once atoms) ≡ list_all passes atoms
  passes-once atoms = passes-more [] atoms

-- ---- no atom stands twice

alike : IsEquivalence bytes_eq
alike = record {
  refl = λ x. (bytes_eq-Decides x x).1 refl;
  symm = λ x y. one_answer (bytes_eq x y) (bytes_eq y x) (bytes_eq-Decides x y) ((λ same. sym ((bytes_eq-Decides y x).0 same)), (λ same. (bytes_eq-Decides y x).1 (sym same)));
  congr = λ x y z same. ap (λ one. bytes_eq one z) ((bytes_eq-Decides x y).0 same);
}

distinct-with : (atoms : List GroundAtom) (atom : GroundAtom) → IsDistinct bytes_eq atoms → IsDistinct bytes_eq (with_atom atoms atom)
distinct-with atoms atom distinct = by (list_any (bytes_eq atom) atoms) refl
  where
    by : (found : Bool) → list_any (bytes_eq atom) atoms ≡ found → IsDistinct bytes_eq (if found then atoms else atoms ++ atom ∷ [])
    by true found = distinct
    by false found = IsDistinct-push alike atoms atom distinct found

distinct-more : (before atoms : List GroundAtom) → IsDistinct bytes_eq before → IsDistinct bytes_eq (fold with_atom before atoms)
distinct-more before [] distinct = distinct
distinct-more before (atom ∷ atoms) distinct = distinct-more (with_atom before atom) atoms (distinct-with before atom distinct)

pub once-distinct : (atoms : List GroundAtom) → AreDistinct (each_once atoms)
unfolding IsDistinct
once-distinct atoms = subst AreDistinct (map-id (each_once atoms)) (one-number (λ atom. atom) (each_once atoms) (distinct-more [] atoms tt))
