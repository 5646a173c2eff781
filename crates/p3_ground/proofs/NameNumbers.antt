-- The numbers of preference names.
use Rattle.std.proofs.Common.{◌≡◌, ◌∙◌, ℕ, zero, suc, ◌+◌, nat_lt, refl, sym, ap, Bool, true, false, not, List, [], ◌∷◌, length, get_or, arith, Option, Some, None, cond}
use Rattle.std.specs.Prelude.{◌==◌, slice_get, position}
use Rattle.std.specs.List.{prefix_len}
use Rattle.std.specs.Bool.{one_answer}
use Rattle.std.proofs.lemmas.Bool.{true≢false, ltb-false, lt-ltb, le-ltb}
use Rattle.std.proofs.lemmas.Bool.Decides.{Decides-like, Decides-eqb}
use Rattle.std.proofs.lemmas.List.Quantifiers.{position-Some}
use Rattle.std.proofs.lemmas.Option.{slice_get-get_or}
use Rattle.std.proofs.lemmas.Slice.Eq.{bytes_eq-Decides}
use Rattle.p3_task.specs.Names.{Name, same_name}
use Rattle.p3_task.specs.Metrics.{is_called}
use Rattle.p3_task.specs.PreferenceNames.{ordered_names}
use Rattle.p3_task.specs.declared.task.Task.{Task}
use Rattle.p3_task.proofs.OnceLemmas.{Some-injective, AreOnce, each_once}
use Rattle.p3_formula.specs.GroundPlans.{is_numbered}
use Rattle.p3_ground.specs.StandsFor.{number_of_name}

-- ---- the position of the first that passes

none_passes : {A : Type 0} (p : A → Bool) (xs : List A) → nat_lt (prefix_len (λ x. not (p x)) xs) (length xs) ≡ false → (k : ℕ) (x : A) → slice_get xs k ≡ Some x → p x ≡ false
none_passes p [] e k x at = absurd (cc)
none_passes {A = A} p (y ∷ xs) e k x at = by (p y) refl e k at (none_passes p xs)
  where
    by : (t : Bool) → p y ≡ t → nat_lt (cond (not t) (1 + prefix_len (λ x. not (p x)) xs) 0) (suc (length xs)) ≡ false → (k : ℕ) → slice_get (y ∷ xs) k ≡ Some x
        → (nat_lt (prefix_len (λ x. not (p x)) xs) (length xs) ≡ false → (k : ℕ) (x : A) → slice_get xs k ≡ Some x → p x ≡ false) → p x ≡ false
    by true holds e k at rest = absurd (true≢false (sym (lt-ltb 0 (suc (length xs)) (omega arith)) ∙ e))
    by false fails e zero at rest = ap p (sym (Some-injective y x at)) ∙ fails
    by false fails e (suc k) at rest = rest (le-ltb _ _ (let low = ltb-false _ _ e in omega (arith, low))) k x at

no_position : {A : Type 0} (n : A) (t : Bool) → cond t (Some n) None ≡ None → t ≡ false
no_position n true e = absurd (cc)
no_position n false e = refl

pub no_place : {A : Type 0} (p : A → Bool) (xs : List A) → position p xs ≡ None → (k : ℕ) (x : A) → slice_get xs k ≡ Some x → p x ≡ false
no_place p xs e = none_passes p xs (no_position _ _ e)

pub at_place : {A : Type 0} (p : A → Bool) (xs : List A) (k : ℕ) → position p xs ≡ Some k → (x : A) × (slice_get xs k ≡ Some x) × (p x ≡ true)
at_place p [] k e = absurd (cc)
at_place p (y ∷ xs) k e = let found = position-Some p (y ∷ xs) k y e in (get_or (y ∷ xs) k y, slice_get-get_or (y ∷ xs) k y found.0, found.1)

-- ---- names

pub ordered_once : (T : Task) → AreOnce (ordered_names T)
unfolding ordered_names
ordered_once T = each_once _

-- a preference has the name at a place exactly where it has the number of the place
pub same_called : (T : Task) (k : ℕ) (name : Name) → slice_get (ordered_names T) k ≡ Some name → (o : Option Name) → is_called name o ≡ is_numbered k (number_of_name T o)
same_called T k name at None = refl
same_called T k name at (Some other) = by (position (same_name other) (ordered_names T)) refl
  where
    by : (o : Option ℕ) → position (same_name other) (ordered_names T) ≡ o → same_name other name ≡ is_numbered k o
    by None e = no_place (same_name other) (ordered_names T) e k name at
    by (Some j) e =
        let (x, found, passes) = at_place (same_name other) (ordered_names T) j e in
        let is : other ≡ x = (bytes_eq-Decides other x).0 passes in
        one_answer (same_name other name) (j == k) (bytes_eq-Decides other name)
        (Decides-like (j == k) (λ (h : j ≡ k). is ∙ Some-injective x name (sym found ∙ ap (slice_get (ordered_names T)) h ∙ at))
        (λ (h : other ≡ name). ordered_once T j k name (found ∙ ap Some (sym is ∙ h)) at) (Decides-eqb j k))
