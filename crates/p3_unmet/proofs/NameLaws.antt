-- The numbers of the names of preferences.
use Rattle.std.proofs.Common.{◌≡◌, ◌∙◌, ℕ, zero, suc, Bool, true, false, ◌||◌, List, [], ◌∷◌, ◌++◌, length, if◌then◌else◌, refl, sym, ap, subst, append_assoc, arith, Some}
use Rattle.std.specs.Prelude.{slice_get}
use Rattle.std.proofs.lemmas.List.{append-nil}
use Rattle.std.proofs.lemmas.Option.{slice_get_within}
use Rattle.std.proofs.lemmas.Slice.Eq.{bytes_eq-Decides}
use Rattle.p3_task.specs.Names.{Name, has_name, same_name}
use Rattle.p3_task.specs.PreferenceNames.{ordered_names}
use Rattle.p3_task.specs.declared.task.Task.{Task}
use Rattle.p3_task.proofs.OnceLemmas.{AreOnce, each_once}
use Rattle.p3_numbers.specs.Names.{with_names}
use Rattle.p3_numbers.specs.Tasks.{HasNames}
use Rattle.p3_numbers.specs.declared.numbers.Numbers.{Numbers}

-- ---- a table of names that stand once has them all, each at its place

at-left : {A : Type 0} (first rest : List A) (k : ℕ) (x : A) → slice_get first k ≡ Some x → slice_get (first ++ rest) k ≡ Some x
at-left [] rest k x at = absurd (cc)
at-left (y ∷ first) rest zero x at = at
at-left (y ∷ first) rest (suc k) x at = at-left first rest k x at

at-end : {A : Type 0} (first rest : List A) (x : A) → slice_get (first ++ x ∷ rest) (length first) ≡ Some x
at-end [] rest x = refl
at-end (y ∷ first) rest x = at-end first rest x

not-there : (first : List Name) (name : Name) → ((k : ℕ) → slice_get first k ≡ Some name → ⊥) → has_name first name ≡ false
not-there [] name apart = refl
not-there (other ∷ first) name apart = by (same_name other name) refl (not-there first name (λ k at. apart (suc k) at))
  where
    by : (t : Bool) → same_name other name ≡ t → has_name first name ≡ false → has_name (other ∷ first) name ≡ false
    by true same rest = absurd (apart 0 (ap Some ((bytes_eq-Decides other name).0 same)))
    by false differ rest = (λ i. differ i || has_name first name) ∙ rest

with-once : (first names : List Name) → AreOnce (first ++ names) → with_names first names ≡ first ++ names
with-once first [] once = sym (append-nil first)
with-once first (name ∷ names) once =
    let new : has_name first name ≡ false = not-there first name (λ k at.
    let same = once k (length first) name (at-left first (name ∷ names) k name at) (at-end first names name) in
    let within = slice_get_within first k name at in
    omega (arith, same, within)) in
    (λ i. with_names (if new i then first else first ++ name ∷ []) names)
    ∙ with-once (first ++ name ∷ []) names (subst (λ (list : List Name). AreOnce list) (sym (append_assoc first (name ∷ []) names)) once)
    ∙ append_assoc first (name ∷ []) names

ordered-once : (T : Task) → AreOnce (ordered_names T)
unfolding ordered_names
ordered-once T = each_once _

pub all-names : (T : Task) (N : Numbers) → HasNames T N → with_names [] N.preferences ≡ N.preferences
all-names T N has = with-once [] N.preferences (subst (λ (list : List Name). AreOnce list) (sym has.preferences) (ordered-once T))
