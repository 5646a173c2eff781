-- The names of the declarations that fit, found by their types.
use Rattle.std.proofs.Common.{◌≡◌, ◌∙◌, ◌⊎◌, inl, inr, ⊎_elim, ℕ, zero, suc, ◌+◌, ◌<◌, take, Bool, true, false, if◌then◌else◌, List, [], ◌∷◌, ◌++◌, map, length, get_or, Some, refl, sym, ap, subst, arith}
use Rattle.std.specs.Prelude.{All, Contains, flat_map, slice_get}
use Rattle.std.proofs.lemmas.List.{get_or-map, map-append, take_more}
use Rattle.std.proofs.lemmas.List.Concat.{flat_map_single}
use Rattle.std.proofs.lemmas.List.Elements.{All-nil, All-push, All-weaker, All-contains, All-contains_itself, Contains-push}
use Rattle.std.proofs.lemmas.Option.{slice_get-get_or}
use denote.Ref.{Bor}
use Rattle.p3_task.specs.Names.{Name, has_name}
use Rattle.p3_task.specs.declared.term.Ref.{Ref}
use Rattle.p3_task.specs.declared.term.Typed.{Typed}
use Rattle.p3_task.specs.declared.task.Task.{Task}
use Rattle.p3_task.proofs.OnceLemmas.{Some-injective}
use Rattle.p3_numbers.specs.Names.{Adds}
use Rattle.p3_hierarchy.specs.Objects.{fits, name_of}
use Rattle.p3_hierarchy.specs.Typings.{AreFitting, IsFitting}
use Rattle.p3_hierarchy.specs.declared.declarations.Declaration.{Declaration}
use Rattle.p3_hierarchy.proofs.SearchLemmas.{has-contains, contains-has, same}
use Rattle.p3_hierarchy.proofs.TypingLemmas.{flat-all, flat-contains}
use Rattle.p3_resolve.specs.Fitting.{AreInPlace, AreNamesFitting, fitting_names, name_in, name_where_fit}

module _ (T : Task) (types : List Ref) (entries : List Declaration) (placed : AreInPlace entries) (numbers : List ℕ) (fitting : AreFitting T types entries numbers) where
  abbrev declared_in : List Typed
  declared_in = map (λ (entry : Declaration). entry.declared.now) entries

  -- the place of a declaration among them
  entry-at : (entry : Declaration) → Contains entries entry → (entry.number < length entries) × (name_in entries entry.number ≡ name_of entry.declared.now)
  entry-at entry (k, within, is) = (
    omega (arith, within, here),
    ap (λ place. name_in entries place) here ∙ get_or-map (λ (one : Declaration). name_of one.declared.now) entries k entry [] within ∙ ap (λ (one : Declaration). name_of one.declared.now) is,
  )
    where
      here : entry.number ≡ k
      here = placed.each k entry (slice_get-get_or entries k entry within ∙ ap Some is)

  pub within-entries : All (λ number. number < length entries) numbers
  within-entries = All-weaker (IsFitting T types entries) (λ number. number < length entries) (λ number one. subst (λ place. place < length entries) one.is (entry-at one.entry one.listed).0) numbers fitting.sound

  listed-in : (entry : Declaration) → Contains entries entry → Contains declared_in entry.declared.now
  listed-in entry listed = subst (λ all. Contains all entry.declared.now) (flat_map_single (λ (one : Declaration). one.declared.now) entries)
      (flat-contains (λ (one : Declaration). one.declared.now ∷ []) entries entry entry.declared.now listed (Contains-push [] entry.declared.now))

  -- the names of the numbers
  abbrev named : List Name
  named = flat_map (λ number. name_in entries number ∷ []) numbers

  name-fits : All (Contains (fitting_names T types declared_in)) named
  name-fits = flat-all (λ number. name_in entries number ∷ []) (Contains (fitting_names T types declared_in)) numbers
      (All-weaker (IsFitting T types entries) (λ number. All (Contains (fitting_names T types declared_in)) (name_in entries number ∷ []))
      (λ number one. All-push (Contains (fitting_names T types declared_in)) [] (name_in entries number) (All-nil _) (found number one)) numbers fitting.sound)
    where
      found : (number : ℕ) → IsFitting T types entries number → Contains (fitting_names T types declared_in) (name_in entries number)
      found number one = subst (Contains (fitting_names T types declared_in)) (sym (entry-at one.entry one.listed).1 ∙ ap (name_in entries) one.is)
          (flat-contains (name_where_fit T types) declared_in one.entry.declared.now (name_of one.entry.declared.now) (listed-in one.entry one.listed)
          (subst (λ passes. Contains (if passes then name_of one.entry.declared.now ∷ [] else []) (name_of one.entry.declared.now)) (sym one.fits) (Contains-push [] (name_of one.entry.declared.now))))

  fitting-named : All (Contains named) (fitting_names T types declared_in)
  fitting-named = flat-all (name_where_fit T types) (Contains named) declared_in
      (subst (All (λ item. All (Contains named) (name_where_fit T types item))) (flat_map_single (λ (one : Declaration). one.declared.now) entries)
      (flat-all (λ (one : Declaration). one.declared.now ∷ []) (λ item. All (Contains named) (name_where_fit T types item)) entries
      (All-weaker (Contains entries) (λ entry. All (λ item. All (Contains named) (name_where_fit T types item)) (entry.declared.now ∷ []))
      (λ entry listed. All-push (λ item. All (Contains named) (name_where_fit T types item)) [] entry.declared.now (All-nil _) (by entry listed (fits T types entry.declared.now) refl))
      entries (All-contains_itself entries))))
    where
      by : (entry : Declaration) → Contains entries entry → (passes : Bool) → fits T types entry.declared.now ≡ passes → All (Contains named) (if passes then name_of entry.declared.now ∷ [] else [])
      by entry listed true is = All-push (Contains named) [] (name_of entry.declared.now) (All-nil _)
          (flat-contains (λ number. name_in entries number ∷ []) numbers entry.number (name_of entry.declared.now)
          (All-contains (λ (one : Declaration). fits T types one.declared.now ≡ true → Contains numbers one.number) entries entry fitting.all listed is)
          (subst (λ name. Contains (name_in entries entry.number ∷ []) name) (entry-at entry listed).1 (Contains-push [] (name_in entries entry.number))))
      by entry listed false is = All-nil _

  pub names-fitting : (names : List Name) → Adds [] (flat_map (λ number. name_in entries number ∷ []) numbers) names → AreNamesFitting T types (map (λ (entry : Declaration). entry.declared.now) entries) names
  names-fitting names adds name = adds name ∙ same (has_name named name) (has_name (fitting_names T types declared_in) name)
      (λ has. has-contains (fitting_names T types declared_in) name (All-contains (Contains (fitting_names T types declared_in)) named name name-fits (contains-has named name has)))
      (λ has. has-contains named name (All-contains (Contains named) (fitting_names T types declared_in) name fitting-named (contains-has (fitting_names T types declared_in) name has)))

-- ---- each declaration in its place

push-cases : {A : Type 0} (xs : List A) (x : A) (k : ℕ) (y : A) → slice_get (xs ++ x ∷ []) k ≡ Some y → (slice_get xs k ≡ Some y) ⊎ ((k ≡ length xs) × (x ≡ y))
push-cases [] x zero y at = inr (refl, Some-injective x y at)
push-cases [] x (suc k) y at = absurd (cc)
push-cases (z ∷ xs) x zero y at = inl at
push-cases (z ∷ xs) x (suc k) y at = ⊎_elim (λ here. inl here) (λ (last, is). inr (ap suc last, is)) (push-cases xs x k y at)

pub in-place-none : (entries : List Declaration) → entries ≡ [] → AreInPlace entries
in-place-none entries none = subst AreInPlace (sym none) (record { each = λ place entry at. absurd (cc) })

pub in-place-more : (entries new : List Declaration) (entry : Declaration) → AreInPlace entries → entry.number ≡ length entries → new ≡ entries ++ entry ∷ [] → AreInPlace new
in-place-more entries new entry placed last is = subst AreInPlace (sym is) (record {
  each = λ place one at. ⊎_elim (λ here. placed.each place one here) (λ (end, same_one). ap (λ (other : Declaration). other.number) (sym same_one) ∙ last ∙ sym end) (push-cases entries entry place one at);
})

pub declared-more : (items : List (Bor Typed)) (at : ℕ) (item : Bor Typed) (entries new : List Declaration) (entry : Declaration) → at < length items → item ≡ get_or items at item
    → map (λ (one : Declaration). one.declared.now) entries ≡ map (λ (one : Bor Typed). one.now) (take at items) → entry.declared ≡ item → new ≡ entries ++ entry ∷ []
    → map (λ (one : Declaration). one.declared.now) new ≡ map (λ (one : Bor Typed). one.now) (take (at + 1) items)
declared-more items at item entries new entry within read before declares is =
    ap (map (λ (one : Declaration). one.declared.now)) is ∙ map-append (λ (one : Declaration). one.declared.now) entries (entry ∷ [])
    ∙ (λ i. before i ++ (declares i).now ∷ []) ∙ sym (map-append (λ (one : Bor Typed). one.now) (take at items) (item ∷ []))
    ∙ ap (map (λ (one : Bor Typed). one.now)) (sym (take_more items at item within ∙ ap (λ one. take at items ++ one ∷ []) (sym read)))
