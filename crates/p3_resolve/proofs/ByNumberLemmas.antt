-- The declarations of objects, by the numbers of the objects.
use Rattle.std.proofs.Common.{◌≡◌, ◌∙◌, ℕ, zero, suc, ◌+◌, ◌<◌, Bool, true, false, cond, List, [], ◌∷◌, ◌++◌, map, length, take, get_or, set, replicate, Some, refl, sym, ap, subst}
use Rattle.std.specs.Prelude.{slice_get, All}
use Rattle.std.proofs.lemmas.Bool.{true≢false}
use Rattle.std.proofs.lemmas.List.{append-nil, get_or-set_other, get_or-set_same, map-append, take_more}
use Rattle.std.proofs.lemmas.List.Elements.{All-get_or, filter-append}
use Rattle.std.proofs.lemmas.List.Folds.{list_any_at}
use Rattle.std.proofs.lemmas.List.Sums.{passes_at_first}
use Rattle.std.proofs.lemmas.Option.{get_or_from_slice_get, slice_get-get_or, slice_get_within}
use Rattle.std.proofs.lemmas.Slice.Eq.{bytes_eq-Decides}
use denote.Ref.{Bor}
use Rattle.p3_task.specs.Names.{Name, has_name, same_name}
use Rattle.p3_task.specs.declared.term.Typed.{Typed}
use Rattle.p3_task.proofs.OnceLemmas.{AreOnce}
use Rattle.p3_hierarchy.specs.Objects.{name_of}
use Rattle.p3_hierarchy.specs.declared.declarations.Declaration.{Declaration}
use Rattle.p3_numbers.proofs.PlaceLemmas.{found_name, found_within}
use Rattle.p3_numbers.specs.Places.{number_in}
use Rattle.p3_resolve.specs.ByNumber.{AreFiled, declared_as, is_repeated, items_at, repeated_in}

abbrev pub declared_in : List Declaration → List Typed
declared_in entries = map (λ (entry : Declaration). entry.declared.now) entries

-- ---- numbers of names

module _ (names : List Name) (number : ℕ) (name : Name) (at : slice_get names number ≡ Some name) where
  within-names : number < length names
  within-names = slice_get_within names number name at

  -- the first place is the only one
  pub number-placed : AreOnce names → number ≡ number_in names name
  number-placed once = once number (number_in names name) name at
      (slice_get-get_or names (number_in names name) [] (found_within names name has) ∙ ap Some (found_name names name has))
    where
      has : has_name names name ≡ true
      has = list_any_at (λ other. same_name other name) names number [] within-names
          ((λ i. same_name (get_or_from_slice_get names number name [] at i) name) ∙ (bytes_eq-Decides name name).1 refl)

  other-apart : (other : Name) → same_name name other ≡ false → number_in names other ≡ number → ⊥
  other-apart other apart same = true≢false (sym passes ∙ ap (λ one. same_name one other) here ∙ apart)
    where
      passes : same_name (get_or names (number_in names other) []) other ≡ true
      passes = passes_at_first (λ one. same_name one other) names [] (subst (λ k. k < length names) (sym same) within-names)

      here : get_or names (number_in names other) [] ≡ name
      here = ap (λ k. get_or names k []) same ∙ get_or_from_slice_get names number name [] at

-- ---- a declaration more

none-at : {A : Type 0} (count number : ℕ) → ◌≡◌ {A = List A} (get_or (replicate count []) number []) []
none-at zero number = refl
none-at (suc count) zero = refl
none-at (suc count) (suc number) = none-at count number

pub filed-none : (names : List Name) (count : ℕ) (table : List (List (Bor Typed))) → table ≡ replicate count [] → AreFiled names [] table
filed-none names count table is name = ap (λ all. items_at all (number_in names name)) is ∙ ap (map (λ (item : Bor Typed). item.now)) (none-at count (number_in names name))

pub filed-more : (names : List Name) (items : List Typed) (item : Bor Typed) (number : ℕ) (old new : List (List (Bor Typed))) → AreOnce names → slice_get names number ≡ Some (name_of item.now)
    → number < length old → new ≡ set old number (get_or old number [] ++ item ∷ []) → AreFiled names items old → AreFiled names (items ++ item.now ∷ []) new
filed-more names items item number old new once at within is filed name =
    ap (λ all. items_at all (number_in names name)) is ∙ by (same_name (name_of item.now) name) refl
    ∙ sym (filter-append (λ one. same_name (name_of one) name) items (item.now ∷ []))
  where
    now_of : List (Bor Typed) → List Typed
    now_of found = map (λ (one : Bor Typed). one.now) found

    by : (same : Bool) → same_name (name_of item.now) name ≡ same
        → items_at (set old number (get_or old number [] ++ item ∷ [])) (number_in names name) ≡ declared_as name items ++ cond same (item.now ∷ []) []
    by true is =
        let here : number ≡ number_in names name = subst (λ one. number ≡ number_in names one) ((bytes_eq-Decides (name_of item.now) name).0 is) (number-placed names number (name_of item.now) at once) in
        (λ i. now_of (get_or (set old number (get_or old number [] ++ item ∷ [])) (sym here i) []))
        ∙ ap now_of (get_or-set_same old number (get_or old number [] ++ item ∷ []) [] within) ∙ map-append (λ (one : Bor Typed). one.now) (get_or old number []) (item ∷ [])
        ∙ (λ i. items_at old (here i) ++ item.now ∷ []) ∙ ap (λ front. front ++ item.now ∷ []) (filed name)
    by false is =
        ap now_of (get_or-set_other old number (number_in names name) (get_or old number [] ++ item ∷ []) [] (other-apart names number (name_of item.now) at name is))
        ∙ filed name ∙ sym (append-nil (declared_as name items))

-- ---- a declaration further

module _ (entries : List Declaration) (at : ℕ) (entry : Declaration) (within : at < length entries) (read : entry ≡ get_or entries at entry) where
  longer : take (at + 1) entries ≡ take at entries ++ entry ∷ []
  longer = take_more entries at entry within ∙ ap (λ one. take at entries ++ one ∷ []) (sym read)

  declared-longer : declared_in (take (at + 1) entries) ≡ declared_in (take at entries) ++ entry.declared.now ∷ []
  declared-longer = ap declared_in longer ∙ map-append (λ (one : Declaration). one.declared.now) (take at entries) (entry ∷ [])

  pub entry-placed : (names : List Name) → All (λ (one : Declaration). slice_get names one.number ≡ Some (name_of one.declared.now)) entries → slice_get names entry.number ≡ Some (name_of entry.declared.now)
  entry-placed names placed = subst (λ (one : Declaration). slice_get names one.number ≡ Some (name_of one.declared.now)) (sym read)
      (All-get_or (λ (one : Declaration). slice_get names one.number ≡ Some (name_of one.declared.now)) entries at entry within placed)

  pub filed-next : (names : List Name) (old new : List (List (Bor Typed))) → AreOnce names → slice_get names entry.number ≡ Some (name_of entry.declared.now)
      → entry.number < length old → new ≡ set old entry.number (get_or old entry.number [] ++ entry.declared ∷ [])
      → AreFiled names (declared_in (take at entries)) old → AreFiled names (declared_in (take (at + 1) entries)) new
  filed-next names old new once placed inside is filed =
      subst (λ items. AreFiled names items new) (sym declared-longer) (filed-more names (declared_in (take at entries)) entry.declared entry.number old new once placed inside is filed)

  pub repeated-next : (all old new : List Typed) → old ≡ repeated_in all (declared_in (take at entries)) → new ≡ old ++ repeated_in all (entry.declared.now ∷ []) → new ≡ repeated_in all (declared_in (take (at + 1) entries))
  repeated-next all old new before is =
      is ∙ ap (λ front. front ++ repeated_in all (entry.declared.now ∷ [])) before
      ∙ sym (filter-append (λ item. is_repeated all (name_of item)) (declared_in (take at entries)) (entry.declared.now ∷ [])) ∙ ap (repeated_in all) (sym declared-longer)
