-- Values that are given twice.
use Rattle.std.proofs.Common.{◌≡◌, ◌∙◌, ℕ, ◌+◌, ◌<◌, length, take, get_or, Bool, true, false, ◌||◌, ◌&&◌, not, if◌then◌else◌, List, [], ◌∷◌, ◌++◌, map, Option, refl, sym, ap, subst, true≢false}
use Rattle.std.specs.Prelude.{fold, bytes_eq}
use Rattle.std.specs.List.{list_any}
use Rattle.std.specs.Cmp.Lexicographic.{pointwise, nat_list_eq_equiv, lists_equiv}
use Rattle.std.proofs.lemmas.List.{take_more, append-nil, map-append}
use Rattle.std.proofs.lemmas.List.Folds.{list_any-append}
use Rattle.p3_task.proofs.MeaningLemmas.{list_any-map}
use Rattle.indexmap.specs.IndexSet.{insert_key}
use Rattle.p3_task.specs.Names.{Name, same_names}
use Rattle.p3_task.specs.States.{meanings}
use Rattle.p3_task.specs.Offences.{is_given_by, repeated_value, repeated_values, unless}
use Rattle.p3_task.specs.declared.effect.Numeral.{Numeral}
use Rattle.p3_task.specs.declared.term.Ref.{Ref}
use Rattle.p3_task.specs.declared.term.Term.{Term}
use Rattle.p3_task.specs.declared.task.Init.{Init}
use Rattle.p3_task.specs.declared.task.Init.TheVariants as init
use Rattle.p3_resolve.specs.Given.{AddsKey, AddsValue, Tells, value_in}
use Rattle.p3_resolve.specs.Spots.{step}
use Rattle.p3_resolve.specs.declared.spot.Spot.{Spot}
use Rattle.p3_resolve.proofs.WalkLemmas.{fold-append}
use Rattle.p3_numbers.proofs.ScopeLemmas.{append-assoc}

or-turn : (a b c : Bool) → ((a || b) || c) ≡ (b || (a || c))
or-turn true true c = refl
or-turn true false c = refl
or-turn false true c = refl
or-turn false false c = refl

or-false : (a : Bool) → (a || false) ≡ a
or-false true = refl
or-false false = refl

names-swap : (first second : List Name) → same_names first second ≡ same_names second first
names-swap = (lists_equiv nat_list_eq_equiv).symm

-- ---- the table

module _ {W : Type 0} (now : W → List ℕ) where
  pub pointwise-map : (xs ys : List W) → pointwise (λ x y. bytes_eq (now x) (now y)) xs ys ≡ same_names (map now xs) (map now ys)
  pointwise-map [] [] = refl
  pointwise-map [] (y ∷ ys) = refl
  pointwise-map (x ∷ xs) [] = refl
  pointwise-map (x ∷ xs) (y ∷ ys) = ap (λ rest. bytes_eq (now x) (now y) && rest) (pointwise-map xs ys)

module _ {A : Type 0} (words : A → List Name) where
  pub keys-seen : (keys : List A) (key : List Name) → list_any (λ other. same_names key (words other)) keys ≡ list_any (same_names key) (map words keys)
  keys-seen keys key = sym (list_any-map (same_names key) words keys)

-- a key more
pub adds-key : (old : List (List Name)) (key : List Name) → AddsKey old key (if list_any (same_names key) old then old else old ++ key ∷ [])
adds-key old key = λ other. by other (list_any (same_names key) old) refl
  where
    by : (other : List Name) (found : Bool) → list_any (same_names key) old ≡ found
        → list_any (same_names other) (if found then old else old ++ key ∷ []) ≡ (list_any (same_names other) old || same_names other key)
    by other true here = same (same_names other key) refl (list_any (same_names other) old) refl
      where
        same : (is_key : Bool) → same_names other key ≡ is_key → (there : Bool) → list_any (same_names other) old ≡ there → there ≡ (there || is_key)
        same true is true there = refl
        same true is false there = absurd (true≢false (sym here ∙ sym (λ i. list_any (λ one. (lists_equiv nat_list_eq_equiv).congr other key one is i) old) ∙ there))
        same false is true there = refl
        same false is false there = refl
    by other false here = list_any-append (same_names other) old (key ∷ []) ∙ (λ i. list_any (same_names other) old || or-false (same_names other key) i)

module _ {W V : Type 0} (now : W → List ℕ) (items : V → List W) where
  pub is-added : (keys : List V) (key : V) → list_any (λ other. pointwise (λ x y. bytes_eq (now x) (now y)) (items key) (items other)) keys
      ≡ list_any (same_names (map now (items key))) (map (λ other. map now (items other)) keys)
  is-added keys key = (λ i. list_any (λ other. pointwise-map now (items key) (items other) i) keys) ∙ keys-seen (λ other. map now (items other)) keys (map now (items key))

  pub adds-inserted : (keys new : List V) (key : V) → new ≡ insert_key (λ x y. pointwise (λ a b. bytes_eq (now a) (now b)) (items x) (items y)) keys key
      → AddsKey (map (λ other. map now (items other)) keys) (map now (items key)) (map (λ other. map now (items other)) new)
  adds-inserted keys new key is =
      subst (AddsKey old one) (sym (ap seen is ∙ by (list_any (λ other. pointwise (λ x y. bytes_eq (now x) (now y)) (items key) (items other)) keys) ∙ (λ i. if is-added keys key i then old else old ++ one ∷ [])))
      (adds-key old one)
    where
      seen : List V → List (List Name)
      seen = map (λ other. map now (items other))

      old : List (List Name)
      old = map (λ other. map now (items other)) keys

      one : List Name
      one = map now (items key)

      by : (found : Bool) → map (λ other. map now (items other)) (if found then keys else keys ++ key ∷ []) ≡ (if found then old else old ++ one ∷ [])
      by true = refl
      by false = map-append (λ other. map now (items other)) keys (key ∷ [])

-- ---- values that stand twice

values-push-value : (seen entries : List Init) (function : Ref) (args : List Term) (number : Numeral)
    → repeated_values seen (entries ++ init.Value function args number ∷ [])
    ≡ repeated_values seen entries ++ unless (not (list_any (is_given_by function.name (meanings [] args)) seen || list_any (is_given_by function.name (meanings [] args)) entries)) function
values-push-value seen [] function args number =
    append-nil _ ∙ (λ i. unless (not (sym (or-false (list_any (is_given_by function.name (meanings [] args)) seen)) i)) function)
values-push-value seen (entry ∷ entries) function args number =
    (λ i. repeated_value seen entry ++ (values-push-value (entry ∷ seen) entries function args number
    ∙ (λ j. repeated_values (entry ∷ seen) entries ++ unless (not (or-turn (is_given_by function.name (meanings [] args) entry)
    (list_any (is_given_by function.name (meanings [] args)) seen) (list_any (is_given_by function.name (meanings [] args)) entries) j)) function)) i)
    ∙ sym (append-assoc (repeated_value seen entry) (repeated_values (entry ∷ seen) entries) _)

values-push-true : (seen entries : List Init) (pred : Ref) (args : List Term) → repeated_values seen (entries ++ init.True pred args ∷ []) ≡ repeated_values seen entries
values-push-true seen [] pred args = refl
values-push-true seen (entry ∷ entries) pred args = ap (λ rest. repeated_value seen entry ++ rest) (values-push-true (entry ∷ seen) entries pred args)

values-push-false : (seen entries : List Init) (pred : Ref) (args : List Term) → repeated_values seen (entries ++ init.False pred args ∷ []) ≡ repeated_values seen entries
values-push-false seen [] pred args = refl
values-push-false seen (entry ∷ entries) pred args = ap (λ rest. repeated_value seen entry ++ rest) (values-push-false (entry ∷ seen) entries pred args)

value-push : (keys : List (List Name)) (entries : List Init) (x : Init) → Tells keys entries → repeated_values [] (entries ++ x ∷ []) ≡ repeated_values [] entries ++ value_in keys x
value-push keys entries (init.True pred args) tells = values-push-true [] entries pred args ∙ sym (append-nil _)
value-push keys entries (init.False pred args) tells = values-push-false [] entries pred args ∙ sym (append-nil _)
value-push keys entries (init.Value function args number) tells =
    values-push-value [] entries function args number ∙ ap (λ told. repeated_values [] entries ++ unless (not told) function) (sym (tells function.name (meanings [] args)))

module _ (xs : List Init) (i : ℕ) (x : Init) (within : i < length xs) (read : x ≡ get_or xs i x) where
  longer : take (i + 1) xs ≡ take i xs ++ x ∷ []
  longer = take_more xs i x within ∙ ap (λ item. take i xs ++ item ∷ []) (sym read)

  pub values-more : (found now next : Option Spot) (keys : List (List Name)) → Tells keys (take i xs)
      → now ≡ fold step found (repeated_values [] (take i xs)) → next ≡ fold step now (value_in keys x) → next ≡ fold step found (repeated_values [] (take (i + 1) xs))
  values-more found now next keys tells so_far is =
      is ∙ (λ j. fold step (so_far j) (value_in keys x)) ∙ sym (fold-append step found (repeated_values [] (take i xs)) (value_in keys x))
      ∙ ap (fold step found) (sym (value-push keys (take i xs) x tells) ∙ ap (repeated_values []) (sym longer))

  pub tells-more : (keys new : List (List Name)) → Tells keys (take i xs) → AddsValue keys x new → Tells new (take (i + 1) xs)
  tells-more keys new tells adds = λ function objects.
      adds function objects ∙ (λ j. tells function objects j || sym (or-false (is_given_by function objects x)) j)
      ∙ sym (list_any-append (is_given_by function objects) (take i xs) (x ∷ [])) ∙ ap (list_any (is_given_by function objects)) (sym longer)

-- an entry more
pub adds-value : (old new : List (List Name)) (key : List Name) (function : Ref) (args : List Term) (number : Numeral) → key ≡ function.name ∷ meanings [] args
    → AddsKey old key new → AddsValue old (init.Value function args number) new
adds-value old new key function args number is adds = λ name objects.
    adds (name ∷ objects) ∙ (λ i. list_any (same_names (name ∷ objects)) old || (ap (same_names (name ∷ objects)) is ∙ names-swap (name ∷ objects) (function.name ∷ meanings [] args)) i)
