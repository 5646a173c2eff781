-- The innermost variable of a name, by its slot.
use Rattle.std.proofs.Common.{◌≡◌, ◌∙◌, ℕ, ◌+◌, ◌<◌, length, Bool, true, false, cond, if◌then◌else◌, List, [], ◌∷◌, ◌++◌, Option, Some, None, refl, sym, ap, subst, arith, true≢false}
use Rattle.std.specs.Prelude.{find, reverse, slice_get, option_map, is_some}
use Rattle.std.proofs.lemmas.List.{reverse-reverse, reverse-append, map-append, length-map, length_push, get_or_append_left, get_or_push}
use Rattle.std.proofs.lemmas.Option.{slice_get-get_or}
use Rattle.p3_task.specs.Names.{Name, same_name}
use Rattle.p3_task.specs.Types.{type_names}
use Rattle.p3_task.specs.Uses.{scope_of}
use Rattle.p3_task.specs.declared.term.Typed.{Typed}
use Rattle.p3_task.proofs.OnceLemmas.{Some-injective}
use Rattle.p3_task.specs.Slots.{place_after, slot_of, words_of}
use Rattle.p3_numbers.specs.Scopes.{scope_seen}
use Rattle.p3_numbers.proofs.ScopeLemmas.{slot_of-push}

abbrev pub entry_of : Typed → Name × List Name
entry_of variable = (variable.name.name, type_names variable.types)

abbrev pub at_slot : List Typed → Option ℕ → Option Typed
at_slot variables None = None
at_slot variables (Some slot) = slice_get variables slot

place-within : (names : List Name) (name : Name) (passed : ℕ) (found : Option ℕ) (slot : ℕ)
    → place_after names name passed found ≡ Some slot → ((before : ℕ) → found ≡ Some before → before < passed) → slot < length names + passed
place-within [] name passed found slot is within = subst (λ bound. slot < bound) none_passed (within slot is)
  where
    none_passed : passed ≡ length {A = Name} [] + passed
    none_passed = omega arith
place-within (other ∷ others) name passed found slot is within =
    subst (λ bound. slot < bound) shift (place-within others name (passed + 1) (if same_name other name then Some passed else found) slot is (by (same_name other name)))
  where
    shift : length others + (passed + 1) ≡ length (other ∷ others) + passed
    shift = omega arith

    by : (same : Bool) (before : ℕ) → (if same then Some passed else found) ≡ Some before → before < passed + 1
    by true before here = omega (arith, Some-injective passed before here)
    by false before here = omega (arith, within before here)

pub slot-within : (variables : List Typed) (name : Name) (slot : ℕ) → slot_of (words_of variables) name ≡ Some slot → slot < length variables
slot-within variables name slot is =
    subst (λ bound. slot < bound) counts (place-within (words_of variables) name 0 None slot is (λ before here. absurd (none-some before here)))
  where
    counts : length (words_of variables) + 0 ≡ length variables
    counts = omega (arith, length-map variables (λ (variable : Typed). variable.name.name))

    none-some : (before : ℕ) → None ≡ Some before → ⊥
    none-some before here = absurd (true≢false (sym (ap (λ found. is_some found) here)))

get-longer : (xs : List Typed) (last : Typed) (slot : ℕ) → slot < length xs → slice_get (xs ++ last ∷ []) slot ≡ slice_get xs slot
get-longer xs last slot within =
    slice_get-get_or (xs ++ last ∷ []) slot last (omega (arith, within, length_push xs last)) ∙ ap Some (get_or_append_left xs (last ∷ []) last slot within) ∙ sym (slice_get-get_or xs slot last within)

get-last : (xs : List Typed) (last : Typed) (slot : ℕ) → length xs ≡ slot → slice_get (xs ++ last ∷ []) slot ≡ Some last
get-last xs last slot is = slice_get-get_or (xs ++ last ∷ []) slot last (omega (arith, is, length_push xs last)) ∙ ap Some (get_or_push xs last last slot is)

at-longer : (xs : List Typed) (last : Typed) (found : Option ℕ) → ((slot : ℕ) → found ≡ Some slot → slot < length xs) → at_slot (xs ++ last ∷ []) found ≡ at_slot xs found
at-longer xs last None within = refl
at-longer xs last (Some slot) within = get-longer xs last slot (within slot refl)

find-inner : (inner : List Typed) (name : Name)
    → find (λ (entry : Name × List Name). same_name entry.0 name) (scope_of inner) ≡ option_map entry_of (at_slot (reverse inner) (slot_of (words_of (reverse inner)) name))
find-inner [] name = refl
find-inner (variable ∷ inner) name =
    by (same_name variable.name.name name) (find-inner inner name)
    ∙ sym (λ i. option_map entry_of (at_slot (turned i) ((ap (λ names. slot_of names name) words ∙ slot_of-push (words_of outer) variable.name.name name) i)))
  where
    outer : List Typed
    outer = reverse inner

    turned : reverse (variable ∷ inner) ≡ outer ++ variable ∷ []
    turned = reverse-append (variable ∷ []) inner

    words : words_of (reverse (variable ∷ inner)) ≡ words_of outer ++ variable.name.name ∷ []
    words = ap words_of turned ∙ map-append (λ (variable : Typed). variable.name.name) outer (variable ∷ [])

    by : (same : Bool) → find (λ (entry : Name × List Name). same_name entry.0 name) (scope_of inner) ≡ option_map entry_of (at_slot outer (slot_of (words_of outer) name))
        → cond same (Some (entry_of variable)) (find (λ (entry : Name × List Name). same_name entry.0 name) (scope_of inner))
        ≡ option_map entry_of (at_slot (outer ++ variable ∷ []) (if same then Some (length (words_of outer)) else slot_of (words_of outer) name))
    by true rest = ap (option_map entry_of) (sym (get-last outer variable (length (words_of outer)) (sym (length-map outer (λ (variable : Typed). variable.name.name)))))
    by false rest = rest ∙ ap (option_map entry_of) (sym (at-longer outer variable (slot_of (words_of outer) name) (slot-within outer name)))

pub variable-found : (variables : List Typed) (name : Name)
    → find (λ (entry : Name × List Name). same_name entry.0 name) (scope_seen variables) ≡ option_map entry_of (at_slot variables (slot_of (words_of variables) name))
variable-found variables name = find-inner (reverse variables) name ∙ (λ i. option_map entry_of (at_slot (reverse-reverse variables i) (slot_of (words_of (reverse-reverse variables i)) name)))
