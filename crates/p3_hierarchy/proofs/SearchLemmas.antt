-- The search for all types below others.
use Rattle.std.proofs.Common.{◌≡◌, ◌∙◌, inl, ⊎_elim, Bool, true, false, ◌&&◌, if◌then◌else◌, List, [], ◌∷◌, ◌++◌, length, refl, sym, ap, subst, append_assoc, arith}
use Rattle.std.specs.Prelude.{All, Contains}
use Rattle.std.specs.List.{list_any, list_all}
use Rattle.std.specs.Cmp.Lexicographic.{nat_list_eq_equiv}
use Rattle.std.proofs.lemmas.List.{append-nil}
use Rattle.std.proofs.lemmas.List.Elements.{All-nil, All-head, All-tail, All-push, All-append, All-weaker, Contains-append_cases, Contains-append_left, Contains-append_right, Contains-push, Contains-push_cases}
use Rattle.std.proofs.lemmas.List.Folds.{list_all-map, list_any_at}
use Rattle.std.proofs.lemmas.Map.Views.{list_any-from_Contains, Contains-from_any}
use Rattle.std.proofs.lemmas.Slice.Eq.{bytes_eq-Decides}
use Rattle.p3_task.specs.Names.{Name, same_name, has_name, object_type}
use Rattle.p3_task.specs.declared.term.Ref.{Ref}
use Rattle.p3_task.specs.Types.{below, type_names, is_below_some}
use Rattle.p3_task.specs.declared.task.Task.{Task}
use Rattle.p3_task.proofs.MeaningLemmas.{list_any-map}
use Rattle.p3_task.proofs.BelowLemmas.{below_is_the_closure}
use Rattle.p3_numbers.specs.Names.{with_name, with_names}
use Rattle.p3_hierarchy.specs.Kinds.{lows_under}
use Rattle.p3_numbers.proofs.NameLemmas.{same-swap, or-false}
use Rattle.p3_numbers.proofs.ScopeLemmas.{same-name}

-- ---- names in lists

pub has-contains : (names : List Name) (name : Name) → Contains names name → has_name names name ≡ true
has-contains names name here = (λ i. list_any (sym (same-swap name) i) names) ∙ list_any-from_Contains nat_list_eq_equiv name names here

pub contains-has : (names : List Name) (name : Name) → has_name names name ≡ true → Contains names name
contains-has names name has = Contains-from_any (λ one other. (bytes_eq-Decides one other).0) name names ((λ i. list_any (same-swap name i) names) ∙ has)

-- ---- names more

-- the new list begins with the old one
pub record Continues (old new : List Name) : Type 0 where
  pub more : List Name
  pub is : new ≡ old ++ more

pub continues-one : (old : List Name) (name : Name) → Continues old (with_name old name)
continues-one old name = by (has_name old name)
  where
    by : (has : Bool) → Continues old (if has then old else old ++ name ∷ [])
    by true = record { more = []; is = sym (append-nil old) }
    by false = record { more = name ∷ []; is = refl }

pub continues-all : (old names : List Name) → Continues old (with_names old names)
continues-all old [] = record { more = []; is = sym (append-nil old) }
continues-all old (name ∷ names) =
    let one = continues-one old name in
    let rest = continues-all (with_name old name) names in
    record { more = one.more ++ rest.more; is = rest.is ∙ ap (λ front. front ++ rest.more) one.is ∙ append_assoc old one.more rest.more }

pub kept : (old new : List Name) (name : Name) → Continues old new → Contains old name → Contains new name
kept old new name continues here = subst (λ names. Contains names name) (sym continues.is) (Contains-append_left old continues.more name here)

has-new : (old : List Name) (name : Name) → Contains (with_name old name) name
has-new old name = by (has_name old name) refl
  where
    by : (has : Bool) → has_name old name ≡ has → Contains (if has then old else old ++ name ∷ []) name
    by true is = contains-has old name is
    by false is = Contains-push old name

pub all-new : (old names : List Name) → All (Contains (with_names old names)) names
all-new old [] = All-nil _
all-new old (name ∷ names) = All-append (Contains (with_names (with_name old name) names)) (name ∷ []) names
    (All-push (Contains (with_names (with_name old name) names)) [] name (All-nil _) (kept (with_name old name) _ name (continues-all (with_name old name) names) (has-new old name)))
    (all-new (with_name old name) names)

pub all-with : (P : Name → Type 0) (old names : List Name) → All P old → All P names → All P (with_names old names)
all-with P old [] before more = before
all-with P old (name ∷ names) before more = all-with P (with_name old name) names (by (has_name old name)) (All-tail P name names more)
  where
    by : (has : Bool) → All P (if has then old else old ++ name ∷ [])
    by true = before
    by false = All-push P old name before (All-head P name names more)

-- ---- types declared directly below another

module _ (high : Name) where
  pub low-filed : (pairs : List (Name × Name)) (low : Name) → Contains pairs (low, high) → Contains (lows_under pairs high) low
  low-filed [] low (k, within, is) = absurd (omega (arith, within))
  low-filed (pair ∷ pairs) low here = ⊎_elim
      (λ first. ⊎_elim (λ (k, within, is). absurd (omega (arith, within)))
      (λ same. Contains-append_left (if same_name pair.1 high then pair.0 ∷ [] else []) (lows_under pairs high) low
      (subst (λ one. Contains (if same_name one.1 high then one.0 ∷ [] else []) low) (sym same)
      (subst (λ found. Contains (if found then low ∷ [] else []) low) (sym (same-name high)) (Contains-push [] low))))
      (Contains-push_cases [] pair (low, high) first))
      (λ later. Contains-append_right (if same_name pair.1 high then pair.0 ∷ [] else []) (lows_under pairs high) low (low-filed pairs low later))
      (Contains-append_cases (pair ∷ []) pairs (low, high) here)

  pub filed-lows : (pairs : List (Name × Name)) → All (λ low. Contains pairs (low, high)) (lows_under pairs high)
  filed-lows [] = All-nil _
  filed-lows (pair ∷ pairs) = All-append (λ low. Contains (pair ∷ pairs) (low, high)) (if same_name pair.1 high then pair.0 ∷ [] else []) (lows_under pairs high)
      (by (same_name pair.1 high) refl)
      (All-weaker (λ low. Contains pairs (low, high)) (λ low. Contains (pair ∷ pairs) (low, high)) (λ low here. Contains-append_right (pair ∷ []) pairs (low, high) here) (lows_under pairs high) (filed-lows pairs))
    where
      by : (same : Bool) → same_name pair.1 high ≡ same → All (λ low. Contains (pair ∷ pairs) (low, high)) (if same then pair.0 ∷ [] else [])
      by true is = All-push (λ low. Contains (pair ∷ pairs) (low, high)) [] pair.0 (All-nil _)
          (subst (λ name. Contains (pair ∷ pairs) (pair.0, name)) ((bytes_eq-Decides pair.1 high).0 is) (Contains-append_left (pair ∷ []) pairs pair (Contains-push [] pair)))
      by false is = All-nil _

pub same : (a b : Bool) → (a ≡ true → b ≡ true) → (b ≡ true → a ≡ true) → a ≡ b
same true b there back = sym (there refl)
same false true there back = back refl
same false false there back = refl

pub some-passes : {A : Type 0} (test : A → Bool) (xs : List A) (x : A) → Contains xs x → test x ≡ true → list_any test xs ≡ true
some-passes test xs x (k, within, is) passes = list_any_at test xs k x within (ap test is ∙ passes)

-- every type is below `object`
pub below-top : (T : Task) (types : List Ref) (low : Name) → has_name (type_names types) object_type ≡ true → is_below_some T types low ≡ true
below-top T types low has =
    some-passes (λ high. below T low high) (type_names types) object_type (contains-has (type_names types) object_type has) ((below_is_the_closure T low object_type).1 (inl refl))

-- ---- lists of types, of which the empty one stands for `object`

module _ (test : Name → Bool) where
  pub some-top : (types : List Ref) → length types ≡ 0 → test object_type ≡ list_any test (type_names types)
  some-top [] empty = sym (or-false (test object_type))
  some-top (first ∷ others) empty = absurd (omega (arith, empty))

  pub each-top : (types : List Ref) → length types ≡ 0 → test object_type ≡ list_all test (type_names types)
  each-top [] empty = by (test object_type)
    where
      by : (passes : Bool) → passes ≡ (passes && true)
      by true = refl
      by false = refl
  each-top (first ∷ others) empty = absurd (omega (arith, empty))

  pub some-named : (types : List Ref) → (length types ≡ 0 → ⊥) → list_any (λ kind. test kind.name) types ≡ list_any test (type_names types)
  some-named [] listed = absurd (listed refl)
  some-named (first ∷ others) listed = sym (list_any-map test (λ (kind : Ref). kind.name) (first ∷ others))

  pub each-named : (types : List Ref) → (length types ≡ 0 → ⊥) → list_all (λ kind. test kind.name) types ≡ list_all test (type_names types)
  each-named [] listed = absurd (listed refl)
  each-named (first ∷ others) listed = sym (list_all-map test (λ (kind : Ref). kind.name) (first ∷ others))

pub top-none : (types : List Ref) → length types ≡ 0 → true ≡ has_name (type_names types) object_type
top-none types empty = sym (same-name object_type) ∙ some-top (λ name. same_name name object_type) types empty

pub top-some : (types : List Ref) → (length types ≡ 0 → ⊥) → list_any (λ kind. same_name kind.name object_type) types ≡ has_name (type_names types) object_type
top-some types listed = some-named (λ name. same_name name object_type) types listed

pub ruleset top_laws = (top-none, top-some)
