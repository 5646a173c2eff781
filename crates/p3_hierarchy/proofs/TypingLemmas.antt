-- The numbers of declarations, by the types that these name.
use Rattle.std.proofs.Common.{◌≡◌, ◌∙◌, ⊎_elim, ℕ, ◌+◌, ◌<◌, Bool, true, false, ◌||◌, if◌then◌else◌, cond, List, [], ◌∷◌, ◌++◌, length, take, get_or, Some, refl, sym, ap, subst, append_assoc, arith}
use Rattle.std.specs.Prelude.{All, Contains, bytes_eq, flat_map}
use Rattle.std.specs.List.{list_any}
use Rattle.std.proofs.lemmas.List.{append-nil, map-append, take_more}
use Rattle.std.proofs.lemmas.List.Concat.{flat_map-append}
use Rattle.std.proofs.lemmas.List.Elements.{All-nil, All-head, All-tail, All-push, All-append, All-weaker, All-contains, All-contains_itself, Contains-append_cases, Contains-append_left, Contains-append_right, Contains-push, Contains-push_cases}
use Rattle.std.proofs.lemmas.List.Folds.{Any-from_list_any}
use Rattle.std.proofs.lemmas.Slice.Eq.{bytes_eq-Decides}
use denote.Ref.{Bor}
use Rattle.p3_task.specs.Names.{Name, same_name, has_name, object_type}
use Rattle.p3_task.specs.Types.{is_below_some, names_of, type_names}
use Rattle.p3_task.specs.declared.term.Ref.{Ref}
use Rattle.p3_task.specs.declared.task.Task.{Task}
use Rattle.p3_hierarchy.specs.Objects.{fits}
use Rattle.p3_hierarchy.specs.Typings.{AreFitting, AreNumbered, FilesNumber, FilesNumbers, IsFitting, Lookup, numbers_in, number_where_fit, numbers_under, typed, typings_of}
use Rattle.p3_hierarchy.specs.declared.declarations.Declaration.{Declaration}
use Rattle.p3_numbers.proofs.NameLemmas.{or-false}
use Rattle.p3_numbers.proofs.ScopeLemmas.{same-name}
use Rattle.p3_hierarchy.proofs.SearchLemmas.{has-contains, contains-has, some-passes}

-- ---- lists made of lists

module _ {A B : Type 0} (f : A → List B) where
  pub nothing-in : {C : Type 0} (x : A) → Contains [] x → C
  nothing-in x (k, within, is) = absurd (omega (arith, within))

  -- a list has the parts that its items make
  pub flat-contains : (xs : List A) (x : A) (y : B) → Contains xs x → Contains (f x) y → Contains (flat_map f xs) y
  flat-contains [] x y here there = nothing-in x here
  flat-contains (z ∷ xs) x y here there = ⊎_elim
      (λ first. Contains-append_left (f z) (flat_map f xs) y (⊎_elim (λ none. nothing-in x none) (λ same. subst (λ one. Contains (f one) y) (sym same) there) (Contains-push_cases [] z x first)))
      (λ later. Contains-append_right (f z) (flat_map f xs) y (flat-contains xs x y later there))
      (Contains-append_cases (z ∷ []) xs x here)

  -- and no others
  pub flat-all : (P : B → Type 0) (xs : List A) → All (λ x. All P (f x)) xs → All P (flat_map f xs)
  flat-all P [] each = All-nil P
  flat-all P (x ∷ xs) each = All-append P (f x) (flat_map f xs) (All-head (λ one. All P (f one)) x xs each) (flat-all P xs (All-tail (λ one. All P (f one)) x xs each))

  pub flat-more : (xs : List A) (at : ℕ) (x : A) → at < length xs → x ≡ get_or xs at x → flat_map f (take (at + 1) xs) ≡ flat_map f (take at xs) ++ f x
  flat-more xs at x within read = ap (flat_map f) (take_more xs at x within ∙ ap (λ one. take at xs ++ one ∷ []) (sym read))
      ∙ flat_map-append f (take at xs) (x ∷ []) ∙ ap (λ rest. flat_map f (take at xs) ++ rest) (append-nil (f x))

-- ---- a table of numbers

-- a longer list stands where one stood, or none
pub files-number : (old new : Lookup) (kind : Bor (List ℕ)) (number : ℕ) (numbers : List ℕ)
    → ((one other : Bor (List ℕ)) → one.now ≡ other.now → old one ≡ old other) → numbers ≡ numbers_in (old kind) ++ number ∷ []
    → ((other : Bor (List ℕ)) → new other ≡ cond (bytes_eq kind.now other.now) (Some numbers) (old other)) → FilesNumber kind.now number old new
files-number old new kind number numbers by_name longer updates other = ap numbers_in (updates other) ∙ by (bytes_eq kind.now other.now) refl
  where
    by : (same : Bool) → bytes_eq kind.now other.now ≡ same → numbers_in (cond same (Some numbers) (old other)) ≡ numbers_in (old other) ++ ((if same then number ∷ [] else []) ++ [])
    by true is = longer ∙ ap (λ found. numbers_in found ++ number ∷ []) (by_name kind other ((bytes_eq-Decides kind.now other.now).0 is))
    by false is = sym (append-nil (numbers_in (old other)))

pub files-none : (old : Lookup) → FilesNumbers [] old old
files-none old = λ kind. sym (append-nil (numbers_in (old kind)))

under-append : (first second : List (Name × ℕ)) (kind : Name) → numbers_under (first ++ second) kind ≡ numbers_under first kind ++ numbers_under second kind
under-append first second kind = flat_map-append (λ (typing : Name × ℕ). if same_name typing.0 kind then typing.1 ∷ [] else []) first second

files-both : (first second : List (Name × ℕ)) (old between new : Lookup) → FilesNumbers first old between → FilesNumbers second between new → FilesNumbers (first ++ second) old new
files-both first second old between new before after = λ kind.
    after kind ∙ (λ i. before kind i ++ numbers_under second kind.now) ∙ append_assoc (numbers_in (old kind)) (numbers_under first kind.now) (numbers_under second kind.now)
    ∙ ap (λ more. numbers_in (old kind) ++ more) (sym (under-append first second kind.now))

-- one type more
pub files-type : (types : List Ref) (at : ℕ) (kind : Ref) (number : ℕ) (old between new : Lookup) → at < length types → kind ≡ get_or types at kind
    → FilesNumbers (typed number (names_of (take at types))) old between → FilesNumber kind.name number between new → FilesNumbers (typed number (names_of (take (at + 1) types))) old new
files-type types at kind number old between new within read before after =
    subst (λ kinds. FilesNumbers (typed number kinds) old new) (sym longer)
    (subst (λ typings. FilesNumbers typings old new) (sym (flat_map-append (λ (one : Name). (one, number) ∷ []) (names_of (take at types)) (kind.name ∷ [])))
    (files-both (typed number (names_of (take at types))) ((kind.name, number) ∷ []) old between new before after))
  where
    longer : names_of (take (at + 1) types) ≡ names_of (take at types) ++ kind.name ∷ []
    longer = ap names_of (take_more types at kind within ∙ ap (λ one. take at types ++ one ∷ []) (sym read)) ∙ map-append (λ (one : Ref). one.name) (take at types) (kind ∷ [])

pub files-top : (types : List Ref) (number : ℕ) (old new : Lookup) → length types ≡ 0 → FilesNumber object_type number old new → FilesNumbers (typed number (type_names types)) old new
files-top [] number old new empty files = files
files-top (first ∷ others) number old new empty files = absurd (omega (arith, empty))

pub files-listed : (types : List Ref) (number : ℕ) (old new : Lookup) → (length types ≡ 0 → ⊥) → FilesNumbers (typed number (names_of types)) old new → FilesNumbers (typed number (type_names types)) old new
files-listed [] number old new listed files = absurd (listed refl)
files-listed (first ∷ others) number old new listed files = files

-- one declaration more
pub numbered-more : (entries : List Declaration) (at : ℕ) (entry : Declaration) (old new : Lookup) → at < length entries → entry ≡ get_or entries at entry
    → AreNumbered (typings_of (take at entries)) old → FilesNumbers (typed entry.number (type_names entry.declared.now.types)) old new → AreNumbered (typings_of (take (at + 1) entries)) new
numbered-more entries at entry old new within read before after = λ kind.
    after kind ∙ (λ i. before kind i ++ numbers_under (typed entry.number (type_names entry.declared.now.types)) kind.now)
    ∙ sym (under-append (typings_of (take at entries)) (typed entry.number (type_names entry.declared.now.types)) kind.now)
    ∙ ap (λ typings. numbers_under typings kind.now) (sym (flat-more (λ (one : Declaration). typed one.number (type_names one.declared.now.types)) entries at entry within read))

-- ---- what stands with a type

module _ (kind : Name) where
  under-contains : (typings : List (Name × ℕ)) (number : ℕ) → Contains typings (kind, number) → Contains (numbers_under typings kind) number
  under-contains typings number here =
      flat-contains (λ (typing : Name × ℕ). if same_name typing.0 kind then typing.1 ∷ [] else []) typings (kind, number) number here
      (subst (λ found. Contains (if found then number ∷ [] else []) number) (sym (same-name kind)) (Contains-push [] number))

  under-listed : (typings : List (Name × ℕ)) → All (λ number. Contains typings (kind, number)) (numbers_under typings kind)
  under-listed typings =
      flat-all (λ (typing : Name × ℕ). if same_name typing.0 kind then typing.1 ∷ [] else []) (λ number. Contains typings (kind, number)) typings
      (All-weaker (Contains typings) (λ typing. All (λ number. Contains typings (kind, number)) (if same_name typing.0 kind then typing.1 ∷ [] else [])) (λ typing here. by typing here (same_name typing.0 kind) refl) typings (All-contains_itself typings))
    where
      by : (typing : Name × ℕ) → Contains typings typing → (same : Bool) → same_name typing.0 kind ≡ same → All (λ number. Contains typings (kind, number)) (if same then typing.1 ∷ [] else [])
      by typing here true is = All-push (λ number. Contains typings (kind, number)) [] typing.1 (All-nil _)
          (subst (λ name. Contains typings (name, typing.1)) ((bytes_eq-Decides typing.0 kind).0 is) here)
      by typing here false is = All-nil _

-- a declaration names the type
record Names (entries : List Declaration) (kind : Name) (number : ℕ) : Type 0 where
  entry : Declaration
  listed : Contains entries entry
  named : Contains (type_names entry.declared.now.types) kind
  is : entry.number ≡ number

typings-contain : (entries : List Declaration) (entry : Declaration) (kind : Name) → Contains entries entry → Contains (type_names entry.declared.now.types) kind → Contains (typings_of entries) (kind, entry.number)
typings-contain entries entry kind listed named =
    flat-contains (λ (one : Declaration). typed one.number (type_names one.declared.now.types)) entries entry (kind, entry.number) listed
    (flat-contains (λ (one : Name). (one, entry.number) ∷ []) (type_names entry.declared.now.types) kind (kind, entry.number) named (Contains-push [] (kind, entry.number)))

typings-listed : (entries : List Declaration) → All (λ (typing : Name × ℕ). Names entries typing.0 typing.1) (typings_of entries)
typings-listed entries = flat-all (λ (one : Declaration). typed one.number (type_names one.declared.now.types)) (λ (typing : Name × ℕ). Names entries typing.0 typing.1) entries
    (All-weaker (Contains entries) (λ entry. All (λ (typing : Name × ℕ). Names entries typing.0 typing.1) (typed entry.number (type_names entry.declared.now.types))) (λ entry listed. each entry listed) entries (All-contains_itself entries))
  where
    each : (entry : Declaration) → Contains entries entry → All (λ (typing : Name × ℕ). Names entries typing.0 typing.1) (typed entry.number (type_names entry.declared.now.types))
    each entry listed = flat-all (λ (one : Name). (one, entry.number) ∷ []) (λ (typing : Name × ℕ). Names entries typing.0 typing.1) (type_names entry.declared.now.types)
        (All-weaker (Contains (type_names entry.declared.now.types)) (λ kind. All (λ (typing : Name × ℕ). Names entries typing.0 typing.1) ((kind, entry.number) ∷ []))
        (λ kind named. All-push (λ (typing : Name × ℕ). Names entries typing.0 typing.1) [] (kind, entry.number) (All-nil _) (record { entry = entry; listed = listed; named = named; is = refl }))
        (type_names entry.declared.now.types) (All-contains_itself (type_names entry.declared.now.types)))

-- ---- the declarations that fit

module _ (T : Task) (types : List Ref) (entries : List Declaration) where
  -- those that name a type which was found
  pub fitting-found : (found : List Name) (numbers : List ℕ) → ((name : Name) → has_name found name ≡ is_below_some T types name)
      → numbers ≡ flat_map (numbers_under (typings_of entries)) found → AreFitting T types entries numbers
  fitting-found found numbers told is = record {
    sound = subst (All (IsFitting T types entries)) (sym is) (flat-all (numbers_under (typings_of entries)) (IsFitting T types entries) found
        (All-weaker (Contains found) (λ kind. All (IsFitting T types entries) (numbers_under (typings_of entries) kind)) (λ kind here.
        All-weaker (λ number. Contains (typings_of entries) (kind, number)) (IsFitting T types entries) (λ number stands. fitting kind number here stands) (numbers_under (typings_of entries) kind) (under-listed kind (typings_of entries)))
        found (All-contains_itself found)));
    all = All-weaker (Contains entries) (λ (entry : Declaration). fits T types entry.declared.now ≡ true → Contains numbers entry.number) (λ entry listed passes.
        let (k, kind, within, at, holds) = Any-from_list_any (is_below_some T types) (type_names entry.declared.now.types) passes in
        subst (λ all. Contains all entry.number) (sym is) (flat-contains (numbers_under (typings_of entries)) found kind entry.number
        (contains-has found kind (told kind ∙ holds)) (under-contains kind (typings_of entries) entry.number (typings-contain entries entry kind listed (k, within, at)))))
        entries (All-contains_itself entries);
  }
    where
      fitting : (kind : Name) (number : ℕ) → Contains found kind → Contains (typings_of entries) (kind, number) → IsFitting T types entries number
      fitting kind number here stands =
          let names = All-contains (λ (typing : Name × ℕ). Names entries typing.0 typing.1) (typings_of entries) (kind, number) (typings-listed entries) stands in
          record {
            entry = names.entry;
            listed = names.listed;
            is = names.is;
            fits = some-passes (is_below_some T types) (type_names names.entry.declared.now.types) kind names.named (sym (told kind) ∙ has-contains found kind here);
          }

  -- those that were asked
  pub fitting-passing : (numbers : List ℕ) → numbers ≡ flat_map (number_where_fit T types) entries → AreFitting T types entries numbers
  fitting-passing numbers is = record {
    sound = subst (All (IsFitting T types entries)) (sym is) (flat-all (number_where_fit T types) (IsFitting T types entries) entries
        (All-weaker (Contains entries) (λ entry. All (IsFitting T types entries) (number_where_fit T types entry)) (λ entry listed. by entry listed (fits T types entry.declared.now) refl) entries (All-contains_itself entries)));
    all = All-weaker (Contains entries) (λ (entry : Declaration). fits T types entry.declared.now ≡ true → Contains numbers entry.number) (λ entry listed passes.
        subst (λ all. Contains all entry.number) (sym is) (flat-contains (number_where_fit T types) entries entry entry.number listed
        (subst (λ passing. Contains (if passing then entry.number ∷ [] else []) entry.number) (sym passes) (Contains-push [] entry.number))))
        entries (All-contains_itself entries);
  }
    where
      by : (entry : Declaration) → Contains entries entry → (passes : Bool) → fits T types entry.declared.now ≡ passes → All (IsFitting T types entries) (if passes then entry.number ∷ [] else [])
      by entry listed true is = All-push (IsFitting T types entries) [] entry.number (All-nil _) (record { entry = entry; listed = listed; is = refl; fits = is })
      by entry listed false is = All-nil _

pub found-apart : (told found spanned all : Bool) → all ≡ false → spanned ≡ false → (all || (found || spanned)) ≡ told → found ≡ told
found-apart told found spanned all none apart is = sym (or-false found) ∙ (λ i. sym none i || (found || sym apart i)) ∙ is

pub none-spanned : {A : Type 0} (test : A → Bool) (xs : List A) → length xs ≡ 0 → list_any test xs ≡ false
none-spanned test [] none = refl
none-spanned test (x ∷ xs) none = absurd (omega (arith, none))

pub ruleset type_laws = (files-top, files-listed)
