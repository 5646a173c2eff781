-- A variable more or less in scope.
use Rattle.std.proofs.Common.{◌≡◌, ◌∙◌, ℕ, ◌+◌, ◌-◌, ◌<◌, ◌≤◌, get_or, take, length-append, Bool, true, false, ◌||◌, if◌then◌else◌, cond, List, [], ◌∷◌, ◌++◌, map, length, Option, Some, None, refl, sym, ap, subst, arith}
use Rattle.std.specs.Prelude.{bytes_eq}
use Rattle.std.proofs.lemmas.Slice.Eq.{bytes_eq-Decides}
use Rattle.std.proofs.lemmas.Map.Text.{is_eq-slice_cmp}
use Rattle.std.specs.Cmp.Lexicographic.{slice_cmp}
use Rattle.std.specs.Ordering.{is_eq, nat_cmp}
use Rattle.p3_task.specs.Names.{Name, same_name}
use denote.Ref.{Bor}
use Rattle.std.proofs.lemmas.List.{map-append, length-map}
use Rattle.p3_task.specs.declared.term.Typed.{Typed}
use Rattle.p3_task.specs.Types.{type_names}
use Rattle.p3_task.specs.Uses.{scope_of}
use Rattle.std.specs.Prelude.{reverse, is_some, drop}
use Rattle.std.specs.List.{list_any}
use Rattle.std.proofs.lemmas.List.{reverse-append, reverse-reverse, get_or-reverse, take_more, length-reverse, take_all, take-append-drop, take_at, length-drop, drop-map}
use Rattle.p3_task.specs.Slots.{place_after, slot_of, words_of}
use Rattle.p3_numbers.specs.Scopes.{scope_seen, hidden_after, hidden_by, Indexed}

place_after-push : (names : List Name) (last name : Name) (passed : ℕ) (found : Option ℕ)
    → place_after (names ++ last ∷ []) name passed found ≡ (if same_name last name then Some (length names + passed) else place_after names name passed found)
place_after-push [] last name passed found = λ i. if same_name last name then Some (none_passed i) else found
  where
    none_passed : passed ≡ length {A = Name} [] + passed
    none_passed = omega arith
place_after-push (other ∷ others) last name passed found =
    place_after-push others last name (passed + 1) (if same_name other name then Some passed else found)
    ∙ (λ i. if same_name last name then Some (shift i) else place_after others name (passed + 1) (if same_name other name then Some passed else found))
  where
    shift : length others + (passed + 1) ≡ length (other ∷ others) + passed
    shift = omega arith

pub slot_of-push : (names : List Name) (last name : Name) → slot_of (names ++ last ∷ []) name ≡ (if same_name last name then Some (length names) else slot_of names name)
slot_of-push names last name = place_after-push names last name 0 None ∙ (λ i. if same_name last name then Some (zero_more i) else slot_of names name)
  where
    zero_more : length names + 0 ≡ length names
    zero_more = omega arith

pub append-assoc : {A : Type 0} (xs ys zs : List A) → (xs ++ ys) ++ zs ≡ xs ++ (ys ++ zs)
append-assoc [] ys zs = refl
append-assoc (x ∷ xs) ys zs = ap (λ rest. x ∷ rest) (append-assoc xs ys zs)

append-none : {A : Type 0} (xs : List A) → xs ++ [] ≡ xs
append-none [] = refl
append-none (x ∷ xs) = ap (λ rest. x ∷ rest) (append-none xs)

hidden_after-push : (passed names : List Name) (last : Name) → hidden_after passed (names ++ last ∷ []) ≡ hidden_after passed names ++ slot_of (passed ++ names) last ∷ []
hidden_after-push passed [] last = ap (λ names. slot_of names last ∷ []) (sym (append-none passed))
hidden_after-push passed (name ∷ names) last =
    ap (λ rest. slot_of passed name ∷ rest) (hidden_after-push (passed ++ name ∷ []) names last ∙ ap (λ all. hidden_after (passed ++ name ∷ []) names ++ slot_of all last ∷ []) (append-assoc passed (name ∷ []) names))

pub hidden_by-push : (names : List Name) (last : Name) → hidden_by (names ++ last ∷ []) ≡ hidden_by names ++ slot_of names last ∷ []
hidden_by-push names last = hidden_after-push [] names last

pub same-name : (name : Name) → same_name name name ≡ true
same-name name = (bytes_eq-Decides name name).1 refl

-- the innermost variable is found by its name
pub slot_of-last : (names : List Name) (last : Name) → slot_of (names ++ last ∷ []) last ≡ Some (length names)
slot_of-last names last = slot_of-push names last last ∙ ap (λ same. if same then Some (length names) else slot_of names last) (same-name last)

-- and where it is taken out, what it hid is found again
pub slot_of-pop : (names : List Name) (last name : Name) → cond (bytes_eq last name) (slot_of names last) (slot_of (names ++ last ∷ []) name) ≡ slot_of names name
slot_of-pop names last name = by (bytes_eq last name) refl
  where
    by : (same : Bool) → bytes_eq last name ≡ same → cond same (slot_of names last) (slot_of (names ++ last ∷ []) name) ≡ slot_of names name
    by true is = ap (slot_of names) ((bytes_eq-Decides last name).0 is)
    by false is = slot_of-push names last name ∙ ap (λ same. if same then Some (length names) else slot_of names name) is

-- names that neither comes before the other are the same
pub by-bytes : {X : Type 0} (name other : Bor (List ℕ)) (some none new : X)
    → new ≡ cond (is_eq (slice_cmp nat_cmp name.now other.now)) some none → new ≡ cond (bytes_eq name.now other.now) some none
by-bytes name other some none new is = is ∙ ap (λ same. cond same some none) (is_eq-slice_cmp name.now other.now)

-- ---- the ends of lists

abbrev without_last : {A : Type 0} → List A → List A
without_last [] = []
without_last (x ∷ []) = []
without_last (x ∷ y ∷ ys) = x ∷ without_last (y ∷ ys)

abbrev last_or : {A : Type 0} → A → List A → A
last_or other [] = other
last_or other (x ∷ xs) = last_or x xs

without_last-push : {A : Type 0} (xs : List A) (x : A) → without_last (xs ++ x ∷ []) ≡ xs
without_last-push [] x = refl
without_last-push (y ∷ []) x = refl
without_last-push (y ∷ z ∷ zs) x = ap (λ rest. y ∷ rest) (without_last-push (z ∷ zs) x)

last_or-push : {A : Type 0} (other : A) (xs : List A) (x : A) → last_or other (xs ++ x ∷ []) ≡ x
last_or-push other [] x = refl
last_or-push other (y ∷ ys) x = last_or-push y ys x

pub take_whole : {A : Type 0} (xs more : List A) → take (length xs) (xs ++ more) ≡ xs
take_whole [] more = refl
take_whole (x ∷ xs) more = ap (λ rest. x ∷ rest) (take_whole xs more)

pub take-push : {A : Type 0} (items xs : List A) (x : A) (count : ℕ) → count ≡ length items → items ≡ xs ++ x ∷ [] → take (count - 1) items ≡ xs
take-push items xs x count counts is =
    (λ i. take (counts i - 1) items) ∙ (λ i. take (length (is i) - 1) (is i)) ∙ ap (λ n. take n (xs ++ x ∷ [])) less ∙ take_whole xs (x ∷ [])
  where
    less : length (xs ++ x ∷ []) - 1 ≡ length xs
    less = omega (arith, length-append xs (x ∷ []))

-- ---- entries

module _ {E : Type 0} (variable_of : E → Typed) (hidden_of : E → Option ℕ) where
  names_in : List E → List Name
  names_in entries = words_of (map variable_of entries)

  names-push : (entries : List E) (entry : E) → words_of (map variable_of (entries ++ entry ∷ [])) ≡ words_of (map variable_of entries) ++ (variable_of entry).name.name ∷ []
  names-push entries entry = ap words_of (map-append variable_of entries (entry ∷ [])) ∙ map-append (λ (variable : Typed). variable.name.name) (map variable_of entries) (variable_of entry ∷ [])

  pub indexed-push : (items entries : List E) (entry : E) (found new : Bor (List ℕ) → Option ℕ) (name : Bor (List ℕ))
      → Indexed variable_of hidden_of entries found → items ≡ entries ++ entry ∷ [] → name.now ≡ (variable_of entry).name.name → hidden_of entry ≡ found name
      → (place : ℕ) → place ≡ length entries → ((other : Bor (List ℕ)) → new other ≡ cond (bytes_eq name.now other.now) (Some place) (found other))
      → Indexed variable_of hidden_of items new
  indexed-push items entries entry found new name indexed is named hides place counts updates =
      subst (λ all. Indexed variable_of hidden_of all new) (sym is) (
        (map-append hidden_of entries (entry ∷ []) ∙ (λ i. indexed.0 i ++ hid i ∷ []) ∙ sym (hidden_by-push names last) ∙ ap hidden_by (sym (names-push entries entry))),
        (λ i other. (updates other ∙ (λ j. cond (bytes_eq (named j) other.now) (Some ((counts ∙ len) j)) (indexed.1 j other))
            ∙ sym (slot_of-push names last other.now) ∙ ap (λ all. slot_of all other.now) (sym (names-push entries entry))) i),
      )
    where
      names : List Name
      names = words_of (map variable_of entries)

      last : Name
      last = (variable_of entry).name.name

      hid : hidden_of entry ≡ slot_of names last
      hid = hides ∙ (λ i. indexed.1 i name) ∙ ap (slot_of names) named

      len : length entries ≡ length names
      len = sym (length-map entries variable_of) ∙ sym (length-map (map variable_of entries) (λ (variable : Typed). variable.name.name))

  pub indexed-pop : (items entries : List E) (entry : E) (found new : Bor (List ℕ) → Option ℕ) (name : Bor (List ℕ))
      → Indexed variable_of hidden_of items found → items ≡ entries ++ entry ∷ [] → name.now ≡ (variable_of entry).name.name
      → (hidden : Option ℕ) → hidden_of entry ≡ hidden → ((other : Bor (List ℕ)) → new other ≡ cond (bytes_eq name.now other.now) hidden (found other))
      → Indexed variable_of hidden_of entries new
  indexed-pop items entries entry found new name indexed is named hidden hides updates = (
    (sym (without_last-push (map hidden_of entries) (hidden_of entry)) ∙ ap without_last both ∙ without_last-push (hidden_by names) (slot_of names last)),
    (λ i other. (updates other ∙ (λ j. cond (bytes_eq (named j) other.now) ((sym hides ∙ hid) j) (whole.1 j other))
        ∙ (λ j. cond (bytes_eq last other.now) (slot_of names last) (slot_of (names-push entries entry j) other.now)) ∙ slot_of-pop names last other.now) i),
  )
    where
      names : List Name
      names = words_of (map variable_of entries)

      last : Name
      last = (variable_of entry).name.name

      whole : Indexed variable_of hidden_of (entries ++ entry ∷ []) found
      whole = subst (λ all. Indexed variable_of hidden_of all found) is indexed

      both : map hidden_of entries ++ hidden_of entry ∷ [] ≡ hidden_by names ++ slot_of names last ∷ []
      both = sym (map-append hidden_of entries (entry ∷ [])) ∙ whole.0 ∙ ap hidden_by (names-push entries entry) ∙ hidden_by-push names last

      hid : hidden_of entry ≡ slot_of names last
      hid = sym (last_or-push None (map hidden_of entries) (hidden_of entry)) ∙ ap (last_or None) both ∙ last_or-push None (hidden_by names) (slot_of names last)

  -- the innermost variable is found
  pub indexed-found : (items entries : List E) (entry : E) (found : Bor (List ℕ) → Option ℕ) (name : Bor (List ℕ))
      → Indexed variable_of hidden_of items found → items ≡ entries ++ entry ∷ [] → name.now ≡ (variable_of entry).name.name
      → found name ≡ None → ⊥
  indexed-found items entries entry found name indexed is named none =
      absurd (cc (none, (λ i. whole.1 i name) ∙ (λ i. slot_of (names-push entries entry i) (named i)) ∙ slot_of-last (words_of (map variable_of entries)) (variable_of entry).name.name))
    where
      whole : Indexed variable_of hidden_of (entries ++ entry ∷ []) found
      whole = subst (λ all. Indexed variable_of hidden_of all found) is indexed

  pub indexed-same : (items entries : List E) (found new : Bor (List ℕ) → Option ℕ)
      → Indexed variable_of hidden_of entries found → items ≡ entries → ((other : Bor (List ℕ)) → new other ≡ found other) → Indexed variable_of hidden_of items new
  indexed-same items entries found new indexed is same =
      subst (λ all. Indexed variable_of hidden_of all new) (sym is) (indexed.0, (λ i other. (same other ∙ (λ j. indexed.1 j other)) i))

-- ---- lists of variables

-- a variable more, from the end of a list
pub enter-more : {A : Type 0} (old now new xs : List A) (k : ℕ) (x : A) → k < length xs → now ≡ old ++ take k (reverse xs) → new ≡ now ++ x ∷ []
    → x ≡ get_or xs (length xs - 1 - k) x → new ≡ old ++ take (k + 1) (reverse xs)
enter-more old now new xs k x within so_far is read =
    is ∙ ap (λ all. all ++ x ∷ []) so_far ∙ append-assoc old (take k (reverse xs)) (x ∷ [])
    ∙ ap (λ more. old ++ more) ((λ i. take k (reverse xs) ++ (read ∙ sym (get_or-reverse xs k x within)) i ∷ []) ∙ sym (take_more (reverse xs) k x (omega (arith, within, length-reverse xs))))

pub entered : {A : Type 0} (old now xs : List A) (k : ℕ) → length xs ≤ k → now ≡ old ++ take k (reverse xs) → now ≡ old ++ reverse xs
entered old now xs k past so_far = so_far ∙ ap (λ more. old ++ more) (take_all k (reverse xs) (omega (arith, past, length-reverse xs)))

pub scope_seen-enter : (variables more : List Typed) → scope_seen (variables ++ reverse more) ≡ scope_of more ++ scope_seen variables
scope_seen-enter variables more =
    ap scope_of (reverse-append variables (reverse more) ∙ (λ i. reverse-reverse more i ++ reverse variables))
    ∙ map-append (λ (variable : Typed). (variable.name.name, type_names variable.types)) more (reverse variables)

-- the scope without its innermost variables
pub scope_seen-leave : (variables : List Typed) (count : ℕ) → scope_seen (take (length variables - count) variables) ≡ drop count (scope_seen variables)
scope_seen-leave variables count = ap scope_of (ap reverse cut ∙ reverse-reverse (drop count inner)) ∙ sym (drop-map (λ (variable : Typed). (variable.name.name, type_names variable.types)) count inner)
  where
    inner : List Typed
    inner = reverse variables

    split : variables ≡ reverse (drop count inner) ++ reverse (take count inner)
    split = sym (reverse-reverse variables) ∙ ap reverse (sym (take-append-drop count inner)) ∙ reverse-append (take count inner) (drop count inner)

    size : length (reverse (drop count inner)) ≡ length variables - count
    size = length-reverse (drop count inner) ∙ length-drop count inner ∙ ap (λ n. n - count) (length-reverse variables)

    cut : take (length variables - count) variables ≡ reverse (drop count inner)
    cut = ap (take (length variables - count)) split ∙ take_at (reverse (drop count inner)) (reverse (take count inner)) (length variables - count) size

declared-inner : (inner : List Typed) (name : Name) → list_any (λ (entry : Name × List Name). same_name entry.0 name) (scope_of inner) ≡ is_some (slot_of (words_of (reverse inner)) name)
declared-inner [] name = refl
declared-inner (variable ∷ inner) name =
    (λ i. same_name variable.name.name name || declared-inner inner name i) ∙ by (same_name variable.name.name name)
    ∙ sym (ap is_some (ap (λ names. slot_of names name) words ∙ slot_of-push (words_of (reverse inner)) variable.name.name name))
  where
    words : words_of (reverse (variable ∷ inner)) ≡ words_of (reverse inner) ++ variable.name.name ∷ []
    words = ap words_of (reverse-append (variable ∷ []) inner) ∙ map-append (λ (variable : Typed). variable.name.name) (reverse inner) (variable ∷ [])

    by : (same : Bool) → (same || is_some (slot_of (words_of (reverse inner)) name)) ≡ is_some (if same then Some (length (words_of (reverse inner))) else slot_of (words_of (reverse inner)) name)
    by true = refl
    by false = refl

-- a variable is in scope where its name has a slot
pub declared-slot : (variables : List Typed) (name : Name) → list_any (λ (entry : Name × List Name). same_name entry.0 name) (scope_seen variables) ≡ is_some (slot_of (words_of variables) name)
declared-slot variables name = declared-inner (reverse variables) name ∙ ap (λ all. is_some (slot_of (words_of all) name)) (reverse-reverse variables)

pub ruleset enter_laws = (scope_seen-enter, take_whole, entered)

pub ruleset leave_laws = (scope_seen-leave)

pub ruleset scope_laws = (declared-slot)
