-- Names have numbers and variables slots, and both stand for what they stand for by name.
use Rattle.std.proofs.Common.{◌≡◌, ◌∙◌, ℕ, ◌+◌, ◌<◌, ◌==◌, Bool, true, false, not, ◌&&◌, ◌||◌, if◌then◌else◌, List, [], ◌∷◌, ◌++◌, cond, length, Option, Some, None, is_some, refl, sym, ap, subst, arith, suc, length-append, append_assoc}
use Rattle.std.specs.List.{list_any, position_or_len}
use Rattle.std.proofs.lemmas.List.{length-map, get_or-map}
use Rattle.std.proofs.lemmas.List.Sums.{passes_at_first}
use Rattle.std.proofs.lemmas.List.Elements.{All-get_or}
use Rattle.std.proofs.Math.Seq.{get_or-append_seam}
use Rattle.std.proofs.lemmas.Bool.{and_parts}
use Rattle.std.proofs.lemmas.Slice.Eq.{bytes_eq-Decides}
use Rattle.std.proofs.lemmas.Bool.Decides.{Decides-eqb}
use Rattle.p3_task.specs.Names.{Name, same_name, has_name}
use Rattle.p3_task.specs.States.{Environment, object_of, meaning, meanings, fact_of}
use Rattle.p3_task.specs.declared.term.Ref.{Ref}
use Rattle.p3_task.specs.declared.term.Term.{Term}
use Rattle.p3_task.specs.declared.term.Term.TheVariants.{Var, Const}
use Rattle.p3_task.specs.declared.task.Task.{Task}
use Rattle.p3_numbers.specs.Slots.{Slots, value_of, values_of, name_at, object_names, fact_at}
use Rattle.p3_numbers.specs.Places.{number_in, Variables, place_after, slot_of, slot_or_first, numbered_term, numbered_terms, is_known_term, are_known_terms, IsNumbering, Fills, paired, environment_of}
use Rattle.p3_numbers.specs.declared.numbers.Numbers.{Numbers}

-- ---- tests

same_answer : (first second : Bool) → (first ≡ true → second ≡ true) → (second ≡ true → first ≡ true) → first ≡ second
same_answer true second there back = sym (there refl)
same_answer false true there back = back refl
same_answer false false there back = refl

-- ---- places of names

pub first_within : {A : Type 0} (test : A → Bool) (xs : List A) → list_any test xs ≡ true → position_or_len test xs < length xs
first_within test [] found = absurd (cc)
first_within test (x ∷ xs) found = by (test x) refl found (first_within test xs)
  where
    by : (here : Bool) → test x ≡ here → (here || list_any test xs) ≡ true → (list_any test xs ≡ true → position_or_len test xs < length xs) → cond (not here) (1 + position_or_len test xs) 0 < suc (length xs)
    by true is found later = omega arith
    by false is found later = omega (arith, later found)

pub found_within : (names : List Name) (name : Name) → has_name names name ≡ true → number_in names name < length names
found_within names name known = first_within (λ other. same_name other name) names known

pub found_name : (names : List Name) (name : Name) → has_name names name ≡ true → name_at names (number_in names name) ≡ name
found_name names name known = (bytes_eq-Decides (name_at names (number_in names name)) name).0 (passes_at_first (λ other. same_name other name) names [] (found_within names name known))

-- ---- variables

-- what a slot reads, where there is one
abbrev read : Name → List Name → Option ℕ → Name
read variable all None = variable
read variable all (Some place) = name_at all place

looked_up : (variable : Name) (scope : Variables) (passed objects : List Name) (place : ℕ) (env : Environment) (found : Option ℕ) → length scope ≡ length objects → place ≡ length passed → object_of env variable ≡ read variable (passed ++ objects) found
    → object_of (paired env scope objects) variable ≡ read variable (passed ++ objects) (place_after scope variable place found)
looked_up variable [] passed objects place env found lengths at e = e
looked_up variable (other ∷ scope) passed [] place env found lengths at e = absurd (cc)
looked_up variable (other ∷ scope) passed (object ∷ objects) place env found lengths at e =
    let joined : (passed ++ object ∷ []) ++ objects ≡ passed ++ object ∷ objects = append_assoc passed (object ∷ []) objects in
    subst (λ all. object_of (paired (record { variable = other; object = object } ∷ env) scope objects) variable ≡ read variable all (place_after scope variable (place + 1) (if same_name other variable then Some place else found))) joined
    (
    looked_up variable scope (passed ++ object ∷ []) objects (place + 1) (record { variable = other; object = object } ∷ env) (if same_name other variable then Some place else found) (cc) (omega (arith, length-append passed (object ∷ []), at))
    (subst (λ all. (if same_name other variable then object else object_of env variable) ≡ read variable all (if same_name other variable then Some place else found)) (sym joined) (by (same_name other variable)))
    )
  where
    by : (here : Bool) → (if here then object else object_of env variable) ≡ read variable (passed ++ object ∷ objects) (if here then Some place else found)
    by true = sym (ap (λ k. name_at (passed ++ object ∷ objects) k) at ∙ get_or-append_seam passed object objects [])
    by false = e

place_within : (scope : Variables) (variable : Name) (passed total : ℕ) (found : Option ℕ) (place : ℕ) → passed + length scope ≡ total → ((k : ℕ) → found ≡ Some k → k < total) → place_after scope variable passed found ≡ Some place → place < total
place_within [] variable passed total found place e below is = below place is
place_within (other ∷ scope) variable passed total found place e below is =
    place_within scope variable (passed + 1) total (if same_name other variable then Some passed else found) place (omega (arith, e)) (by (same_name other variable)) is
  where
    by : (here : Bool) → (k : ℕ) → (if here then Some passed else found) ≡ Some k → k < total
    by true k same = let at : passed ≡ k = cc in omega (arith, at, e)
    by false k same = below k same

-- ---- terms

module _ (T : Task) (N : Numbers) (ties : IsNumbering T N) where
  pub same_numbers : (first second : ℕ) → first < length N.objects → second < length N.objects → (first == second) ≡ same_name (name_at N.objects first) (name_at N.objects second)
  same_numbers first second low high =
      same_answer (first == second) (same_name (name_at N.objects first) (name_at N.objects second))
      (λ e. (bytes_eq-Decides (name_at N.objects first) (name_at N.objects second)).1 (ap (name_at N.objects) ((Decides-eqb first second).0 e)))
      (λ e. (Decides-eqb first second).1 (ties.distinct first second low high ((bytes_eq-Decides (name_at N.objects first) (name_at N.objects second)).0 e)))

module _ (N : Numbers) (scope : Variables) (slots : Slots) (fills : Fills N scope slots) where
  variable_means : (variable : Name) (slot : Option ℕ) → slot_of scope variable ≡ slot → is_some slot ≡ true
      → (name_at N.objects (value_of slots (slot_or_first slot)) ≡ object_of (environment_of N scope slots) variable) × (value_of slots (slot_or_first slot) < length N.objects)
  variable_means variable None is known = absurd (cc)
  variable_means variable (Some place) is known =
      let within : place < length slots = place_within scope variable 0 (length slots) None place (omega (arith, fills.lengths)) (λ k e. absurd (cc)) is in (
        sym (
            looked_up variable scope [] (object_names N slots) 0 [] None (fills.lengths ∙ sym (length-map slots (name_at N.objects))) refl refl
            ∙ ap (read variable (object_names N slots)) is ∙ get_or-map (name_at N.objects) slots place 0 [] within
            ),
        All-get_or (λ number. number < length N.objects) slots place 0 within fills.objects,
      )

  -- a term's number is that of the object that it means
  pub term_means : (term : Term) → is_known_term N scope term ≡ true
      → (name_at N.objects (value_of slots (numbered_term N scope term)) ≡ meaning (environment_of N scope slots) term) × (value_of slots (numbered_term N scope term) < length N.objects)
  term_means (Var variable) known = variable_means variable.name (slot_of scope variable.name) refl known
  term_means (Const object) known = (found_name N.objects object.name known, found_within N.objects object.name known)

  pub terms_mean : (terms : List Term) → are_known_terms N scope terms ≡ true → object_names N (values_of slots (numbered_terms N scope terms)) ≡ meanings (environment_of N scope slots) terms
  terms_mean [] known = refl
  terms_mean (term ∷ terms) known =
      let parts = and_parts (is_known_term N scope term) (are_known_terms N scope terms) known in
      λ i. (term_means term parts.0).0 i ∷ terms_mean terms parts.1 i

  pub fact_means : (pred : Ref) (args : List Term) → (has_name N.predicates pred.name && are_known_terms N scope args) ≡ true → fact_at N slots (number_in N.predicates pred.name) (numbered_terms N scope args) ≡ fact_of (environment_of N scope slots) pred args
  fact_means pred args known =
      let parts = and_parts (has_name N.predicates pred.name) (are_known_terms N scope args) known in
      λ i. record { name = found_name N.predicates pred.name parts.0 i; args = terms_mean args parts.1 i }
