-- Uses that offend nothing, where no declared predicate has parameters.
use Rattle.std.proofs.Common.{◌≡◌, refl, Bool, true, false, List, [], ◌∷◌, ◌++◌, cond, eqb, length, Option, Some, None}
use Rattle.std.specs.Prelude.{codes, flat_map, find, zip}
use Rattle.std.specs.List.{list_any, list_all}
use Rattle.std.proofs.lemmas.Bool.{and_parts}
use Rattle.p3_task.specs.Names.{Name, same_name, is_empty}
use Rattle.p3_task.specs.Uses.{Scope, Use, Objects, Variables, AtomUse, FunctionUse}
use Rattle.p3_task.specs.Offences.{unless, wrong_count, term_fits, word_of, clashes}
use Rattle.p3_task.specs.declared.term.Ref.{Ref}
use Rattle.p3_task.specs.declared.term.Term.{Term}
use Rattle.p3_task.specs.declared.term.Typed.{Typed}
use Rattle.p3_task.specs.declared.task.Header.{Header}
use Rattle.p3_task.specs.declared.task.Task.{Task}

abbrev pub declares : List Header → Name → Bool
declares headers name = list_any (λ header. same_name header.name.name name) headers

pub data IsFine (headers : List Header) : Use → Type 0 where
  NoObjects : IsFine headers (Objects [])
  NoVariables : IsFine headers (Variables [])
  IsAtom : (pred : Ref) (scope : Scope) → declares headers pred.name ≡ true → IsFine headers (AtomUse pred [] scope)
  IsCost : (word : Ref) (scope : Scope) → same_name (codes "total-cost") word.name ≡ true → IsFine headers (FunctionUse word [] scope)

abbrev pub AllFine : List Header → List Use → Type 0
AllFine headers [] = Unit {0}
AllFine headers (item ∷ items) = IsFine headers item × AllFine headers items

pub fine_append : (headers : List Header) (items more : List Use) → AllFine headers items → AllFine headers more → AllFine headers (items ++ more)
fine_append headers [] more first second = second
fine_append headers (item ∷ items) more first second = (first.0, fine_append headers items more first.1 second)

pub no_offence : (headers : List Header) (f : Use → List Ref) → ((item : Use) → IsFine headers item → f item ≡ []) → (items : List Use) → AllFine headers items → flat_map f items ≡ []
no_offence headers f none [] fine = refl
no_offence headers f none (item ∷ items) fine = λ i. none item fine.0 i ++ no_offence headers f none items fine.1 i

no_count : (params : List Typed) (word : Ref) → is_empty params ≡ true → unless (eqb (length params) 0) word ≡ []
no_count [] word e = refl
no_count (param ∷ params) word e = absurd (cc)

-- the header that is found has no parameters
one_or_later : (found : Bool) (header : Header) (later : Option Header) (word : Ref) → is_empty header.params ≡ true → wrong_count later word [] ≡ [] → wrong_count (cond found (Some header) later) word [] ≡ []
one_or_later true header later word none rest = no_count header.params word none
one_or_later false header later word none rest = rest

pub right_count : (p : Header → Bool) (headers : List Header) (word : Ref) → list_all (λ (header : Header). is_empty header.params) headers ≡ true → wrong_count (find p headers) word [] ≡ []
right_count p [] word e = refl
right_count p (header ∷ headers) word e =
    let both : (is_empty header.params ≡ true) × (list_all (λ (other : Header). is_empty other.params) headers ≡ true) = and_parts _ _ e in
    one_or_later (p header) header (find p headers) word both.0 (right_count p headers word both.1)

pub no_clash : (T : Task) (scope : Scope) (header : Option Header) → clashes T scope header [] ≡ []
no_clash T scope None = refl
no_clash T scope (Some header) = by header.params
  where
    by : (params : List Typed) → flat_map (λ (pair : Typed × Term). unless (term_fits T scope pair.0 pair.1) (word_of pair.1)) (zip params []) ≡ []
    by [] = refl
    by (param ∷ params) = refl
