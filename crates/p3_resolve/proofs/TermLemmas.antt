-- Variables in scope, and arguments beside their parameters.
use Rattle.std.proofs.Common.{◌≡◌, ◌∙◌, ◌++◌, ◌-◌, ◌||◌, ℕ, ◌+◌, ◌<◌, Bool, true, false, cond, length, take, get_or, List, [], ◌∷◌, Option, Some, None, refl, sym, ap, arith}
use Rattle.std.specs.Prelude.{fold, flat_map, zip, find, is_some, slice_get, option_and_then}
use Rattle.std.specs.List.{list_any}
use Rattle.std.proofs.lemmas.List.{map-append, append-nil, take_more, length-map, take-map, length-take-le}
use Rattle.std.proofs.lemmas.List.Concat.{flat_map-append}
use Rattle.p3_task.specs.Names.{Name, same_name}
use Rattle.p3_task.specs.Offences.{clashes, is_declared, term_fits, unknown_term, unless, word_of}
use Rattle.p3_task.specs.Types.{declared_objects, type_names}
use Rattle.p3_task.specs.Uses.{Scope, SideUse}
use Rattle.p3_task.specs.declared.term.Ref.{Ref}
use Rattle.p3_task.specs.declared.term.Term.{Term}
use Rattle.p3_task.specs.declared.term.Term.TheVariants.{Const, Var}
use Rattle.p3_task.specs.declared.term.Typed.{Typed}
use Rattle.p3_task.specs.declared.task.Header.{Header}
use Rattle.p3_task.specs.declared.task.Task.{Task}
use Rattle.p3_numbers.specs.Places.{words_of}
use Rattle.p3_resolve.specs.Fitting.{object_fits_at, variable_fits_at}
use Rattle.p3_resolve.specs.Numbers.{parameter_at}
use Rattle.p3_resolve.specs.Spots.{step}
use Rattle.p3_resolve.specs.Steps.{argument_step, arguments_step, fits_beside, note_step, variable_fits_beside}
use Rattle.p3_resolve.specs.Tables.{IsNumbered, header_of, parameter_of}
use Rattle.p3_resolve.specs.Walk.{Walked, with_found, with_tree}
use Rattle.p3_resolve.specs.declared.spot.FirstOffences.{FirstOffences}
use Rattle.p3_resolve.specs.declared.tables.Declared.{Declared}
use Rattle.p3_resolve.proofs.WalkLemmas.{fold-append}

pub words_of-append : (scope variables : List Typed) → words_of (scope ++ variables) ≡ words_of scope ++ words_of variables
words_of-append scope variables = map-append (λ (variable : Typed). variable.name.name) scope variables

-- the slots without those behind
pub words_of-take : (variables : List Typed) (count : ℕ) → words_of (take (length variables - count) variables) ≡ take (length (words_of variables) - count) (words_of variables)
words_of-take variables count =
    sym (take-map (λ (variable : Typed). variable.name.name) (length variables - count) variables)
    ∙ (λ i. take (sym (length-map variables (λ (variable : Typed). variable.name.name)) i - count) (words_of variables))

pub ruleset scope_laws = (words_of-append, words_of-take)

-- ---- what fits beside a parameter

pub free-fits : (T : Task) (parameter : Option Typed) → true ≡ variable_fits_beside T parameter None
free-fits T None = refl
free-fits T (Some one) = refl

pub bound-fits : (T : Task) (parameter : Option Typed) (found : Typed) → variable_fits_at T parameter found ≡ variable_fits_beside T parameter (Some (found.name.name, type_names found.types))
bound-fits T None found = refl
bound-fits T (Some one) found = refl

-- the parameter at a place of a header by its number
pub parameter-numbered : (T : Task) (one : Declared) (place : ℕ) → IsNumbered T (Some one) → parameter_at T one.number place ≡ parameter_of (Some one) place
parameter-numbered T one place is = ap (option_and_then (λ (header : Header). slice_get header.params place)) is

pub ruleset beside_laws = (free-fits, bound-fits, parameter-numbered)

-- ---- an argument more

is_some-find : {A : Type 0} (test : A → Bool) (xs : List A) → is_some (find test xs) ≡ list_any test xs
is_some-find test [] = refl
is_some-find test (x ∷ xs) = by (test x) (is_some-find test xs)
  where
    by : (passes : Bool) → is_some (find test xs) ≡ list_any test xs → is_some (cond passes (Some x) (find test xs)) ≡ (passes || list_any test xs)
    by true rest = refl
    by false rest = rest

module _ (T : Task) (scope : Scope) (parameter : Option Typed) (found : FirstOffences) (word : Ref) where
  variable-beside : fits_beside T scope parameter (Var word) ≡ variable_fits_beside T parameter (find (λ (entry : Name × List Name). same_name entry.0 word.name) scope)
  variable-beside = by parameter
    where
      by : (one : Option Typed) → fits_beside T scope one (Var word) ≡ variable_fits_beside T one (find (λ (entry : Name × List Name). same_name entry.0 word.name) scope)
      by None = refl
      by (Some one) = refl

  object-beside : fits_beside T scope parameter (Const word) ≡ object_fits_at T parameter word.name
  object-beside = by parameter
    where
      by : (one : Option Typed) → fits_beside T scope one (Const word) ≡ object_fits_at T one word.name
      by None = refl
      by (Some one) = refl

  pub variable-step : (known fits : Bool) (entry : Option (Name × List Name)) → known ≡ is_some entry → entry ≡ find (λ (entry : Name × List Name). same_name entry.0 word.name) scope
      → fits ≡ variable_fits_beside T parameter entry → note_step found known fits word ≡ argument_step T scope parameter found (Var word)
  unfolding argument_step
  variable-step known fits entry knows is told = λ i. note_step found
      ((knows ∙ ap is_some is ∙ is_some-find (λ (entry : Name × List Name). same_name entry.0 word.name) scope) i)
      ((told ∙ ap (variable_fits_beside T parameter) is ∙ sym variable-beside) i) word

  pub object-step : (known fits : Bool) → known ≡ is_declared (declared_objects T) word.name → fits ≡ object_fits_at T parameter word.name
      → note_step found known fits word ≡ argument_step T scope parameter found (Const word)
  unfolding argument_step
  object-step known fits knows told = λ i. note_step found (knows i) ((told ∙ sym object-beside) i) word

pub ruleset step_laws = (object-step)

pub ruleset variable_laws = (variable-step)

-- a side of an equality, which is beside no parameter
pub side-tree : (T : Task) (walk : Walked) (term : Term) → with_found (argument_step T walk.scope None walk.found term) walk ≡ with_tree T (λ scope. SideUse term scope ∷ []) walk
unfolding with_tree argument_step
side-tree T walk term = refl

pub ruleset side_laws = (side-tree)

-- ---- arguments one after the other

-- where there are no arguments
pub no-clash : (T : Task) (scope : Scope) (header : Option Header) → clashes T scope header [] ≡ []
no-clash T scope None = refl
no-clash T scope (Some header) = by header.params
  where
    by : (params : List Typed) → clashes T scope (Some (record header { params = params })) [] ≡ []
    by [] = refl
    by (first ∷ params) = refl

abbrev paired-with : {A B : Type 0} → Option A → B → List (A × B)
paired-with None y = []
paired-with (Some x) y = (x, y) ∷ []

zip-push : {A B : Type 0} (xs : List A) (ys : List B) (y : B) → zip xs (ys ++ y ∷ []) ≡ zip xs ys ++ paired-with (slice_get xs (length ys)) y
zip-push [] [] y = refl
zip-push [] (z ∷ ys) y = refl
zip-push (x ∷ []) [] y = refl
zip-push (x ∷ z ∷ xs) [] y = refl
zip-push (x ∷ xs) (z ∷ ys) y = ap (λ rest. (x, z) ∷ rest) (zip-push xs ys y)

clash-push : (T : Task) (scope : Scope) (header : Option Header) (args : List Term) (term : Term) → clashes T scope header (args ++ term ∷ [])
    ≡ clashes T scope header args ++ unless (fits_beside T scope (option_and_then (λ (one : Header). slice_get one.params (length args)) header) term) (word_of term)
clash-push T scope None args term = refl
clash-push T scope (Some header) args term =
    ap (flat_map words) (zip-push header.params args term) ∙ flat_map-append words (zip header.params args) (paired-with (slice_get header.params (length args)) term)
    ∙ ap (λ rest. flat_map words (zip header.params args) ++ rest) (by (slice_get header.params (length args)))
  where
    words : Typed × Term → List Ref
    words pair = unless (term_fits T scope pair.0 pair.1) (word_of pair.1)

    by : (one : Option Typed) → flat_map words (paired-with one term) ≡ unless (fits_beside T scope one term) (word_of term)
    by None = refl
    by (Some one) = append-nil (words (one, term))

parameter-found : (declared : Option Declared) (place : ℕ) → option_and_then (λ (one : Header). slice_get one.params place) (header_of declared) ≡ parameter_of declared place
parameter-found None place = refl
parameter-found (Some one) place = refl

-- an argument more
pub argument-more : (T : Task) (scope : Scope) (declared : Option Declared) (old now next : FirstOffences) (args : List Term) (place : ℕ) (term : Term) → place < length args → term ≡ get_or args place term
    → now ≡ arguments_step T scope (header_of declared) old (take place args) → next ≡ argument_step T scope (parameter_of declared place) now term
    → next ≡ arguments_step T scope (header_of declared) old (take (place + 1) args)
unfolding argument_step arguments_step
argument-more T scope declared old now next args place term within read so_far is =
    is ∙ (λ i. argument_step T scope (sym (parameter-found declared place) i) (so_far i) term)
    ∙ (λ i. argument_step T scope (option_and_then (λ (one : Header). slice_get one.params (sym (length-take-le place args (omega (arith, within))) i)) (header_of declared)) (arguments_step T scope (header_of declared) old (take place args)) term)
    ∙ (λ i. record {
      duplicate = old.duplicate;
      unknown = (sym (fold-append step old.unknown (flat_map (unknown_term T scope) (take place args)) (unknown_term T scope term))
          ∙ ap (fold step old.unknown) (ap (λ rest. flat_map (unknown_term T scope) (take place args) ++ rest) (sym (append-nil (unknown_term T scope term))) ∙ sym (flat_map-append (unknown_term T scope) (take place args) (term ∷ [])))) i;
      miscount = old.miscount;
      clash = (sym (fold-append step old.clash (clashes T scope (header_of declared) (take place args)) _) ∙ ap (fold step old.clash) (sym (clash-push T scope (header_of declared) (take place args) term))) i;
    })
    ∙ (λ i. arguments_step T scope (header_of declared) old (sym longer i))
  where
    longer : take (place + 1) args ≡ take place args ++ term ∷ []
    longer = take_more args place term within ∙ ap (λ item. take place args ++ item ∷ []) (sym read)

pub no-arguments : (T : Task) (scope : Scope) (header : Option Header) (found : FirstOffences) → arguments_step T scope header found [] ≡ found
unfolding arguments_step
no-arguments T scope header found = λ i. record { duplicate = found.duplicate; unknown = found.unknown; miscount = found.miscount; clash = fold step found.clash (no-clash T scope header i) }

pub ruleset argument_laws = (argument-more, no-arguments)
