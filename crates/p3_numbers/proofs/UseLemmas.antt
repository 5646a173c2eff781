-- What the uses of a well-formed task say of the names and variables in them.
use Rattle.std.proofs.Common.{◌≡◌, ◌∙◌, ℕ, ◌+◌, Bool, true, false, ◌&&◌, ◌||◌, if◌then◌else◌, List, [], ◌∷◌, ◌++◌, Option, Some, None, is_some, refl, sym}
use Rattle.std.specs.Prelude.{flat_map}
use Rattle.std.specs.List.{list_any, list_all}
use Rattle.std.proofs.Math.Bool.{or-true, or_comm}
use Rattle.std.proofs.lemmas.Bool.{and_parts}
use Rattle.std.proofs.lemmas.List.Folds.{list_any-append}
use Rattle.p3_task.specs.Names.{Name, same_name, has_name}
use Rattle.p3_task.specs.Offences.{unless, unknown_term, unknown_words, is_declared}
use Rattle.p3_task.specs.Types.{declared_objects, type_names}
use Rattle.p3_task.specs.Uses.{Scope, scope_of, Use, Objects, Variables, AtomUse, FunctionUse, SideUse, NameUse}
use Rattle.p3_task.proofs.MeaningLemmas.{list_any-map}
use Rattle.p3_task.proofs.OnceLemmas.{nil_left, nil_right}
use Rattle.p3_task.specs.declared.term.Ref.{Ref}
use Rattle.p3_task.specs.declared.term.Term.{Term}
use Rattle.p3_task.specs.declared.term.Term.TheVariants.{Var, Const}
use Rattle.p3_task.specs.declared.term.Typed.{Typed}
use Rattle.p3_task.specs.declared.task.Task.{Task}
use Rattle.p3_numbers.specs.Known.{declares, has_use_types, Covers}
use Rattle.p3_numbers.specs.Places as place
use Rattle.p3_numbers.specs.Places.{place_after, slot_of, words_of, is_known_term, are_known_terms, are_known_types}
use Rattle.p3_numbers.specs.declared.numbers.Numbers.{Numbers}

-- ---- what a use knows

abbrev pub is_in_scope : Scope → Name → Bool
is_in_scope scope name = list_any (λ (entry : Name × List Name). same_name entry.0 name) scope

abbrev pub knows_term : Numbers → Scope → Term → Bool
knows_term N scope (Var variable) = is_in_scope scope variable.name
knows_term N scope (Const object) = has_name N.objects object.name

abbrev pub knows : Numbers → Use → Bool
knows N (Objects objects) = true
knows N (Variables variables) = are_known_types N variables
knows N (AtomUse pred args scope) = has_name N.predicates pred.name && list_all (knows_term N scope) args
knows N (FunctionUse function args scope) = has_name N.functions function.name && list_all (knows_term N scope) args
knows N (SideUse side scope) = knows_term N scope side
knows N (NameUse name) = true

passes : (test : Bool) (word : Ref) → unless test word ≡ [] → test ≡ true
passes true word none = refl
passes false word none = absurd (cc)

each_passes : {A B : Type 0} (f : A → List B) (test : A → Bool) → ((x : A) → f x ≡ [] → test x ≡ true) → (xs : List A) → flat_map f xs ≡ [] → list_all test xs ≡ true
each_passes f test step [] none = refl
each_passes f test step (x ∷ xs) none = λ i. step x (nil_left (f x) (flat_map f xs) none) i && each_passes f test step xs (nil_right (f x) (flat_map f xs) none) i

module _ (T : Task) (N : Numbers) (covers : Covers T N) where
  term_known : (scope : Scope) (term : Term) → unknown_term T scope term ≡ [] → knows_term N scope term ≡ true
  term_known scope (Var variable) none = passes (is_in_scope scope variable.name) variable none
  term_known scope (Const object) none = covers.objects object.name (passes (is_declared (declared_objects T) object.name) object none)

  terms_known : (scope : Scope) (args : List Term) → flat_map (unknown_term T scope) args ≡ [] → list_all (knows_term N scope) args ≡ true
  terms_known scope args none = each_passes (unknown_term T scope) (knows_term N scope) (term_known scope) args none

  use_known : (use_of : Use) → unknown_words T use_of ≡ [] → has_use_types N use_of ≡ true → knows N use_of ≡ true
  use_known (Objects objects) none types = refl
  use_known (Variables variables) none types = types
  use_known (AtomUse pred args scope) none types = λ i. covers.predicates pred.name (passes (declares T.domain.predicates pred.name) pred (nil_left _ (flat_map (unknown_term T scope) args) none)) i && terms_known scope args (nil_right (unless (declares T.domain.predicates pred.name) pred) _ none) i
  use_known (FunctionUse function args scope) none types = λ i. covers.functions function.name (passes (declares T.domain.functions function.name) function (nil_left _ (flat_map (unknown_term T scope) args) none)) i && terms_known scope args (nil_right (unless (declares T.domain.functions function.name) function) _ none) i
  use_known (SideUse side scope) none types = term_known scope side none
  use_known (NameUse name) none types = refl

  pub uses_known : (uses : List Use) → flat_map (unknown_words T) uses ≡ [] → list_all (has_use_types N) uses ≡ true → list_all (knows N) uses ≡ true
  uses_known [] none types = refl
  uses_known (use_of ∷ uses) none types =
      let parts = and_parts (has_use_types N use_of) (list_all (has_use_types N) uses) types in
      λ i. use_known use_of (nil_left (unknown_words T use_of) (flat_map (unknown_words T) uses) none) parts.0 i && uses_known uses (nil_right (unknown_words T use_of) (flat_map (unknown_words T) uses) none) parts.1 i

-- ---- the variables in scope

-- the same variables are in scope
abbrev pub Agrees : Scope → place.Variables → Type 0
Agrees scope variables = (name : Name) → is_in_scope scope name ≡ has_name variables name

pub agrees-first : (variables : List Typed) → Agrees (scope_of variables) (words_of variables)
agrees-first variables name =
    list_any-map (λ (entry : Name × List Name). same_name entry.0 name) (λ (variable : Typed). (variable.name.name, type_names variable.types)) variables
    ∙ sym (list_any-map (λ other. same_name other name) (λ (variable : Typed). variable.name.name) variables)

pub agrees-more : (scope : Scope) (words : place.Variables) (variables : List Typed) → Agrees scope words → Agrees (scope_of variables ++ scope) (words ++ words_of variables)
agrees-more scope words variables agrees name =
    list_any-append (λ (entry : Name × List Name). same_name entry.0 name) (scope_of variables) scope
    ∙ (λ i. agrees-first variables name i || agrees name i)
    ∙ or_comm (has_name (words_of variables) name) (has_name words name)
    ∙ sym (list_any-append (λ other. same_name other name) words (words_of variables))

-- a variable in scope has a slot
has-place : (scope : place.Variables) (variable : Name) (passed : ℕ) (found : Option ℕ) → is_some (place_after scope variable passed found) ≡ (has_name scope variable || is_some found)
has-place [] variable passed found = refl
has-place (other ∷ scope) variable passed found = has-place scope variable (passed + 1) (if same_name other variable then Some passed else found) ∙ by (same_name other variable)
  where
    by : (here : Bool) → (has_name scope variable || is_some (if here then Some passed else found)) ≡ ((here || has_name scope variable) || is_some found)
    by true = or-true (has_name scope variable)
    by false = refl

module _ (N : Numbers) (scope : Scope) (words : place.Variables) (agrees : Agrees scope words) where
  pub term-agrees : (term : Term) → knows_term N scope term ≡ is_known_term N words term
  term-agrees (Var variable) = agrees variable.name ∙ sym (or_comm (has_name words variable.name) false) ∙ sym (has-place words variable.name 0 None)
  term-agrees (Const object) = refl

  pub terms-agree : (args : List Term) → list_all (knows_term N scope) args ≡ are_known_terms N words args
  terms-agree args = λ i. list_all (λ term. term-agrees term i) args
