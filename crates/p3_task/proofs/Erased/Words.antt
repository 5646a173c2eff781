-- Types, states and bindings do not depend on offsets.
use Rattle.std.proofs.Common.{◌≡◌, ◌∙◌, refl, sym, ap, ◌&&◌, ◌||◌, List, [], ◌∷◌, map, Option, None, Some}
use Rattle.std.specs.Prelude.{flat_map, filter, option_map}
use Rattle.std.specs.List.{list_any}
use Rattle.std.proofs.lemmas.List.{map-append}
use Rattle.p3_task.specs.Names.{Name, same_name, has_name, object_type}
use Rattle.p3_task.specs.Types.{names_of, pair_of, leads, below, type_names, is_below_some, declared_objects, once_each, is_object_of, objects}
use Rattle.p3_task.specs.States.{Environment, meaning, meanings, fact_of, initial_fact, start}
use Rattle.p3_task.specs.Bindings.{tuples, extended, bind, are_arguments}
use Rattle.p3_task.specs.Erased.{erased_ref, erased_term, erased_terms, erased_typed, erased_all_typed, erased_kind, erased_init, erased}
use Rattle.p3_task.proofs.Erased.Along.{any_along, map_along, filter_map_along}
use Rattle.p3_task.specs.declared.term.Ref.{Ref}
use Rattle.p3_task.specs.declared.term.Term.{Term}
use Rattle.p3_task.specs.declared.term.Term.TheVariants.{Var, Const}
use Rattle.p3_task.specs.declared.term.Typed.{Typed}
use Rattle.p3_task.specs.declared.task.Kind.{Kind}
use Rattle.p3_task.specs.declared.task.Init.{Init}
use Rattle.p3_task.specs.declared.task.Init.TheVariants.{True, False, Value}
use Rattle.p3_task.specs.declared.task.Task.{Task}

pub names_of-erased : (refs : List Ref) → names_of (map erased_ref refs) ≡ names_of refs
names_of-erased refs = map_along erased_ref _ _ (λ ref. refl) refs

pub type_names-erased : (types : List Ref) → type_names (map erased_ref types) ≡ type_names types
type_names-erased [] = refl
type_names-erased (first ∷ others) = ap (λ names. first.name ∷ names) (names_of-erased others)

pub meaning-erased : (env : Environment) (term : Term) → meaning env (erased_term term) ≡ meaning env term
meaning-erased env (Var ref) = refl
meaning-erased env (Const ref) = refl

pub meanings-erased : (env : Environment) (args : List Term) → meanings env (erased_terms args) ≡ meanings env args
meanings-erased env args = map_along erased_term _ _ (meaning-erased env) args

pub fact_of-erased : (env : Environment) (pred : Ref) (args : List Term) → fact_of env (erased_ref pred) (erased_terms args) ≡ fact_of env pred args
fact_of-erased env pred args = λ i. record { name = pred.name; args = meanings-erased env args i }

pub extended-erased : (env : Environment) (variables : List Typed) (tuple : List Name) → extended env (erased_all_typed variables) tuple ≡ extended env variables tuple
extended-erased env [] tuple = refl
extended-erased env (variable ∷ variables) [] = refl
extended-erased env (variable ∷ variables) (object ∷ tuple) = extended-erased (record { variable = variable.name.name; object = object } ∷ env) variables tuple

module _ (T : Task) where
  pair_of-erased : (kind : Kind) → pair_of (erased_kind kind) ≡ pair_of kind
  pair_of-erased kind = by kind.parent
    where
      by : (parent : Option Ref) → option_map {U = Name × Name} (λ ref. (kind.name.name, ref.name)) (option_map erased_ref parent) ≡ option_map {U = Name × Name} (λ ref. (kind.name.name, ref.name)) parent
      by None = refl
      by (Some ref) = refl

  pub below-erased : (low high : Name) → below (erased T) low high ≡ below T low high
  unfolding below
  below-erased low high = ap (λ pairs. same_name high object_type || leads pairs low high) (filter_map_along erased_kind pair_of pair_of pair_of-erased T.domain.kinds)

  pub is_below_some-erased : (highs : List Ref) (low : Name) → is_below_some (erased T) (map erased_ref highs) low ≡ is_below_some T highs low
  is_below_some-erased highs low = (λ i. list_any (λ high. below-erased low high i) (type_names (map erased_ref highs))) ∙ ap (list_any (λ high. below T low high)) (type_names-erased highs)

  pub declared_objects-erased : declared_objects (erased T) ≡ erased_all_typed (declared_objects T)
  declared_objects-erased = sym (map-append erased_typed T.domain.constants T.problem.objects)

  pub is_object_of-erased : (types : List Ref) (object : Name) → is_object_of (erased T) (map erased_ref types) object ≡ is_object_of T types object
  is_object_of-erased types object =
      ap (list_any (λ declared. same_name declared.name.name object && list_any (is_below_some (erased T) (map erased_ref types)) (type_names declared.types))) declared_objects-erased
      ∙ any_along erased_typed _ _ (λ declared i. same_name declared.name.name object && list_any (λ low. is_below_some-erased types low i) (type_names-erased declared.types i)) (declared_objects T)

  pub objects-erased : (types : List Ref) → objects (erased T) (map erased_ref types) ≡ objects T types
  unfolding objects
  objects-erased types = λ i. filter (λ object. is_object_of-erased types object i) (once_each (names i))
    where
      names : map (λ declared. declared.name.name) (declared_objects (erased T)) ≡ map (λ declared. declared.name.name) (declared_objects T)
      names = ap (map (λ declared. declared.name.name)) declared_objects-erased ∙ map_along erased_typed _ _ (λ declared. refl) (declared_objects T)

  initial_fact-erased : (entry : Init) → initial_fact (erased_init entry) ≡ initial_fact entry
  initial_fact-erased (True pred args) = ap Some (fact_of-erased [] pred args)
  initial_fact-erased (False pred args) = refl
  initial_fact-erased (Value function args number) = refl

  pub start-erased : start (erased T) ≡ start T
  unfolding start
  start-erased = filter_map_along erased_init initial_fact initial_fact initial_fact-erased T.problem.init

  pub tuples-erased : (variables : List Typed) → tuples (erased T) (erased_all_typed variables) ≡ tuples T variables
  unfolding tuples
  tuples-erased [] = refl
  tuples-erased (variable ∷ variables) = λ i. flat_map (λ object. map (λ rest. object ∷ rest) (tuples-erased variables i)) (objects-erased variable.types i)

  pub bind-erased : (env : Environment) (variables : List Typed) → bind (erased T) env (erased_all_typed variables) ≡ bind T env variables
  unfolding bind
  bind-erased env variables = λ i. map (λ tuple. extended-erased env variables tuple i) (tuples-erased variables i)

  pub are_arguments-erased : (parameters : List Typed) (tuple : List Name) → are_arguments (erased T) (erased_all_typed parameters) tuple ≡ are_arguments T parameters tuple
  unfolding are_arguments
  are_arguments-erased [] [] = refl
  are_arguments-erased [] (object ∷ tuple) = refl
  are_arguments-erased (parameter ∷ parameters) [] = refl
  are_arguments-erased (parameter ∷ parameters) (object ∷ tuple) = λ i. has_name (objects-erased parameter.types i) object && are_arguments-erased parameters tuple i
