-- The steps of a well-formed task, each once.
use Rattle.std.proofs.Common.{◌≡◌, ◌∙◌, ℕ, zero, suc, refl, sym, ap, Bool, true, false, not, ◌||◌, List, [], ◌∷◌, Some, map}
use Rattle.std.specs.Prelude.{slice_get}
use Rattle.std.proofs.lemmas.Bool.{true≢false, and_parts, and_from, or_parts, or_left, or_right, not-true}
use Rattle.std.proofs.lemmas.Slice.Eq.{bytes_eq-Decides}
use Rattle.p3_task.specs.Names.{Name, same_name, has_name}
use Rattle.p3_task.specs.Types.{objects, is_object_of}
use Rattle.p3_task.specs.Bindings.{tuples, are_arguments}
use Rattle.p3_task.specs.Plans.{action_named}
use Rattle.p3_task.specs.Lifting.{steps, steps_of}
use Rattle.p3_task.specs.Offences.{WellFormed, domain_duplicates, repeated, repeated_after, unless, action_words}
use Rattle.p3_task.specs.declared.term.Ref.{Ref}
use Rattle.p3_task.specs.declared.term.Typed.{Typed}
use Rattle.p3_task.specs.declared.task.Action.{Action}
use Rattle.p3_task.specs.declared.task.Step.{Step}
use Rattle.p3_task.specs.declared.task.Task.{Task}
use Rattle.p3_task.specs.StepNumbers.{HasNumber, IsOwn, HasStepNumbers}
use Rattle.p3_task.proofs.OnceLemmas.{nil_left, nil_right, Some-injective, find_found, AreOnce, filter_once, each_once, once_behind, Has, in_map, map_at, in_flat, flat_has, once_map, once_flat, find_first}

is_same : (first second : Name) → same_name first second ≡ true → first ≡ second
is_same first second e = (bytes_eq-Decides first second).0 e

same_as : (first second : Name) → first ≡ second → same_name first second ≡ true
same_as first second e = (bytes_eq-Decides first second).1 e

-- ---- objects and tuples

name_has : (names : List Name) (name : Name) (k : ℕ) → slice_get names k ≡ Some name → has_name names name ≡ true
name_has [] name k e = absurd (cc)
name_has (other ∷ names) name zero e = or_left _ _ (same_as other name (Some-injective other name e))
name_has (other ∷ names) name (suc k) e = or_right (same_name other name) _ (name_has names name k e)

has_place : (names : List Name) (name : Name) → has_name names name ≡ true → Has names name
has_place [] name e = absurd (true≢false (sym e))
has_place (other ∷ names) name e = by (same_name other name) refl e (has_place names name)
  where
    by : (t : Bool) → same_name other name ≡ t → (t || has_name names name) ≡ true → (has_name names name ≡ true → Has names name) → Has (other ∷ names) name
    by true same e rest = (0, ap Some (is_same other name same))
    by false apart e rest = let found = rest e in (suc found.0, found.1)

module _ (T : Task) where
  objects_once : (types : List Ref) → AreOnce (objects T types)
  unfolding objects
  objects_once types = filter_once (is_object_of T types) _ (each_once _)

  abbrev heads : Name → List Name → List Name
  heads object rest = object ∷ rest

  tail_is : (object : Name) (first second : List Name) → object ∷ first ≡ object ∷ second → first ≡ second
  tail_is object first second e = ap tail e
    where
      tail : List Name → List Name
      tail [] = []
      tail (x ∷ xs) = xs

  head_is : (x y : Name) (first second : List Name) → x ∷ first ≡ y ∷ second → x ≡ y
  head_is x y first second e = ap (head x) e
    where
      head : Name → List Name → Name
      head d [] = d
      head d (x ∷ xs) = x

  tuples_once : (params : List Typed) → AreOnce (tuples T params)
  unfolding tuples
  tuples_once [] = once_behind [] [] (λ i j x e f. absurd (cc)) (λ i x e same. (cc))
  tuples_once (param ∷ params) =
      once_flat (λ object. map (λ rest. object ∷ rest) (tuples T params)) (objects T param.types)
      (λ i j a b y e f c d.
      let (first, at, is) = in_map (λ rest. a ∷ rest) (tuples T params) c.0 y c.1 in
      let (second, there, same) = in_map (λ rest. b ∷ rest) (tuples T params) d.0 y d.1 in
      objects_once param.types i j a e (f ∙ ap Some (sym (head_is a b first second (is ∙ sym same)))))
      (λ object. once_map (λ rest. object ∷ rest) (tail_is object) (tuples T params) (tuples_once params))

  tuple_fits : (params : List Typed) (k : ℕ) (args : List Name) → slice_get (tuples T params) k ≡ Some args → are_arguments T params args ≡ true
  unfolding tuples are_arguments
  tuple_fits [] zero args e = ap (are_arguments T []) (sym (Some-injective [] args e))
  tuple_fits [] (suc k) args e = absurd (cc)
  tuple_fits (param ∷ params) k args e =
      let (n, object, at, own) = in_flat (λ object. map (λ rest. object ∷ rest) (tuples T params)) (objects T param.types) k args e in
      let (rest, there, is) = in_map (λ rest. object ∷ rest) (tuples T params) own.0 args own.1 in
      ap (are_arguments T (param ∷ params)) (sym is) ∙ and_from _ _ (name_has (objects T param.types) object n at) (tuple_fits params own.0 rest there)

  fit_tuple : (params : List Typed) (args : List Name) → are_arguments T params args ≡ true → Has (tuples T params) args
  unfolding tuples are_arguments
  fit_tuple [] [] e = (0, refl)
  fit_tuple [] (object ∷ args) e = absurd (true≢false (sym e))
  fit_tuple (param ∷ params) [] e = absurd (true≢false (sym e))
  fit_tuple (param ∷ params) (object ∷ args) e =
      let h = and_parts _ _ e in
      let place = has_place (objects T param.types) object h.0 in
      let rest = fit_tuple params args h.1 in
      flat_has (λ object. map (λ rest. object ∷ rest) (tuples T params)) (objects T param.types) place.0 object (object ∷ args) place.1 (rest.0, map_at (λ rest. object ∷ rest) (tuples T params) rest.0 args rest.1)

-- ---- actions

unless_nil : (passes : Bool) (word : Ref) → unless passes word ≡ [] → passes ≡ true
unless_nil true word e = refl
unless_nil false word e = absurd (cc)

fresh : (seen : List Name) (words : List Ref) → repeated_after seen words ≡ [] → (k : ℕ) (word : Ref) → slice_get words k ≡ Some word → has_name seen word.name ≡ false
fresh seen [] e k word at = absurd (cc)
fresh seen (first ∷ words) e zero word at =
    not-true (has_name seen word.name) (ap (λ (w : Ref). not (has_name seen w.name)) (sym (Some-injective first word at)) ∙ unless_nil (not (has_name seen first.name)) first (nil_left _ (repeated_after (first.name ∷ seen) words) e))
fresh seen (first ∷ words) e (suc k) word at = (or_parts (same_name first.name word.name) _ (fresh (first.name ∷ seen) words (nil_right (unless (not (has_name seen first.name)) first) _ e) k word at)).1

names_differ : (seen : List Name) (words : List Ref) → repeated_after seen words ≡ [] → (i j : ℕ) (first second : Ref) → slice_get words i ≡ Some first → slice_get words j ≡ Some second → first.name ≡ second.name → i ≡ j
names_differ seen [] e i j first second at there same = absurd (cc)
names_differ seen (word ∷ words) e zero zero first second at there same = refl
names_differ seen (word ∷ words) e zero (suc j) first second at there same =
    let new = (or_parts (same_name word.name second.name) _ (fresh (word.name ∷ seen) words (nil_right (unless (not (has_name seen word.name)) word) _ e) j second there)).0 in
    absurd (true≢false (sym (same_as word.name second.name (ap (λ (w : Ref). w.name) (Some-injective word first at) ∙ same)) ∙ new))
names_differ seen (word ∷ words) e (suc i) zero first second at there same =
    let new = (or_parts (same_name word.name first.name) _ (fresh (word.name ∷ seen) words (nil_right (unless (not (has_name seen word.name)) word) _ e) i first at)).0 in
    absurd (true≢false (sym (same_as word.name first.name (ap (λ (w : Ref). w.name) (Some-injective word second there) ∙ sym same)) ∙ new))
names_differ seen (word ∷ words) e (suc i) (suc j) first second at there same = ap suc (names_differ (word.name ∷ seen) words (nil_right (unless (not (has_name seen word.name)) word) _ e) i j first second at there same)

module _ (T : Task) (well : WellFormed T) where
  no_repeats : repeated (action_words T.domain.actions) ≡ []
  unfolding domain_duplicates
  no_repeats = nil_right _ _ (nil_left _ _ (nil_left _ _ well.duplicates))

  actions_differ : (i j : ℕ) (first second : Action) → slice_get T.domain.actions i ≡ Some first → slice_get T.domain.actions j ≡ Some second → first.name.name ≡ second.name.name → i ≡ j
  actions_differ i j first second at there same =
      names_differ [] (action_words T.domain.actions) no_repeats i j first.name second.name (map_at (λ (action : Action). action.name) T.domain.actions i first at) (map_at (λ (action : Action). action.name) T.domain.actions j second there) same

  abbrev step_at : Action → List Name → Step
  step_at action args = record { action = action.name.name; args = args }

  steps_once : AreOnce (steps T)
  unfolding steps
  steps_once = once_flat (steps_of T) T.domain.actions
      (λ i j a b y e f c d.
      let (first, at, is) = in_map (step_at a) (tuples T a.params) c.0 y c.1 in
      let (second, there, same) = in_map (step_at b) (tuples T b.params) d.0 y d.1 in
      actions_differ i j a b e f (ap (λ (step : Step). step.action) (is ∙ sym same)))
      (λ action. once_map (step_at action) (λ x y e. ap (λ (step : Step). step.args) e) (tuples T action.params) (tuples_once T action.params))

  own : (number : ℕ) (step : Step) → HasNumber T step number → IsOwn T step
  unfolding steps action_named
  own number step e =
      let (k, action, at, found) = in_flat (steps_of T) T.domain.actions number step e in
      let (args, there, is) = in_map (step_at action) (tuples T action.params) found.0 step found.1 in
      let name : action.name.name ≡ step.action = ap (λ (step : Step). step.action) is in
      record {
        action = action;
        named = find_first (λ (other : Action). same_name other.name.name step.action) T.domain.actions k action at (same_as _ _ name)
            (λ j other place passes. actions_differ j k other action place at (is_same other.name.name step.action passes ∙ sym name));
        args = ap (are_arguments T action.params) (sym (ap (λ (step : Step). step.args) is)) ∙ tuple_fits T action.params found.0 args there;
      }

  found : (step : Step) → IsOwn T step → (number : ℕ) × HasNumber T step number
  unfolding steps action_named
  found step is =
      let (k, at, passes) = find_found (λ (other : Action). same_name other.name.name step.action) T.domain.actions is.action is.named in
      let args = fit_tuple T is.action.params step.args is.args in
      flat_has (steps_of T) T.domain.actions k is.action step at (args.0, map_at (step_at is.action) (tuples T is.action.params) args.0 step.args args.1 ∙ (λ i. Some (record { action = is_same is.action.name.name step.action passes i; args = step.args })))

  pub steps_have_numbers : HasStepNumbers T
  steps_have_numbers = record { own = own; found = found; one = steps_once }
