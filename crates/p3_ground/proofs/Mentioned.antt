-- The name of each preference of a step, and of each instance of one, is one of the ordered names.
use Rattle.std.proofs.Common.{◌≡◌, ◌∙◌, ◌⊎◌, inl, inr, ⊎_elim, ℕ, zero, suc, refl, sym, ap, Bool, true, false, not, List, [], ◌∷◌, ◌++◌, Option, Some, None, cond, fold}
use Rattle.std.specs.Prelude.{slice_get, filter, flat_map, map, nat_lt}
use Rattle.std.proofs.lemmas.Bool.{true≢false}
use Rattle.std.proofs.lemmas.Slice.Eq.{bytes_eq-Decides}
use mathlib.Core.Former.{Count, one_more}
use Rattle.p3_task.specs.Folds.{fold_constraints, fold_goals, fold_one_constraint, fold_one_goal}
use Rattle.p3_task.specs.Names.{Name, same_name}
use Rattle.p3_task.specs.Types.{once_each}
use Rattle.p3_task.specs.States.{Environment}
use Rattle.p3_task.specs.Bindings.{bind}
use Rattle.p3_task.specs.Constraints.{Instance, at_end, instances, instances_of, instances_of_all, instances_of_one}
use Rattle.p3_task.specs.Goals.{StatePref, prefs, prefs_layer, named}
use Rattle.p3_task.specs.Plans.{action_named, arguments}
use Rattle.p3_task.specs.Metrics.{step_prefs, prefs_by}
use Rattle.p3_task.specs.PreferenceNames.{Named, named_at, named_in_goal, goal_names_layer, constraint_names_layer, named_in_constraint, named_in_domain, named_in_problem, placed, in_text_order, ordered_names}
use Rattle.p3_task.specs.declared.constraint.Constraint.{Constraint, Row_of-Constraint, end_of-Constraint, more_of-Constraint}
use Rattle.p3_task.specs.declared.constraint.Constraint.TheVariants as constraint
use Rattle.p3_task.specs.declared.goal.PreGoal.{PreGoal, Row_of-PreGoal, end_of-PreGoal, more_of-PreGoal}
use Rattle.p3_task.specs.declared.goal.PreGoal.TheVariants as goal
use Rattle.p3_task.specs.declared.term.Ref.{Ref}
use Rattle.p3_task.specs.declared.task.Action.{Action}
use Rattle.p3_task.specs.declared.task.Step.{Step}
use Rattle.p3_task.specs.declared.task.Task.{Task}
use Rattle.p3_task.proofs.OnceLemmas.{Some-injective, find_found, Has, in_append, in_left, in_right, in_flat, in_map, flat_has, map_at}

-- some entry has the name
abbrev HasNamed : List Named → Name → Type 0
HasNamed list name = (entry : Named) × Has list entry × (entry.name ≡ name)

named_left : (list others : List Named) (name : Name) → HasNamed list name → HasNamed (list ++ others) name
named_left list others name (entry, has, is) = (entry, in_left list others has.0 entry has.1, is)

named_right : (list others : List Named) (name : Name) → HasNamed others name → HasNamed (list ++ others) name
named_right list others name (entry, has, is) = (entry, in_right list others entry has, is)

-- ---- in a precondition

module _ (T : Task) (name : Name) where
  -- where a preference of the list has the name, the entry has it
  abbrev AreNamedIn : List StatePref → List Named → Type 0
  AreNamedIn list entries = (i : ℕ) (pref : StatePref) → slice_get list i ≡ Some pref → pref.name ≡ Some name → HasNamed entries name

  soft_named : (at : ℕ) (o : Option Ref) → named o ≡ Some name → HasNamed (named_at at o) name
  soft_named at None e = absurd (cc)
  soft_named at (Some ref) e = (record { at = at; name = ref.name }, (0, refl), Some-injective ref.name name e)

  mutual
    unfolding prefs named_in_goal bind

    prefs_named : (tree : PreGoal) (env : Environment) → AreNamedIn (prefs T env tree) (named_in_goal tree)
    prefs_named (goal.Plain body) env i pref at e = absurd (cc)
    prefs_named (goal.Both' _ parts) env i pref at e = all_named parts env i pref at e
    prefs_named (goal.Each' variables _ body) env i pref at e =
        let (k, inner, here, own) = in_flat (fold_one_goal (prefs_layer T) body) (bind T env variables) i pref at in
        one_named body inner own.0 pref own.1 e
    prefs_named (goal.Soft soft) env zero pref at e = soft_named soft.at soft.name (ap (λ (p : StatePref). p.name) (Some-injective _ pref at) ∙ e)
    prefs_named (goal.Soft soft) env (suc i) pref at e = absurd (cc)

    all_named : {n : Count} (row : Row_of-PreGoal n) (env : Environment) → AreNamedIn (flat_map (λ part. part env) (fold_goals (prefs_layer T) row)) (flat_map (λ part. part) (fold_goals goal_names_layer row))
    all_named end_of-PreGoal env i pref at e = absurd (cc)
    all_named (more_of-PreGoal part rest) env i pref at e =
        ⊎_elim (λ found. named_left (named_in_goal part) (flat_map (λ part. part) (fold_goals goal_names_layer rest)) name (prefs_named part env found.0 pref found.1 e))
        (λ found. named_right (named_in_goal part) (flat_map (λ part. part) (fold_goals goal_names_layer rest)) name (all_named rest env found.0 pref found.1 e))
        (in_append (prefs T env part) (flat_map (λ part. part env) (fold_goals (prefs_layer T) rest)) i pref at)

    one_named : {n : Count} (row : Row_of-PreGoal (one_more n)) (env : Environment) → AreNamedIn (fold_one_goal (prefs_layer T) row env) (fold_one_goal goal_names_layer row)
    one_named (more_of-PreGoal part rest) env i pref at e = prefs_named part env i pref at e

  -- ---- in the domain

  action_prefs_named : (action : Action) → Has T.domain.actions action → (env : Environment) → AreNamedIn (prefs T env action.pre.body) (named_in_domain T.domain)
  action_prefs_named action has env i pref at e =
      let (entry, own, is) = prefs_named action.pre.body env i pref at e in
      named_right (named_in_constraint T.domain.constraints.body) _ name
      (entry, flat_has (λ (other : Action). named_in_goal other.pre.body) T.domain.actions has.0 action entry has.1 own, is)

  step_prefs_named : (step : Step) → AreNamedIn (step_prefs T step) (named_in_domain T.domain)
  unfolding step_prefs action_named
  step_prefs_named step = by (action_named T step.action) refl
    where
      by : (o : Option Action) → action_named T step.action ≡ o → AreNamedIn (prefs_by T step o) (named_in_domain T.domain)
      by None e = λ i pref at same. absurd (cc)
      by (Some action) e = let (k, at, holds) = find_found (λ (other : Action). same_name other.name.name step.action) T.domain.actions action e in action_prefs_named action (k, at) (arguments action step)

  -- ---- in constraints

  -- where an instance of the list has the name, the entry has it
  abbrev AreInstancesIn : List Instance → List Named → Type 0
  AreInstancesIn list entries = (i : ℕ) (instance : Instance) → slice_get list i ≡ Some instance → instance.name ≡ Some name → HasNamed entries name

  mutual
    unfolding instances_of instances_of_all instances_of_one named_in_constraint

    instances_named : (tree : Constraint) (env : Environment) → AreInstancesIn (instances_of T tree env) (named_in_constraint tree)
    instances_named (constraint.Both' _ parts) env i instance at e = all_instances_named parts env i instance at e
    instances_named (constraint.Each' variables _ body) env i instance at e =
        let (k, inner, here, own) = in_flat (instances_of_one T body) (bind T env variables) i instance at in
        one_instances_named body inner own.0 instance own.1 e
    instances_named (constraint.Single modal) env i instance at e = absurd (cc)
    instances_named (constraint.Soft' at own _ body) env zero instance here e =
        named_left (named_at at own) (fold_one_constraint constraint_names_layer body) name
        (soft_named at own (ap (λ (other : Instance). other.name) (Some-injective _ instance here) ∙ e))
    instances_named (constraint.Soft' at own _ body) env (suc i) instance here e = absurd (cc)

    all_instances_named : {n : Count} (row : Row_of-Constraint n) (env : Environment) → AreInstancesIn (instances_of_all T row env) (flat_map (λ part. part) (fold_constraints constraint_names_layer row))
    all_instances_named end_of-Constraint env i instance at e = absurd (cc)
    all_instances_named (more_of-Constraint part rest) env i instance at e =
        ⊎_elim (λ found. named_left (named_in_constraint part) (flat_map (λ part. part) (fold_constraints constraint_names_layer rest)) name (instances_named part env found.0 instance found.1 e))
        (λ found. named_right (named_in_constraint part) (flat_map (λ part. part) (fold_constraints constraint_names_layer rest)) name (all_instances_named rest env found.0 instance found.1 e))
        (in_append (instances_of T part env) (instances_of_all T rest env) i instance at)

    one_instances_named : {n : Count} (row : Row_of-Constraint (one_more n)) (env : Environment) → AreInstancesIn (instances_of_one T row env) (fold_one_constraint constraint_names_layer row)
    one_instances_named (more_of-Constraint part rest) env i instance at e = instances_named part env i instance at e

  goal_instances_named : AreInstancesIn (map at_end (prefs T [] T.problem.goal.body)) (named_in_goal T.problem.goal.body)
  goal_instances_named i instance at e =
      let (pref, here, is) = in_map at_end (prefs T [] T.problem.goal.body) i instance at in
      prefs_named T.problem.goal.body [] i pref here (ap (λ (other : Instance). other.name) is ∙ e)

  -- the name is in the domain, or in the problem
  task_instances_named : (i : ℕ) (instance : Instance) → slice_get (instances T) i ≡ Some instance → instance.name ≡ Some name
      → HasNamed (named_in_domain T.domain) name ⊎ HasNamed (named_in_problem T.problem) name
  unfolding instances
  task_instances_named i instance at e =
      let own = instances_of T T.problem.constraints.body [] in
      let goals = map at_end (prefs T [] T.problem.goal.body) in
      ⊎_elim (λ found. inl (named_left (named_in_constraint T.domain.constraints.body) _ name (instances_named T.domain.constraints.body [] found.0 instance found.1 e)))
      (λ found. inr
      (⊎_elim (λ has. named_left (named_in_constraint T.problem.constraints.body) (named_in_goal T.problem.goal.body) name (instances_named T.problem.constraints.body [] has.0 instance has.1 e))
      (λ has. named_right (named_in_constraint T.problem.constraints.body) (named_in_goal T.problem.goal.body) name (goal_instances_named has.0 instance has.1 e))
      (in_append own goals found.0 instance found.1)))
      (in_append (instances_of T T.domain.constraints.body []) (own ++ goals) i instance at)

-- ---- in the order of the text

placed_has : (entry : Named) (sorted : List Named) → Has (placed entry sorted) entry
placed_has entry [] = (0, refl)
placed_has entry (first ∷ others) = by (nat_lt entry.at first.at) (placed_has entry others)
  where
    by : (t : Bool) → Has (placed entry others) entry → Has (cond t (entry ∷ first ∷ others) (first ∷ placed entry others)) entry
    by true found = (0, refl)
    by false found = (suc found.0, found.1)

placed_keeps : (entry : Named) (sorted : List Named) (k : ℕ) (other : Named) → slice_get sorted k ≡ Some other → Has (placed entry sorted) other
placed_keeps entry [] k other at = absurd (cc)
placed_keeps entry (first ∷ others) k other at = by (nat_lt entry.at first.at) k at (placed_keeps entry others)
  where
    by : (t : Bool) (k : ℕ) → slice_get (first ∷ others) k ≡ Some other → ((k : ℕ) (kept : Named) → slice_get others k ≡ Some kept → Has (placed entry others) kept)
        → Has (cond t (entry ∷ first ∷ others) (first ∷ placed entry others)) other
    by true k at keeps = (suc k, at)
    by false zero at keeps = (0, at)
    by false (suc k) at keeps = let found = keeps k other at in (suc found.0, found.1)

abbrev sorted_from : List Named → List Named → List Named
sorted_from sorted list = fold (λ sorted entry. placed entry sorted) sorted list

sorted_has : (list sorted : List Named) (entry : Named) → Has sorted entry ⊎ Has list entry → Has (sorted_from sorted list) entry
sorted_has [] sorted entry (inl found) = found
sorted_has [] sorted entry (inr found) = absurd (let (k, at) = found in (cc))
sorted_has (first ∷ list) sorted entry (inl found) = sorted_has list (placed first sorted) entry (inl (placed_keeps first sorted found.0 entry found.1))
sorted_has (first ∷ list) sorted entry (inr (zero, at)) = sorted_has list (placed first sorted) entry (inl (let has = placed_has first sorted in (has.0, has.1 ∙ at)))
sorted_has (first ∷ list) sorted entry (inr (suc k, at)) = sorted_has list (placed first sorted) entry (inr (k, at))

text_order_has : (list : List Named) (name : Name) → HasNamed list name → Has (in_text_order list) name
text_order_has list name (entry, has, is) =
    let found = sorted_has list [] entry (inr has) in
    (found.0, map_at (λ (named : Named). named.name) (sorted_from [] list) found.0 entry found.1 ∙ ap Some is)

-- ---- each once

filter_has : {A : Type 0} (p : A → Bool) (xs : List A) (k : ℕ) (x : A) → slice_get xs k ≡ Some x → p x ≡ true → Has (filter p xs) x
filter_has p [] k x at passes = absurd (cc)
filter_has {A = A} p (y ∷ xs) k x at passes = by (p y) refl k at (filter_has p xs)
  where
    by : (t : Bool) → p y ≡ t → (k : ℕ) → slice_get (y ∷ xs) k ≡ Some x → ((k : ℕ) (x : A) → slice_get xs k ≡ Some x → p x ≡ true → Has (filter p xs) x) → Has (cond t (y ∷ filter p xs) (filter p xs)) x
    by true holds zero at rest = (0, at)
    by true holds (suc k) at rest = let found = rest k x at passes in (suc found.0, found.1)
    by false fails zero at rest = absurd (true≢false (sym passes ∙ ap p (sym (Some-injective y x at)) ∙ fails))
    by false fails (suc k) at rest = rest k x at passes

once_has : (names : List Name) (k : ℕ) (name : Name) → slice_get names k ≡ Some name → Has (once_each names) name
once_has [] k name at = absurd (cc)
once_has (first ∷ names) zero name at = (0, at)
once_has (first ∷ names) (suc k) name at = by (same_name name first) refl (once_has names k name at)
  where
    by : (t : Bool) → same_name name first ≡ t → Has (once_each names) name → Has (once_each (first ∷ names)) name
    by true same rest = (0, ap Some (sym ((bytes_eq-Decides name first).0 same)))
    by false apart rest = let found = filter_has (λ other. not (same_name other first)) (once_each names) rest.0 name rest.1 (ap not apart) in (suc found.0, found.1)

-- ---- the laws

pub step_name_is_ordered : (T : Task) (step : Step) (i : ℕ) (pref : StatePref) (name : Name) → slice_get (step_prefs T step) i ≡ Some pref → pref.name ≡ Some name → Has (ordered_names T) name
unfolding ordered_names
step_name_is_ordered T step i pref name at e =
    let found = text_order_has (named_in_domain T.domain) name (step_prefs_named T name step i pref at e) in
    let has = in_left (in_text_order (named_in_domain T.domain)) (in_text_order (named_in_problem T.problem)) found.0 name found.1 in
    once_has _ has.0 name has.1

pub instance_name_is_ordered : (T : Task) (i : ℕ) (instance : Instance) (name : Name) → slice_get (instances T) i ≡ Some instance → instance.name ≡ Some name → Has (ordered_names T) name
unfolding ordered_names
instance_name_is_ordered T i instance name at e =
    let first = in_text_order (named_in_domain T.domain) in
    let second = in_text_order (named_in_problem T.problem) in
    let has = ⊎_elim (λ found. let here = text_order_has (named_in_domain T.domain) name found in in_left first second here.0 name here.1)
    (λ found. in_right first second name (text_order_has (named_in_problem T.problem) name found))
    (task_instances_named T name i instance at e) in
    once_has _ has.0 name has.1
