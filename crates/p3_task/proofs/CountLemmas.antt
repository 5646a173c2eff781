-- A `forall` outside a preference counts once for each binding, and one inside counts once.
use Rattle.std.proofs.Common.{◌≡◌, ℕ, ◌+◌, refl, sym, ◌∙◌, Bool, true, false, not, ◌&&◌, cond, List, [], ◌∷◌, Some}
use Rattle.std.specs.Prelude.{flat_map, count_by}
use Rattle.std.proofs.lemmas.List.Sums.{sum_by-cons}
use Rattle.std.proofs.lemmas.Slice.Eq.{bytes_eq-Decides}
use Rattle.p3_task.specs.Names.{Name}
use Rattle.p3_task.specs.States.{State, Environment}
use Rattle.p3_task.specs.Bindings.{bind}
use Rattle.p3_task.specs.Formulas.{holds}
use Rattle.p3_task.specs.Goals.{StatePref, prefs}
use Rattle.p3_task.specs.Constraints.{Instance, sat, instances_of}
use Rattle.p3_task.specs.Metrics.{is_called}
use Rattle.p3_task.specs.Laws.{StateCounts, TrajectoryCounts, one_unless}
use Rattle.p3_task.proofs.Computes.{trees_compute}
use Rattle.p3_task.specs.declared.term.Ref.{Ref}
use Rattle.p3_task.specs.declared.term.Typed.{Typed}
use Rattle.p3_task.specs.declared.formula.Formula.{Formula, Forall}
use Rattle.p3_task.specs.declared.constraint.Constraint.{Constraint}
use Rattle.p3_task.specs.declared.constraint.Constraint.TheVariants as constraint
use Rattle.p3_task.specs.declared.task.Task.{Task}

called_itself : (name : Name) → is_called name (Some name) ≡ true
called_itself name = (bytes_eq-Decides name name).1 refl

-- one item for each, counted where the test passes
count_each : {X Y : Type 0} (item : X → Y) (counts : Y → Bool) (test : X → Bool) → ((x : X) → counts (item x) ≡ test x) → (xs : List X) → count_by counts (flat_map (λ x. item x ∷ []) xs) ≡ count_by test xs
count_each item counts test same [] = refl
count_each item counts test same (x ∷ xs) =
    sum_by-cons (λ y. cond (counts y) 1 0) (item x) (flat_map (λ x. item x ∷ []) xs)
    ∙ (λ i. cond (same x i) 1 0 + count_each item counts test same xs i)
    ∙ sym (sum_by-cons (λ y. cond (test y) 1 0) x xs)

-- of one item
count_one : (called passes : Bool) → called ≡ true → 0 + cond (called && not passes) 1 0 ≡ one_unless passes
count_one true true e = refl
count_one true false e = refl
count_one false passes e = absurd (cc)

and_true : (called test : Bool) → called ≡ true → (called && test) ≡ test
and_true true test e = refl
and_true false test e = absurd (cc)

pub state_counts : (T : Task) (s : State) (env : Environment) (variables : List Typed) (at : ℕ) (name : Ref) (body : Formula) → StateCounts T s env variables at name body
unfolding trees_compute prefs
state_counts T s env variables at name body = record {
  outside = count_each (λ inner. record { at = at; name = Some name.name; body = body; env = inner }) (λ (pref : StatePref). is_called name.name pref.name && not (holds T s pref.env pref.body)) (λ inner. not (holds T s inner body)) (λ inner. and_true _ _ (called_itself name.name)) (bind T env variables);
  inside = count_one (is_called name.name (Some name.name)) (holds T s env (Forall variables body)) (called_itself name.name);
}

pub trajectory_counts : (T : Task) (W : List State) (env : Environment) (variables : List Typed) (at : ℕ) (name : Ref) (body : Constraint) → TrajectoryCounts T W env variables at name body
unfolding trees_compute instances_of
trajectory_counts T W env variables at name body = record {
  outside = count_each (λ inner. record { at = at; name = Some name.name; body = body; env = inner }) (λ (instance : Instance). is_called name.name instance.name && not (sat T W instance.env instance.body)) (λ inner. not (sat T W inner body)) (λ inner. and_true _ _ (called_itself name.name)) (bind T env variables);
  inside = count_one (is_called name.name (Some name.name)) (sat T W env (constraint.Each variables body)) (called_itself name.name);
}
