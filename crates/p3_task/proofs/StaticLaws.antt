-- What no effect changes is in every reached state as at the start.
use Rattle.std.proofs.Common.{◌≡◌, ◌∙◌, Bool, true, false, not, ◌&&◌, ◌||◌, List, [], ◌∷◌, ◌++◌, Option, Some, None, refl, sym, ap, true≢false}
use Rattle.std.specs.Prelude.{flat_map, find, cond}
use Rattle.std.proofs.lemmas.List.Folds.{list_any-append}
use Rattle.std.proofs.lemmas.Bool.{or_left, or_right}
use Rattle.std.proofs.lemmas.Slice.Eq.{bytes_eq-Decides}
use mathlib.Core.Former.{Count}
use Rattle.p3_task.specs.Folds.{fold_effect, fold_effects}
use Rattle.p3_task.specs.Names.{Name, same_name, has_name}
use Rattle.p3_task.specs.States.{State, Environment, same_fact, has_fact, fact_of, start}
use Rattle.p3_task.specs.Bindings.{bind}
use Rattle.p3_task.specs.Formulas.{holds}
use Rattle.p3_task.specs.Effects.{literals_layer, adds, dels, next}
use Rattle.p3_task.specs.Plans.{state_by, Plan, Reached, action_named, arguments, state_after}
use Rattle.p3_task.proofs.StateLemmas.{has_fact-next, same_fact-Decides}
use Rattle.p3_task.proofs.PlanLemmas.{state_from, last_state-walk}
use Rattle.p3_task.specs.declared.state.Fact.{Fact}
use Rattle.p3_task.specs.declared.effect.Effect.{Effect, Row_of-Effect, end_of-Effect, more_of-Effect}
use Rattle.p3_task.specs.declared.effect.Effect.TheVariants.{Add, Del, All', Each', If', Cost}
use Rattle.p3_task.specs.declared.task.Action.{Action}
use Rattle.p3_task.specs.declared.task.Step.{Step}
use Rattle.p3_task.specs.declared.task.Task.{Task}
use Rattle.p3_task.specs.Static.{changed, changed_layer, changed_names, is_static, IsSettled}

or_true : (first second : Bool) → (first || second) ≡ true → (goal : Bool) → (first ≡ true → goal ≡ true) → (second ≡ true → goal ≡ true) → goal ≡ true
or_true true second e goal left right = left refl
or_true false second e goal left right = right e

module _ (fact : Fact) where
  -- a fact among literals has one of the names
  abbrev IsNamed : List Fact → List Name → Type 0
  IsNamed facts names = has_fact facts fact ≡ true → has_name names fact.name ≡ true

  named-append : (facts more : List Fact) (names others : List Name) → IsNamed facts names → IsNamed more others → IsNamed (facts ++ more) (names ++ others)
  named-append facts more names others first second among =
      list_any-append (λ other. same_name other fact.name) names others
      ∙ or_true (has_fact facts fact) (has_fact more fact) (sym (list_any-append (λ other. same_fact other fact) facts more) ∙ among) (has_name names fact.name || has_name others fact.name)
      (λ e. or_left (has_name names fact.name) (has_name others fact.name) (first e)) (λ e. or_right (has_name names fact.name) (has_name others fact.name) (second e))

  named-each : (body : Environment → List Fact) (envs : List Environment) (names : List Name) → ((env : Environment) → IsNamed (body env) names) → IsNamed (flat_map body envs) names
  named-each body [] names each among = absurd (cc)
  named-each body (env ∷ envs) names each among =
      or_true (has_fact (body env) fact) (has_fact (flat_map body envs) fact) (sym (list_any-append (λ other. same_fact other fact) (body env) (flat_map body envs)) ∙ among) (has_name names fact.name)
      (λ e. each env e) (λ e. named-each body envs names each e)

  named-one : (other : Fact) → IsNamed (other ∷ []) (other.name ∷ [])
  named-one other among =
      let same : other ≡ fact = (same_fact-Decides other fact).0 (or_true (same_fact other fact) false among (same_fact other fact) (λ e. e) (λ e. absurd (cc))) in
      or_left (same_name other.name fact.name) false ((bytes_eq-Decides other.name fact.name).1 (ap (λ f. f.name) same))

  named-if : (met : Bool) (facts : List Fact) (names : List Name) → IsNamed facts names → IsNamed (cond met facts []) names
  named-if true facts names named = named
  named-if false facts names named = λ e. absurd (cc)

  -- a kind of literals: those of the one kind stand as themselves, or not at all
  module _ (T : Task) (s : State) (added deleted : Fact → List Fact) (adding : (other : Fact) → IsNamed (added other) (other.name ∷ [])) (deleting : (other : Fact) → IsNamed (deleted other) (other.name ∷ [])) where
    mutual
      unfolding changed

      literals-named : (effect : Effect) (env : Environment) → IsNamed (fold_effect (literals_layer added deleted T s) effect env) (changed effect)
      literals-named (Add pred args) env = adding (fact_of env pred args)
      literals-named (Del pred args) env = deleting (fact_of env pred args)
      literals-named (All' _ parts) env = all-named parts env
      literals-named (Each' variables _ (more_of-Effect body _)) env = named-each (fold_effect (literals_layer added deleted T s) body) (bind T env variables) (changed body) (literals-named body)
      literals-named (If' condition _ (more_of-Effect body _)) env = named-if (holds T s env condition) (fold_effect (literals_layer added deleted T s) body env) (changed body) (literals-named body env)
      literals-named (Cost at amount) env = λ e. absurd (cc)

      all-named : {n : Count} (parts : Row_of-Effect n) (env : Environment) → IsNamed (flat_map (λ part. part env) (fold_effects (literals_layer added deleted T s) parts)) (flat_map (λ part. part) (fold_effects changed_layer parts))
      all-named end_of-Effect env = λ e. absurd (cc)
      all-named (more_of-Effect part rest) env =
          named-append (fold_effect (literals_layer added deleted T s) part env) (flat_map (λ part. part env) (fold_effects (literals_layer added deleted T s) rest)) (changed part) (flat_map (λ part. part) (fold_effects changed_layer rest))
          (literals-named part env) (all-named rest env)

  module _ (T : Task) where
    adds-named : (s : State) (effect : Effect) (env : Environment) → IsNamed (adds T s env effect) (changed effect)
    unfolding adds
    adds-named s effect env = literals-named T s (λ other. other ∷ []) (λ other. []) named-one (λ other among. absurd (cc)) effect env

    dels-named : (s : State) (effect : Effect) (env : Environment) → IsNamed (dels T s env effect) (changed effect)
    unfolding dels
    dels-named s effect env = literals-named T s (λ other. []) (λ other. other ∷ []) (λ other among. absurd (cc)) named-one effect env

    named-action : (actions : List Action) (test : Action → Bool) (action : Action) → find test actions ≡ Some action → has_name (changed action.effect.body) fact.name ≡ true → has_name (flat_map (λ action. changed action.effect.body) actions) fact.name ≡ true
    named-action [] test action found named = absurd (cc)
    named-action (first ∷ actions) test action found named =
        list_any-append (λ other. same_name other fact.name) (changed first.effect.body) (flat_map (λ action. changed action.effect.body) actions)
        ∙ by (test first) found (λ later. named-action actions test action later named)
      where
        by : (here : Bool) → cond here (Some first) (find test actions) ≡ Some action → (find test actions ≡ Some action → has_name (flat_map (λ action. changed action.effect.body) actions) fact.name ≡ true)
            → (has_name (changed first.effect.body) fact.name || has_name (flat_map (λ action. changed action.effect.body) actions) fact.name) ≡ true
        by true e later = let same : first ≡ action = cc in or_left (has_name (changed first.effect.body) fact.name) _ (ap (λ a. has_name (changed a.effect.body) fact.name) same ∙ named)
        by false e later = or_right (has_name (changed first.effect.body) fact.name) _ (later e)

    false_unless : (answer static : Bool) (names : Bool) → (answer ≡ true → names ≡ true) → not names ≡ true → answer ≡ false
    false_unless true static true gives is = absurd (cc)
    false_unless true static false gives is = absurd (true≢false (sym (gives refl)))
    false_unless false static names gives is = refl

    kept-by : (s : State) (env : Environment) (effect : Effect) → (has_name (changed effect) fact.name ≡ true → has_name (changed_names T) fact.name ≡ true) → is_static T fact.name ≡ true → has_fact (next T s env effect) fact ≡ has_fact s fact
    kept-by s env effect own static =
        let none_added = false_unless (has_fact (adds T s env effect) fact) true (has_name (changed_names T) fact.name) (λ e. own (adds-named s effect env e)) static in
        let none_deleted = false_unless (has_fact (dels T s env effect) fact) true (has_name (changed_names T) fact.name) (λ e. own (dels-named s effect env e)) static in
        has_fact-next T s env effect fact ∙ (λ i. none_added i || (has_fact s fact && not (none_deleted i))) ∙ and_true (has_fact s fact)
      where
        and_true : (b : Bool) → (false || (b && not false)) ≡ b
        and_true true = refl
        and_true false = refl

    kept-step : (s : State) (step : Step) → is_static T fact.name ≡ true → has_fact (state_after T s step) fact ≡ has_fact s fact
    unfolding state_after action_named
    kept-step s step static = by (action_named T step.action) refl
      where
        by : (action : Option Action) → action_named T step.action ≡ action → has_fact (state_by T s step action) fact ≡ has_fact s fact
        by None e = refl
        by (Some action) e = kept-by s (arguments action step) action.effect.body (named-action T.domain.actions (λ action. same_name action.name.name step.action) action e) static

    kept-plan : (s : State) (plan : Plan) → is_static T fact.name ≡ true → has_fact (state_from T s plan) fact ≡ has_fact s fact
    kept-plan s [] static = refl
    kept-plan s (step ∷ plan) static = kept-plan (state_after T s step) plan static ∙ kept-step s step static

pub settled-reached : (T : Task) (s : State) → Reached T s → IsSettled T s
settled-reached T s reached fact static = reached.last fact ∙ ap (λ last. has_fact last fact) (last_state-walk T reached.plan) ∙ kept-plan fact T (start T) reached.plan static
