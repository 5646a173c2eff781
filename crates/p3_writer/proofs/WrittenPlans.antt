-- The plans of the task that a target is are those of the target.
use Rattle.std.proofs.Common.{◌≡◌, ◌∙◌, ℕ, zero, suc, ◌+◌, ◌*◌, ◌-◌, refl, sym, ap, subst, Bool, true, false, not, ◌&&◌, ◌||◌, List, [], ◌∷◌, ◌++◌, length, map, cond, arith, Option, Some, None, sum_by, pos}
use Rattle.std.specs.Prelude.{◌==◌, ◌^◌, max, fold, slice_index_or, slice_get, flat_map, find, filter_map, option_map, zip, is_some, unwrap_or, if◌then◌else◌, bytes_eq}
use Rattle.std.specs.List.{list_all}
use Rattle.std.specs.Option.{option_and_then}
use Rattle.std.proofs.lemmas.Option.{slice_get-get_or}
use Rattle.std.proofs.Math.Bool.{and-true}
use Rattle.std.proofs.lemmas.Bool.{and_parts, true≢false, eqb-true}
use Rattle.std.proofs.lemmas.List.Folds.{list_all-append}
use Rattle.std.proofs.lemmas.List.Sums.{sum_by-cons}
use Rattle.std.proofs.lemmas.Slice.Eq.{bytes_eq-Decides}
use Rattle.p3_base.specs.Words.{are_different}
use Rattle.p3_task.specs.Names.{Name, same_name, has_name}
use Rattle.p3_task.specs.States as named
use Rattle.p3_task.specs.States.{has_fact, start, initial_fact, same_fact}
use Rattle.p3_task.specs.Costs.{increases, total}
use Rattle.p3_task.specs.Plans as plans
use Rattle.p3_task.specs.Plans.{Plan, action_named, arguments, step_cost, fits, state_after, steps_fit, visited, last_state}
use Rattle.p3_task.specs.Bindings.{are_arguments}
use Rattle.p3_task.specs.Goals.{hard_holds}
use Rattle.p3_task.specs.Constraints.{hard_list}
use Rattle.p3_task.specs.Validity.{Valid, is_valid, is_met, goal_holds}
use Rattle.p3_task.proofs.Computes.{trees_compute}
use Rattle.p3_task.proofs.MeaningLemmas.{hard_modals-Both, increases-All}
use Rattle.p3_task.proofs.PlanLemmas.{fit_from, state_from, steps_fit-walk, last_state-walk}
use Rattle.p3_task.specs.declared.effect.Effect.{Effect}
use Rattle.p3_task.specs.declared.effect.Effect.TheVariants as effect
use Rattle.p3_task.specs.declared.effect.Amount.{Amount}
use Rattle.p3_task.specs.declared.effect.Amount.TheVariants as amount
use Rattle.p3_task.specs.declared.effect.Numeral.{Numeral}
use Rattle.p3_task.specs.declared.task.Action.{Action}
use Rattle.p3_task.specs.declared.task.Step.{Step}
use Rattle.p3_task.specs.declared.task.Task.{Task}
use Rattle.p3_formula.specs.Forms.{State, is_set, truth}
use Rattle.p3_formula.proofs.NextLaws.{length-after}
use Rattle.p3_formula.specs.Targets as target
use Rattle.p3_formula.specs.Targets.{TargetPlan, reaches_goal, target_cost, IsSized, IsWellNamed, is_sized_action}
use Rattle.p3_formula.specs.declared.form.Change.{Change}
use Rattle.p3_formula.specs.declared.form.Form.{Form}
use Rattle.p3_formula.specs.declared.form.Form.TheVariants as form
use Rattle.p3_formula.specs.declared.target.Target.{Target}
use Rattle.p3_formula.specs.declared.target.TargetAction.{TargetAction}
use Rattle.p3_task.specs.Costs.{effect_cost, amount_value, cost_places, amount_numeral, value_numeral, amount_numerals, value_numerals, initial_cost, given_value}
use Rattle.p3_task.specs.Metrics.{cost, value, quantity}
use Rattle.p3_writer.specs.TaskOf as written
use Rattle.p3_writer.specs.TaskOf.{task_of, trees_of, word, literal, under, change_of, increase_of, true_entry}
use Rattle.p3_writer.specs.Written.{bare, names_in}
use Rattle.p3_task.proofs.OnceLemmas.{AreOnce, once_behind}
use Rattle.p3_task.proofs.OnceLemmas.{Some-injective, find_found}
use Rattle.p3_writer.proofs.WrittenForms as forms
use Rattle.p3_writer.proofs.WrittenForms.{atom, IsSame}
use Rattle.p3_writer.proofs.WrittenSteps.{next_same}

-- ---- names that differ stand once

pub has_where : (names : List Name) (name : Name) (k : ℕ) → slice_get names k ≡ Some name → has_name names name ≡ true
has_where [] name k e = absurd (cc)
has_where (other ∷ names) name zero e = ap (λ t. t || has_name names name) ((bytes_eq-Decides other name).1 (Some-injective other name e))
has_where (other ∷ names) name (suc k) e = ap (λ t. same_name other name || t) (has_where names name k e) ∙ or_true (same_name other name)
  where
    or_true : (t : Bool) → (t || true) ≡ true
    or_true true = refl
    or_true false = refl

pub differ_once : (names : List Name) → are_different names ≡ true → AreOnce names
differ_once [] differ = λ i j x e f. absurd (cc)
differ_once (name ∷ names) differ =
    let h = and_parts (not (has_name names name)) _ differ in
    once_behind name names (differ_once names h.1) (λ i x e same. true≢false (sym h.0 ∙ ap not (has_where names name i (e ∙ ap Some (sym same)))))

-- ---- the initial state

no_entry : (bits : List Bool) (names : List Name) (name : Name) → ((k : ℕ) → slice_get names k ≡ Some name → ⊥) → has_fact (filter_map initial_fact (filter_map true_entry (zip bits names))) (record { name = name; args = [] }) ≡ false
no_entry [] names name none = refl
no_entry (bit ∷ bits) [] name none = refl
no_entry (true ∷ bits) (first ∷ names) name none = by (same_name first name) refl (no_entry bits names name (λ k e. none (suc k) e))
  where
    by : (t : Bool) → same_name first name ≡ t → has_fact (filter_map initial_fact (filter_map true_entry (zip bits names))) (record { name = name; args = [] }) ≡ false → ((t && true) || has_fact (filter_map initial_fact (filter_map true_entry (zip bits names))) (record { name = name; args = [] })) ≡ false
    by true e rest = absurd (none 0 (ap Some ((bytes_eq-Decides first name).0 e)))
    by false e rest = rest
no_entry (false ∷ bits) (first ∷ names) name none = no_entry bits names name (λ k e. none (suc k) e)

entry_at : (bits : List Bool) (names : List Name) → AreOnce names → length bits ≡ length names → (k : ℕ) (name : Name) → slice_get names k ≡ Some name
    → has_fact (filter_map initial_fact (filter_map true_entry (zip bits names))) (record { name = name; args = [] }) ≡ is_set bits k
entry_at bits [] once long k name e = absurd (cc)
entry_at [] (first ∷ names) once long k name e = absurd (omega (arith, long))
entry_at (true ∷ bits) (first ∷ names) once long zero name e = ap (λ t. (t && true) || has_fact (filter_map initial_fact (filter_map true_entry (zip bits names))) (record { name = name; args = [] })) ((bytes_eq-Decides first name).1 (Some-injective first name e))
entry_at (false ∷ bits) (first ∷ names) once long zero name e = no_entry bits names name (λ j f. let wrong = once 0 (suc j) name e f in omega (arith, wrong))
entry_at (true ∷ bits) (first ∷ names) once long (suc k) name e =
    by (same_name first name) refl (entry_at bits names (λ i j x f g. let same = once (suc i) (suc j) x f g in omega (arith, same)) (omega (arith, long)) k name e)
  where
    by : (t : Bool) → same_name first name ≡ t → has_fact (filter_map initial_fact (filter_map true_entry (zip bits names))) (record { name = name; args = [] }) ≡ is_set bits k
        → ((t && true) || has_fact (filter_map initial_fact (filter_map true_entry (zip bits names))) (record { name = name; args = [] })) ≡ is_set bits k
    by true f rest = let wrong = once 0 (suc k) name (ap Some ((bytes_eq-Decides first name).0 f)) e in absurd (omega (arith, wrong))
    by false f rest = rest
entry_at (false ∷ bits) (first ∷ names) once long (suc k) name e = entry_at bits names (λ i j x f g. let same = once (suc i) (suc j) x f g in omega (arith, same)) (omega (arith, long)) k name e

-- ---- increases

no_increase : (names : List Name) (tree : Form) (add : Bool) (name : Name) → increases (under names tree (literal add name)) ≡ []
unfolding trees_compute increases
no_increase names form.True true name = refl
no_increase names form.True false name = refl
no_increase names form.False add name = refl
no_increase names (form.Atom a) add name = refl
no_increase names (form.Not' shape part) add name = refl
no_increase names (form.And' shape parts) add name = refl
no_increase names (form.Or' shape parts) add name = refl

changes_increase : (names : List Name) (changes : List Change) (more : List Effect) → flat_map increases (map (change_of names) changes ++ more) ≡ flat_map increases more
changes_increase names [] more = refl
changes_increase names (change ∷ changes) more = λ i. no_increase names change.cond change.add (slice_index_or names change.atom []) i ++ changes_increase names changes more i

abbrev number : ℕ → Numeral
number cost = record { at = 0; len = 0; digits = cost; places = 0 }

abbrev amounts : ℕ → List Amount
amounts cost = if cost == 0 then [] else amount.Number (number cost) ∷ []

pub increases_are : (names : List Name) (changes : List Change) (cost : ℕ) → increases (effect.All (map (change_of names) changes ++ increase_of cost)) ≡ amounts cost
unfolding trees_compute increases
increases_are names changes cost = increases-All (map (change_of names) changes ++ increase_of cost) ∙ changes_increase names changes (increase_of cost) ∙ by (cost == 0)
  where
    by : (t : Bool) → flat_map increases (if t then [] else effect.Cost 0 (amount.Number (number cost)) ∷ []) ≡ (if t then [] else amount.Number (number cost) ∷ [])
    by true = refl
    by false = refl

module _ (X : Target) (sized : IsSized X) (named_well : IsWellNamed X) where
  abbrev U : Task
  U = task_of X

  P : AreOnce X.predicates
  P = differ_once X.predicates named_well.predicates_differ

  begins_same : IsSame X.predicates (start U) X.initial
  unfolding start task_of
  begins_same i low = entry_at X.initial X.predicates P sized.bits i (slice_index_or X.predicates i []) (slice_get-get_or X.predicates i [] low)

  -- ---- steps

  action_is : (name : Name) → action_named U name ≡ option_map (written.action_of X.predicates) (target.action_of X name)
  unfolding action_named task_of
  action_is name = by X.actions
    where
      by : (actions : List TargetAction) → find (λ (action : Action). same_name action.name.name name) (map (written.action_of X.predicates) actions) ≡ option_map (written.action_of X.predicates) (find (λ (action : TargetAction). bytes_eq action.name name) actions)
      by [] = refl
      by (action ∷ actions) = one (bytes_eq action.name name) (by actions)
        where
          one : (t : Bool) → find (λ (action : Action). same_name action.name.name name) (map (written.action_of X.predicates) actions) ≡ option_map (written.action_of X.predicates) (find (λ (action : TargetAction). bytes_eq action.name name) actions)
              → cond t (Some (written.action_of X.predicates action)) (find (λ (action : Action). same_name action.name.name name) (map (written.action_of X.predicates) actions)) ≡ option_map (written.action_of X.predicates) (cond t (Some action) (find (λ (action : TargetAction). bytes_eq action.name name) actions))
          one true rest = refl
          one false rest = rest

  -- ---- costs

  abbrev is_whole : Numeral → Bool
  is_whole numeral = numeral.places == 0

  most_of_whole : (numerals : List Numeral) → list_all is_whole numerals ≡ true → fold max 0 (map (λ (numeral : Numeral). numeral.places) numerals) ≡ 0
  most_of_whole [] h = refl
  most_of_whole (numeral ∷ numerals) h =
      let parts = and_parts (is_whole numeral) _ h in
      (λ i. fold max (max 0 (eqb-true numeral.places 0 parts.0 i)) (map (λ (numeral : Numeral). numeral.places) numerals)) ∙ most_of_whole numerals parts.1

  amounts_whole : (cost : ℕ) → list_all is_whole (filter_map amount_numeral (amounts cost)) ≡ true
  amounts_whole cost = by (cost == 0)
    where
      by : (t : Bool) → list_all is_whole (filter_map amount_numeral (if t then [] else amount.Number (number cost) ∷ [])) ≡ true
      by true = refl
      by false = refl

  actions_whole : (actions : List TargetAction) → list_all is_whole (flat_map (λ (action : Action). filter_map amount_numeral (increases action.effect.body)) (map (written.action_of X.predicates) actions)) ≡ true
  actions_whole [] = refl
  actions_whole (action ∷ actions) =
      list_all-append is_whole (filter_map amount_numeral (increases (written.action_of X.predicates action).effect.body)) _
      ∙ (λ i. list_all is_whole (filter_map amount_numeral (increases_are X.predicates action.effects action.cost i)) && actions_whole actions i)
      ∙ ap (λ t. t && true) (amounts_whole action.cost)

  entries_whole : (bits : List Bool) (names : List Name) → list_all is_whole (filter_map value_numeral (filter_map true_entry (zip bits names))) ≡ true
  entries_whole [] names = refl
  entries_whole (bit ∷ bits) [] = refl
  entries_whole (true ∷ bits) (name ∷ names) = entries_whole bits names
  entries_whole (false ∷ bits) (name ∷ names) = entries_whole bits names

  pub whole : cost_places U ≡ 0
  unfolding cost_places task_of
  whole = most_of_whole (amount_numerals U ++ value_numerals U) (list_all-append is_whole (amount_numerals U) (value_numerals U) ∙ (λ i. actions_whole X.actions i && entries_whole X.initial X.predicates i))

  units_of : (cost : ℕ) → total (map (amount_value U []) (amounts cost)) ≡ Some cost
  units_of cost = by (cost == 0) refl
    where
      by : (t : Bool) → (cost == 0) ≡ t → total (map (amount_value U []) (if t then [] else amount.Number (number cost) ∷ [])) ≡ Some cost
      by true e = ap Some (sym (eqb-true cost 0 e))
      by false e = ap Some ((λ i. cost * 10 ^ (whole i - 0) + 0) ∙ omega arith)

  cost_is : (action : TargetAction) → plans.cost_by U (bare action.name) (written.action_of X.predicates action) ≡ Some action.cost
  unfolding effect_cost
  cost_is action = (λ i. total (map (amount_value U []) (increases_are X.predicates action.effects action.cost i))) ∙ units_of action.cost

  step_cost_is : (name : Name) → step_cost U (bare name) ≡ option_map (λ (action : TargetAction). action.cost) (target.action_of X name)
  unfolding step_cost
  step_cost_is name = ap (option_and_then (plans.cost_by U (bare name))) (action_is name) ∙ by (target.action_of X name)
    where
      by : (o : Option TargetAction) → option_and_then (plans.cost_by U (bare name)) (option_map (written.action_of X.predicates) o) ≡ option_map (λ (action : TargetAction). action.cost) o
      by None = refl
      by (Some action) = cost_is action

  plan_costs : (names : TargetPlan) → sum_by (λ step. unwrap_or (step_cost U step) 0) (map bare names) ≡ sum_by (λ name. target.cost_by (target.action_of X name)) names
  plan_costs [] = refl
  plan_costs (name ∷ names) =
      sum_by-cons (λ step. unwrap_or (step_cost U step) 0) (bare name) (map bare names)
      ∙ (λ i. (ap (λ o. unwrap_or o 0) (step_cost_is name) ∙ one (target.action_of X name)) i + plan_costs names i)
      ∙ sym (sum_by-cons (λ name. target.cost_by (target.action_of X name)) name names)
    where
      one : (o : Option TargetAction) → unwrap_or (option_map (λ (action : TargetAction). action.cost) o) 0 ≡ target.cost_by o
      one None = refl
      one (Some action) = refl

  pub no_initial : initial_cost U ≡ 0
  unfolding given_value task_of
  no_initial = zero_times (10 ^ (cost_places U - 0))
    where
      zero_times : (n : ℕ) → 0 * n ≡ 0
      zero_times n = omega arith

  value_plan : (plan : Plan) → value U plan ≡ pos (cost U plan)
  unfolding value quantity task_of
  value_plan plan = refl

  pub value_is : (names : TargetPlan) → value U (map bare names) ≡ pos (target_cost X names)
  unfolding cost target_cost
  value_is names = value_plan (map bare names) ∙ ap pos ((λ i. no_initial i + plan_costs names i) ∙ omega arith)

  -- ---- validity

  own_action : (name : Name) (action : TargetAction) → target.action_of X name ≡ Some action → is_sized_action (length X.predicates) action ≡ true
  own_action name action e = let (k, at, found) = find_found (λ (action : TargetAction). bytes_eq action.name name) X.actions action e in all_at (is_sized_action (length X.predicates)) X.actions sized.actions k action at
    where
      all_at : (test : TargetAction → Bool) (list : List TargetAction) → list_all test list ≡ true → (k : ℕ) (x : TargetAction) → slice_get list k ≡ Some x → test x ≡ true
      all_at test [] h k x at = absurd (cc)
      all_at test (y ∷ list) h zero x at = ap test (sym (Some-injective y x at)) ∙ (and_parts (test y) _ h).0
      all_at test (y ∷ list) h (suc k) x at = all_at test list (and_parts (test y) _ h).1 k x at

  fits_same : (s : named.State) (b : State) → IsSame X.predicates s b → (name : Name) → fits U s (bare name) ≡ target.fits_by b (target.action_of X name)
  unfolding fits are_arguments
  fits_same s b same name = ap (plans.fits_by U s (bare name)) (action_is name) ∙ by (target.action_of X name) refl
    where
      by : (o : Option TargetAction) → target.action_of X name ≡ o → plans.fits_by U s (bare name) (option_map (written.action_of X.predicates) o) ≡ target.fits_by b o
      by None e = refl
      by (Some action) e =
          (λ i. forms.goal_holds U X.predicates s b same action.pre (and_parts _ _ (own_action name action e)).0 i && ap is_some (cost_is action) i)
          ∙ and-true (truth b action.pre)

  state_same : (s : named.State) (b : State) → IsSame X.predicates s b → length b ≡ length X.predicates → (name : Name) → IsSame X.predicates (state_after U s (bare name)) (target.state_by b (target.action_of X name))
  unfolding state_after
  state_same s b same long name = subst (λ o. IsSame X.predicates (plans.state_by U s (bare name) o) (target.state_by b (target.action_of X name))) (sym (action_is name)) (by (target.action_of X name) refl)
    where
      by : (o : Option TargetAction) → target.action_of X name ≡ o → IsSame X.predicates (plans.state_by U s (bare name) (option_map (written.action_of X.predicates) o)) (target.state_by b o)
      by None e = same
      by (Some action) e = next_same U X.predicates P s b same action.effects action.cost (and_parts _ _ (own_action name action e)).1 long

  still_long : (b : State) (o : Option TargetAction) → length (target.state_by b o) ≡ length b
  still_long b None = refl
  still_long b (Some action) = length-after b action.effects

  walk : (names : TargetPlan) (s : named.State) (b : State) → IsSame X.predicates s b → length b ≡ length X.predicates
      → (fit_from U s (map bare names) && hard_holds U (state_from U s (map bare names)) [] (trees_of X.predicates X.goal).goal) ≡ reaches_goal X b names
  unfolding reaches_goal
  walk [] s b same long = forms.goal_holds U X.predicates s b same X.goal sized.goal
  walk (name ∷ names) s b same long =
      regroup (fits U s (bare name)) _ _
      ∙ (λ i. fits_same s b same name i && walk names (state_after U s (bare name)) (target.state_by b (target.action_of X name)) (state_same s b same long name) (still_long b (target.action_of X name) ∙ long) i)
    where
      regroup : (a b c : Bool) → ((a && b) && c) ≡ (a && (b && c))
      regroup true b c = refl
      regroup false b c = refl

  no_hard : hard_list U ≡ []
  unfolding hard_list task_of
  no_hard = λ i. hard_modals-Both U [] [] i ++ hard_modals-Both U [] [] i

  written_goal : (plan : Plan) → goal_holds U plan ≡ hard_holds U (state_from U (start U) plan) [] (trees_of X.predicates X.goal).goal
  unfolding goal_holds task_of
  written_goal plan = ap (λ s. hard_holds U s [] (trees_of X.predicates X.goal).goal) (last_state-walk U plan)

  pub valid_is : (names : TargetPlan) → is_valid U (map bare names) ≡ reaches_goal X X.initial names
  unfolding is_valid
  valid_is names =
      (λ i. steps_fit-walk U (map bare names) i && written_goal (map bare names) i && list_all (is_met U (map bare names)) (no_hard i))
      ∙ and-true _
      ∙ walk names (start U) X.initial begins_same sized.bits

  -- ---- steps without arguments

  no_arguments : (s : named.State) (step : Step) → fits U s step ≡ true → step ≡ bare step.action
  unfolding fits are_arguments
  no_arguments s step f = by (target.action_of X step.action) (sym (ap (plans.fits_by U s step) (action_is step.action)) ∙ f)
    where
      by : (o : Option TargetAction) → plans.fits_by U s step (option_map (written.action_of X.predicates) o) ≡ true → step ≡ bare step.action
      by None h = absurd (true≢false (sym h))
      by (Some action) h = args step.args (and_parts _ _ (and_parts _ _ h).0).0 refl
        where
          args : (list : List Name) → are_arguments U [] list ≡ true → step.args ≡ list → step ≡ bare step.action
          args [] h e = λ i. record { action = step.action; args = e i }
          args (object ∷ list) h e = absurd (true≢false (sym h))

  all_bare : (plan : Plan) (s : named.State) → fit_from U s plan ≡ true → plan ≡ map bare (names_in plan)
  all_bare [] s f = refl
  all_bare (step ∷ plan) s f = let h = and_parts _ _ f in λ i. no_arguments s step h.0 i ∷ all_bare plan (state_after U s step) h.1 i

  pub bare_steps : (plan : Plan) → Valid U plan → plan ≡ map bare (names_in plan)
  unfolding is_valid
  bare_steps plan valid = all_bare plan (start U) (sym (steps_fit-walk U plan) ∙ (and_parts _ _ (and_parts _ _ valid).0).0)
