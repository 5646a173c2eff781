-- The first action that passes a limit by its numbered trees is the first that passes it by its named ones.
use Rattle.std.proofs.Common.{◌≡◌, ◌∙◌, ℕ, ◌+◌, ◌-◌, ◌*◌, refl, sym, ap, Bool, true, false, not, ◌&&◌, cond, List, [], ◌∷◌, map, sum_by, arith, Option, Some, None, pos}
use Rattle.std.specs.Prelude.{find, int_lt, nat_lt, option_map, if◌then◌else◌}
use Rattle.std.specs.List.{list_all}
use Rattle.std.specs.Option.{option_or}
use Rattle.std.proofs.lemmas.Bool.{and_parts}
use Rattle.std.proofs.lemmas.Bool.Decides.{nat_tests}
use Rattle.p3_base.specs.declared.refusal.Code.{Code}
use Rattle.p3_base.specs.declared.refusal.Code.TheVariants.{CostTooLarge, SplitTooWide}
use Rattle.p3_base.specs.declared.refusal.Refusal.{Refusal}
use Rattle.p3_base.specs.declared.refusal.Role.{Role}
use Rattle.p3_base.specs.declared.refusal.Side.{Side}
use Rattle.p3_formula.specs.declared.target.Weights.{Weights}
use Rattle.p3_limits.proofs.CutLaws.{cut-passes, cut-plus, cut-plus_right, cut-times_right}
use Rattle.p3_limits.specs.Cuts.{cut}
use Rattle.p3_numbers.proofs.GoalLaws.{number-means}
use Rattle.p3_numbers.proofs.KnownLaws.{task-known}
use Rattle.p3_numbers.specs.Effects.{is_known_effect}
use Rattle.p3_numbers.specs.Goals.{goal_of, is_known_goal}
use Rattle.p3_numbers.specs.Known.{IsKnownTask, is_known_action}
use Rattle.p3_numbers.specs.Places.{IsNumbering, are_known_types, words_of}
use Rattle.p3_numbers.specs.Tasks.{IsNumberedTask, numbered_action}
use Rattle.p3_numbers.specs.declared.numbers.Numbers.{Numbers}
use Rattle.p3_numbers.specs.declared.task.NumberedAction.{NumberedAction}
use Rattle.p3_numbers.specs.declared.task.NumberedTask.{NumberedTask}
use Rattle.p3_task.specs.Costs.{increases}
use Rattle.p3_task.specs.Goals.{pref_names}
use Rattle.p3_task.specs.Limits.{action_prefs, cost_bound, greatest_amount, width}
use Rattle.p3_task.specs.Offences.{WellFormed}
use Rattle.p3_task.specs.PreferenceNames.{ordered_names}
use Rattle.p3_task.specs.Refusals.Counts.{action_refusals}
use Rattle.p3_task.specs.Refusals.Places.{first_some, refusal_at_word}
use Rattle.p3_task.specs.Sides.{InDomain, role_of, weight_bound, width_limit}
use Rattle.p3_task.specs.declared.task.Action.{Action}
use Rattle.p3_task.specs.declared.task.Task.{Task}
use Rattle.p3_limits.specs.Bounds.{first_passing, first_past, is_past, measured, share_of, shares}
use Rattle.p3_limits.specs.Weights.{HasWeights}
use Rattle.p3_limits.specs.declared.measure.Measure.{Measure}
use Rattle.p3_limits.specs.declared.measure.Measure.TheVariants.{Cost, Width}
use Rattle.p3_limits.proofs.IncreaseLaws.{effect-greatest}
use Rattle.p3_limits.proofs.NameWeightLaws.{counted_for, bound_is, width_is}
use Rattle.p3_limits.proofs.ShareLaws.{goal-shares}

-- ---- one action

past_bound : (n : ℕ) → nat_lt (weight_bound - 1) n ≡ not (int_lt (pos n) (pos weight_bound))
past_bound n = grind (arith, nat_tests)

module _ (T : Task) (N : Numbers) (ties : IsNumbering T N) (names : N.preferences ≡ ordered_names T) (w : Weights) (has : HasWeights T w) where
  module _ (action : Action) (known : is_known_action N action ≡ true) where
    known_parts : (are_known_types N action.params ≡ true) × (is_known_goal N action.pre.body (words_of action.params) ≡ true) × (is_known_effect N action.effect.body (words_of action.params) ≡ true)
    known_parts =
        let all = and_parts (are_known_types N action.params && is_known_goal N action.pre.body (words_of action.params)) (is_known_effect N action.effect.body (words_of action.params)) known in
        let first = and_parts (are_known_types N action.params) (is_known_goal N action.pre.body (words_of action.params)) all.0 in
        (first.0, first.1, all.1)

    abbrev counted : Measure → ℕ
    counted measure = sum_by (counted_for measure w N) (pref_names (action_prefs T action))

    preferences_sum : (measure : Measure) → shares measure w.by_name N (goal_of N action.pre.body (words_of action.params)) ≡ cut (counted measure)
    preferences_sum measure = goal-shares T N ties measure w.by_name (counted_for measure w N) (λ name. ap (share_of measure w.by_name) (number-means N name)) action.pre.body (words_of action.params) known_parts.1

    abbrev costs : ℕ
    costs = sum_by (greatest_amount T) (increases action.effect.body)

    cost_measured : measured T N w Cost (numbered_action N action) ≡ cut (w.total_cost * costs + counted Cost)
    cost_measured =
        (λ i. cut (cut (w.total_cost * effect-greatest T N action.effect.body (words_of action.params) known_parts.2 i) + preferences_sum Cost i))
        ∙ ap (λ n. cut (n + cut (counted Cost))) (cut-times_right w.total_cost costs)
        ∙ cut-plus (w.total_cost * costs) (cut (counted Cost)) ∙ cut-plus_right (w.total_cost * costs) (counted Cost)

    past_cost : is_past T N w Cost (numbered_action N action) ≡ not (int_lt (cost_bound T action) (pos weight_bound))
    past_cost =
        ap (nat_lt (weight_bound - 1)) cost_measured ∙ cut-passes (weight_bound - 1) (w.total_cost * costs + counted Cost) (omega arith)
        ∙ past_bound (w.total_cost * costs + counted Cost) ∙ ap (λ z. not (int_lt z (pos weight_bound))) (sym (bound_is T N w has names action known_parts.1))

    past_width : is_past T N w Width (numbered_action N action) ≡ nat_lt width_limit (width T action)
    past_width =
        ap (nat_lt width_limit) (preferences_sum Width) ∙ cut-passes width_limit (counted Width) (omega arith)
        ∙ ap (nat_lt width_limit) (sym (width_is T N w has names action known_parts.1))

-- ---- the first action

module _ (N : Numbers) (test : NumberedAction → Bool) (passes : Action → Bool) (code : Code) (role : Role) (same : (action : Action) → is_known_action N action ≡ true → test (numbered_action N action) ≡ passes action) where
  abbrev at_name : Action → Refusal
  at_name action = refusal_at_word code role action.name

  first_found : (actions : List Action) → list_all (is_known_action N) actions ≡ true → first_passing test code role actions (map (numbered_action N) actions) ≡ option_map (λ (action : Action). refusal_at_word code role action.name) (find passes actions)
  first_found [] known = refl
  first_found (action ∷ actions) known =
      let parts = and_parts (is_known_action N action) (list_all (is_known_action N) actions) known in
      by (test (numbered_action N action)) (passes action) (same action parts.0) (first_found actions parts.1)
    where
      by : (t s : Bool) → t ≡ s → first_passing test code role actions (map (numbered_action N) actions) ≡ option_map at_name (find passes actions)
          → (if t then Some (at_name action) else first_passing test code role actions (map (numbered_action N) actions)) ≡ option_map at_name (cond s (Some action) (find passes actions))
      by true true e rest = refl
      by false false e rest = rest
      by true false e rest = absurd (cc)
      by false true e rest = absurd (cc)

or_none : {A : Type 0} (found : Option A) → option_or found None ≡ found
or_none None = refl
or_none (Some x) = refl

module _ (side : Side) (T : Task) (X : NumberedTask) (is : IsNumberedTask T X) (well : WellFormed T) (w : Weights) (has : HasWeights T w) where
  known : IsKnownTask T X.numbers
  known = task-known T X.numbers well is.covers

  abbrev found : Measure → Option Refusal
  found measure = first_past T X.numbers w measure (role_of side InDomain) T.domain.actions X.actions

  refusals_are : option_or (found Cost) (option_or (found Width) None) ≡ first_some (action_refusals side T)
  refusals_are = λ i. option_or (dear i) (option_or (wide i) None)
    where
      dear : found Cost ≡ option_map (λ (action : Action). refusal_at_word CostTooLarge (role_of side InDomain) action.name) (find (λ action. not (int_lt (cost_bound T action) (pos weight_bound))) T.domain.actions)
      dear = ap (first_past T X.numbers w Cost (role_of side InDomain) T.domain.actions) is.actions
          ∙ first_found X.numbers (is_past T X.numbers w Cost) (λ action. not (int_lt (cost_bound T action) (pos weight_bound))) CostTooLarge (role_of side InDomain)
          (λ action of. past_cost T X.numbers is.numbering is.names.preferences w has action of) T.domain.actions known.actions

      wide : found Width ≡ option_map (λ (action : Action). refusal_at_word SplitTooWide (role_of side InDomain) action.name) (find (λ action. nat_lt width_limit (width T action)) T.domain.actions)
      wide = ap (first_past T X.numbers w Width (role_of side InDomain) T.domain.actions) is.actions
          ∙ first_found X.numbers (is_past T X.numbers w Width) (λ action. nat_lt width_limit (width T action)) SplitTooWide (role_of side InDomain)
          (λ action of. past_width T X.numbers is.numbering is.names.preferences w has action of) T.domain.actions known.actions

  pub some_past : (refusal : Refusal) → found Cost ≡ Some refusal → Some refusal ≡ first_some (action_refusals side T)
  some_past refusal e = ap (λ first. option_or first (option_or (found Width) None)) (sym e) ∙ refusals_are

  pub none_past : found Cost ≡ None → found Width ≡ first_some (action_refusals side T)
  none_past e = sym (or_none (found Width)) ∙ ap (λ first. option_or first (option_or (found Width) None)) (sym e) ∙ refusals_are
