-- What a well-formed task is refused for, stage by stage, and what is so where nothing is refused.
use Rattle.std.proofs.Common.{◌≡◌, ◌∙◌, ℕ, zero, suc, ◌+◌, ◌≤◌, refl, sym, ap, nat_lt, Bool, true, false, not, List, [], ◌∷◌, ◌++◌, map, length, find, slice_get, option_map, Option, Some, None, arith, pos, cond}
use Rattle.std.specs.Prelude.{IsTrue, codes, flat_map, int_lt, is_none}
use Rattle.std.specs.Option.{option_or}
use Rattle.std.proofs.lemmas.Bool.{ltb-false, not-false}
use Rattle.std.proofs.lemmas.List.{length-append, length-map}
use Rattle.p3_base.specs.declared.refusal.Code.{Code}
use Rattle.p3_base.specs.declared.refusal.Code.TheVariants.{CostTooLarge, SplitTooWide}
use Rattle.p3_base.specs.declared.refusal.Side.{Side}
use Rattle.p3_task.specs.Constraints.{domain_instances, instances, problem_instances}
use Rattle.p3_task.specs.FirstOffence.{Offence, first_offence, least_word}
use Rattle.p3_task.specs.Limits.{constraint_size, cost_bound, effect_size, goal_size, width}
use Rattle.p3_task.specs.Names.{Name, same_name}
use Rattle.p3_task.specs.Offences.{WellFormed}
use Rattle.p3_task.specs.Plans.{action_named}
use Rattle.p3_task.specs.Refusals.Counts.{action_refusals, first_action, large_action_parts, large_domain_parts, large_part, preference_word, preference_words, size_refusals, too_dear, too_large, too_many_preferences, too_wide}
use Rattle.p3_task.specs.Refusals.First.{refusal_of, task_refusal}
use Rattle.p3_task.specs.Refusals.Metric.{metric_refusals}
use Rattle.p3_task.specs.Refusals.Places.{first_some, word_at}
use Rattle.p3_task.specs.Sides.{InDomain, InProblem, instance_limit, size_limit, weight_bound, width_limit}
use Rattle.p3_task.specs.declared.term.Ref.{Ref}
use Rattle.p3_task.specs.declared.task.Action.{Action}
use Rattle.p3_task.specs.declared.task.Task.{Task}
use Rattle.p3_task.proofs.OffenceLemmas.{well_formed_where_no_offence}
use Rattle.p3_task.proofs.OnceLemmas.{Some-injective, find_found, nil_left, nil_right}
use Rattle.p3_types.specs.Tables.{is_well_formed}
use Rattle.p3_ground.specs.Whole as whole
use Rattle.p3_ground.specs.declared.error.GroundFail.{GroundFail}
use Rattle.p3_ground.specs.declared.error.GroundFail.TheVariants as grounding
use Rattle.p3_metric.specs.Refused.{IsRefusal}
use Rattle.p3_metric.specs.declared.error.MetricFail.{MetricFail}
use Rattle.p3_metric.specs.declared.error.MetricFail.TheVariants as metric
use Rattle.p3_eval.specs.Accepted.{IsFailOf, is_accepted}
use Rattle.p3_eval.specs.Failing.{fail_of_ground, fail_of_metric}

-- ---- stage by stage

first_of_both : {A : Type 0} (xs ys : List (Option A)) → first_some (xs ++ ys) ≡ option_or (first_some xs) (first_some ys)
first_of_both [] ys = refl
first_of_both (None ∷ xs) ys = first_of_both xs ys
first_of_both (Some x ∷ xs) ys = refl

behind_offences : (side : Side) (T : Task) → WellFormed T → task_refusal side T ≡ first_some (metric_refusals side T ++ size_refusals side T ++ action_refusals side T)
unfolding task_refusal
behind_offences side T well = ap (λ (o : Option Offence). first_some (option_map (refusal_of side) o ∷ metric_refusals side T ++ size_refusals side T ++ action_refusals side T)) ((well_formed_where_no_offence T).0 well)

-- the metric comes first, then the sizes, and then the actions
stages : (side : Side) (T : Task) → WellFormed T → task_refusal side T ≡ option_or (option_or (first_some (metric_refusals side T)) (first_some (size_refusals side T))) (first_some (action_refusals side T))
stages side T well =
    behind_offences side T well
    ∙ first_of_both (metric_refusals side T ++ size_refusals side T) (action_refusals side T)
    ∙ ap (λ o. option_or o (first_some (action_refusals side T))) (first_of_both (metric_refusals side T) (size_refusals side T))

-- ---- where nothing is refused

pub unmapped : {A B : Type 0} (f : A → B) (o : Option A) → option_map f o ≡ None → o ≡ None
unmapped f None e = refl
unmapped f (Some x) e = absurd (cc)

none_passes : {A : Type 0} (test : A → Bool) (xs : List A) → find test xs ≡ None → (k : ℕ) (x : A) → slice_get xs k ≡ Some x → test x ≡ false
none_passes test [] e k x at = absurd (cc)
none_passes {A = A} test (y ∷ xs) e k x at = by (test y) refl e k at (none_passes test xs)
  where
    by : (t : Bool) → test y ≡ t → cond t (Some y) (find test xs) ≡ None → (k : ℕ) → slice_get (y ∷ xs) k ≡ Some x → (find test xs ≡ None → (k : ℕ) (x : A) → slice_get xs k ≡ Some x → test x ≡ false) → test x ≡ false
    by true holds e k at rest = absurd (cc)
    by false fails e zero at rest = ap test (sym (Some-injective y x at)) ∙ fails
    by false fails e (suc k) at rest = rest e k x at

none_past : {A : Type 0} (xs : List A) (n : ℕ) → slice_get xs n ≡ None → length xs ≤ n
none_past [] n e = omega arith
none_past (x ∷ xs) zero e = absurd (cc)
none_past (x ∷ xs) (suc n) e = let rest = none_past xs n e in omega (arith, rest)

pub each_none : {A : Type 0} (all : List (Option A)) → first_some all ≡ None → (k : ℕ) (o : Option A) → slice_get all k ≡ Some o → o ≡ None
each_none [] none k o at = absurd (cc)
each_none (None ∷ all) none zero o at = sym (Some-injective None o at)
each_none (None ∷ all) none (suc k) o at = each_none all none k o at
each_none (Some x ∷ all) none k o at = absurd (cc)

none_of_both : {A : Type 0} (xs ys : List (Option A)) → first_some (xs ++ ys) ≡ None → (first_some xs ≡ None) × (first_some ys ≡ None)
none_of_both [] ys none = (refl, none)
none_of_both (None ∷ xs) ys none = none_of_both xs ys none
none_of_both (Some x ∷ xs) ys none = absurd (cc)

none_of_any : {A B : Type 0} (f : A → List B) (xs : List A) → flat_map f xs ≡ [] → (k : ℕ) (x : A) → slice_get xs k ≡ Some x → f x ≡ []
none_of_any f [] none k x at = absurd (cc)
none_of_any f (y ∷ xs) none zero x at = ap f (sym (Some-injective y x at)) ∙ nil_left (f y) (flat_map f xs) none
none_of_any f (y ∷ xs) none (suc k) x at = none_of_any f xs (nil_right (f y) (flat_map f xs) none) k x at

no_word : (words : List Ref) → least_word words ≡ None → words ≡ []
no_word [] none = refl
no_word (word ∷ words) none = absurd (cc)

not_large : (side : Side) (keyword : List ℕ) (at size : ℕ) → large_part side keyword at size ≡ [] → size ≤ size_limit side
not_large side keyword at size none = by (nat_lt (size_limit side) size) refl none
  where
    by : (t : Bool) → nat_lt (size_limit side) size ≡ t → cond t (word_at keyword at ∷ []) [] ≡ [] → size ≤ size_limit side
    by true e none = absurd (cc)
    by false e none = let h = ltb-false (size_limit side) size e in omega (arith, h)

module _ (side : Side) (T : Task) (well : WellFormed T) (none : task_refusal side T ≡ None) where
  parts : (first_some (metric_refusals side T ++ size_refusals side T) ≡ None) × (first_some (action_refusals side T) ≡ None)
  parts = none_of_both (metric_refusals side T ++ size_refusals side T) (action_refusals side T) (sym (behind_offences side T well) ∙ none)

  pub no_metric : first_some (metric_refusals side T) ≡ None
  no_metric = (none_of_both (metric_refusals side T) (size_refusals side T) parts.0).0

  pub no_size : first_some (size_refusals side T) ≡ None
  no_size = (none_of_both (metric_refusals side T) (size_refusals side T) parts.0).1

  pub few_instances : length (instances T) ≤ instance_limit
  unfolding instances
  few_instances = let few = few_words in omega (arith, few, as_many)
    where
      few_words : length (preference_words side T) ≤ instance_limit
      few_words = none_past (preference_words side T) instance_limit (each_none (size_refusals side T) no_size 3 (too_many_preferences side T) refl)

      as_many : length (preference_words side T) ≡ length (domain_instances T ++ problem_instances T)
      as_many =
          length-append (map (preference_word side InDomain) (domain_instances T)) (map (preference_word side InProblem) (problem_instances T))
          ∙ (λ i. length-map (domain_instances T) (preference_word side InDomain) i + length-map (problem_instances T) (preference_word side InProblem) i)
          ∙ sym (length-append (domain_instances T) (problem_instances T))

  module _ (name : Name) (action : Action) (named : action_named T name ≡ Some action) where
    -- no action passes a test that is refused
    passes_none : (test : Action → Bool) (code : Code) → first_action test code side T ≡ None → test action ≡ false
    unfolding action_named
    passes_none test code refused =
        let (k, at, is) = find_found (λ (other : Action). same_name other.name.name name) T.domain.actions action named in
        none_passes test T.domain.actions (unmapped _ _ refused) k action at

    pub narrow : width T action ≤ width_limit
    narrow = let h = ltb-false width_limit (width T action) (passes_none (λ action. nat_lt width_limit (width T action)) SplitTooWide (each_none (action_refusals side T) parts.1 1 (too_wide side T) refl)) in omega (arith, h)

    no_large_parts : large_action_parts side T action ≡ []
    unfolding action_named
    no_large_parts =
        let (k, at, is) = find_found (λ (other : Action). same_name other.name.name name) T.domain.actions action named in
        let words = large_part side (codes ":constraints") T.domain.constraints.at (constraint_size T T.domain.constraints.body) in
        let all = no_word (large_domain_parts side T) (unmapped _ _ (each_none (size_refusals side T) no_size 1 (too_large side InDomain (large_domain_parts side T)) refl)) in
        none_of_any (large_action_parts side T) T.domain.actions (nil_right words (flat_map (large_action_parts side T) T.domain.actions) all) k action at

    pub small_precondition : goal_size T action.pre.body ≤ size_limit side
    small_precondition = not_large side _ action.pre.at _ (nil_left (large_part side (codes ":precondition") action.pre.at (goal_size T action.pre.body)) _ no_large_parts)

    pub small_effect : effect_size T action.effect.body ≤ size_limit side
    small_effect = not_large side _ action.effect.at _ (nil_right (large_part side (codes ":precondition") action.pre.at (goal_size T action.pre.body)) _ no_large_parts)

    pub cheap : int_lt (cost_bound T action) (pos weight_bound) ≡ true
    cheap = not-false _ (passes_none (λ action. not (int_lt (cost_bound T action) (pos weight_bound))) CostTooLarge (each_none (action_refusals side T) parts.1 0 (too_dear side T) refl))

-- ---- refused, or not

none_from : {A : Type 0} (o : Option A) → IsTrue (is_none o) → o ≡ None
none_from None holds = refl
none_from (Some x) holds = absurd (cc)

pub well_formed_from : (T : Task) → IsTrue (is_well_formed T) → WellFormed T
well_formed_from T holds = (well_formed_where_no_offence T).1 (none_from (first_offence T) holds)

pub accepted_from : (side : Side) (T : Task) → IsTrue (is_accepted side T) → task_refusal side T ≡ None
accepted_from side T holds = none_from (task_refusal side T) holds

module _ (side : Side) (T : Task) (well : WellFormed T) where
  pub metric_fails : (error : MetricFail) → IsRefusal (first_some (metric_refusals side T)) error → IsFailOf side T (fail_of_metric error)
  metric_fails (metric.Refused refusal) found = stages side T well ∙ ap (λ o. option_or (option_or o (first_some (size_refusals side T))) (first_some (action_refusals side T))) found
  metric_fails metric.NoMemory found = tt

  module _ (linear : first_some (metric_refusals side T) ≡ None) where
    pub sizes_fail : (error : GroundFail) → whole.IsFailOf side T error → IsFailOf side T (fail_of_ground error)
    sizes_fail (grounding.Refused refusal) found = stages side T well ∙ (λ i. option_or (option_or (linear i) (found i)) (first_some (action_refusals side T)))
    sizes_fail grounding.NoMemory found = tt

    -- where the metric and the sizes are accepted, the actions alone are left
    pub actions_left : first_some (size_refusals side T) ≡ None → task_refusal side T ≡ first_some (action_refusals side T)
    actions_left small = stages side T well ∙ (λ i. option_or (option_or (linear i) (small i)) (first_some (action_refusals side T)))
