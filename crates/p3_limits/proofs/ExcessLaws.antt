-- What numbered trees show is what the task shows whose numbers they are.
use Rattle.std.proofs.Common.{◌≡◌, ◌∙◌, ℕ, ◌+◌, ◌-◌, ◌<◌, ◌^◌, nat_lt, Bool, true, false, ◌&&◌, Option, Some, None, List, [], ◌∷◌, ◌++◌, map, refl, sym, ap, arith}
use Rattle.std.specs.Prelude.{fold, flat_map, slice_get, codes, option_map, if◌then◌else◌}
use Rattle.std.specs.List.{list_all}
use Rattle.std.proofs.lemmas.Bool.{and_parts}
use Rattle.std.proofs.lemmas.List.{map-append}
use Rattle.std.proofs.lemmas.List.Sums.{fold-append}
use Rattle.p3_base.specs.declared.refusal.Code.{Code}
use Rattle.p3_base.specs.declared.refusal.Code.TheVariants.{TooManyInstances, FormulaTooLarge, TooManyPreferences}
use Rattle.p3_base.specs.declared.refusal.Refusal.{Refusal}
use Rattle.p3_base.specs.declared.refusal.Role.{Role}
use Rattle.p3_base.specs.declared.refusal.Side.{Side}
use Rattle.p3_base.specs.declared.refusal.Side.TheVariants.{Source, Written}
use Rattle.p3_numbers.proofs.KnownLaws.{task-known}
use Rattle.p3_numbers.specs.Effects.{effect_of, is_known_effect}
use Rattle.p3_numbers.specs.Goals.{goal_of, is_known_goal}
use Rattle.p3_numbers.specs.Constraints.{constraint_of, is_known_constraint}
use Rattle.p3_numbers.specs.Known.{IsKnownTask, is_known_action}
use Rattle.p3_numbers.specs.Places.{ranges_of, words_of, are_known_types, IsNumbering}
use Rattle.p3_numbers.specs.Tasks.{IsNumberedTask, numbered_action}
use Rattle.p3_numbers.specs.declared.numbers.Numbers.{Numbers}
use Rattle.p3_numbers.specs.declared.task.NumberedTask.{NumberedTask}
use Rattle.p3_task.specs.Constraints.{Instance, domain_instances, problem_instances, instances_of, at_end}
use Rattle.p3_task.specs.FirstOffence.{least_word}
use Rattle.p3_task.specs.Goals.{StatePref, prefs}
use Rattle.p3_task.specs.Limits as named
use Rattle.p3_task.specs.Limits.{binding_count}
use Rattle.p3_task.specs.Offences.{WellFormed}
use Rattle.p3_task.specs.Refusals.Counts.{passes_at, too_many_steps, large_part, large_action_parts, large_domain_parts, large_problem_parts, too_large, preference_word, preference_words, too_many_preferences, size_refusals}
use Rattle.p3_task.specs.Refusals.Places.{refusal_at_word, word_at, first_some}
use Rattle.p3_task.specs.Sides.{Half, InDomain, InProblem, role_of, size_limit, step_count_limit, instance_limit}
use Rattle.p3_task.specs.declared.task.Action.{Action}
use Rattle.p3_task.specs.declared.task.Task.{Task}
use Rattle.p3_task.specs.declared.term.Ref.{Ref}
use Rattle.p3_limits.specs.Cuts.{cut, cut_choices}
use Rattle.p3_limits.specs.Excess.{refused_step, large_at, noted, noted_action, noted_actions, noted_constraints, large_in_domain, large_in_problem, many_at, problem_offsets, refused_preference, numbered_refusals}
use Rattle.p3_limits.specs.Least.{with_least}
use Rattle.p3_limits.specs.Preferences.{goal_offsets, constraint_offsets}
use Rattle.p3_limits.specs.Sizes.{effect_size, goal_size, constraint_size}
use Rattle.p3_limits.proofs.CutLaws.{cut-choices, cut-passes, cut-left}
use Rattle.p3_limits.proofs.LeastLaws.{least_by_offset}
use Rattle.p3_limits.proofs.PreferenceLaws.{pref_at, instance_at, goal-offsets, constraint-offsets}
use Rattle.p3_limits.proofs.SizeLaws.{choices-are, effect-size, goal-size, constraint-size}

-- ---- the refusal of least offset

module _ (code : Code) (role : Role) where
  abbrev refused : Ref → Refusal
  refused word = refusal_at_word code role word

  pub least-refused : (words : List Ref) → option_map refused (least_word words) ≡ fold with_least None (map refused words)
  least-refused [] = refl
  least-refused (word ∷ words) = sym (least_by_offset (λ (other : Ref). other.at) refused (λ other. refl) word words)

  -- a part more
  noted-part : (found : Option Refusal) (side : Side) (keyword : List ℕ) (at size n : ℕ) → size_limit side < 2 ^ 62 → size ≡ cut n
      → noted (size_limit side) size (refused (word_at keyword at)) found ≡ fold with_least found (map refused (large_part side keyword at n))
  noted-part found side keyword at size n low is =
      ap (λ t. if t then with_least found (refused (word_at keyword at)) else found) (ap (nat_lt (size_limit side)) is ∙ cut-passes (size_limit side) n low) ∙ by (nat_lt (size_limit side) n)
    where
      by : (t : Bool) → (if t then with_least found (refused (word_at keyword at)) else found) ≡ fold with_least found (map refused (if t then word_at keyword at ∷ [] else []))
      by true = refl
      by false = refl

  more-words : (found : Option Refusal) (words more : List Ref) → fold with_least (fold with_least found (map refused words)) (map refused more) ≡ fold with_least found (map refused (words ++ more))
  more-words found words more = sym (fold-append with_least found (map refused words) (map refused more)) ∙ ap (fold with_least found) (sym (map-append refused words more))

low-limit : (side : Side) → size_limit side < 2 ^ 62
low-limit Source = omega arith
low-limit Written = omega arith

map_map : {A B C : Type 0} (g : B → C) (f : A → B) (xs : List A) → map g (map f xs) ≡ map (λ x. g (f x)) xs
map_map g f [] = refl
map_map g f (x ∷ xs) = ap (λ rest. g (f x) ∷ rest) (map_map g f xs)

module _ (side : Side) (T : Task) (N : Numbers) (ties : IsNumbering T N) where
  -- ---- steps

  abbrev at_name : Action → Refusal
  at_name action = refusal_at_word TooManyInstances (role_of side InDomain) action.name

  steps-refused : (limit : ℕ) (actions : List Action) → limit < 2 ^ 62 → list_all (is_known_action N) actions ≡ true
      → refused_step N side limit actions (map (numbered_action N) actions) ≡ option_map at_name (passes_at (λ (action : Action). binding_count T action.params) limit actions)
  steps-refused limit [] low known = refl
  steps-refused limit (action ∷ actions) low known =
      let parts = and_parts (is_known_action N action) (list_all (is_known_action N) actions) known in
      let typed = and_parts (are_known_types N action.params && is_known_goal N action.pre.body (words_of action.params)) (is_known_effect N action.effect.body (words_of action.params)) parts.0 in
      let types = and_parts (are_known_types N action.params) (is_known_goal N action.pre.body (words_of action.params)) typed.0 in
      let count = binding_count T action.params in
      let is : cut_choices N (ranges_of N action.params) ≡ cut count = cut-choices N (ranges_of N action.params) ∙ ap cut (choices-are T N ties action.params types.0) in
      let test = ap (nat_lt limit) is ∙ cut-passes limit count low in
      let left = ap (λ n. limit - n) is ∙ cut-left limit count low in
      (λ i. if test i then Some (at_name action) else refused_step N side (left i) actions (map (numbered_action N) actions))
      ∙ by action actions limit count (nat_lt limit count) (steps-refused (limit - count) actions (omega arith) parts.1)
    where
      by : (action : Action) (actions : List Action) (limit count : ℕ) (t : Bool)
          → refused_step N side (limit - count) actions (map (numbered_action N) actions) ≡ option_map at_name (passes_at (λ (action : Action). binding_count T action.params) (limit - count) actions)
          → (if t then Some (at_name action) else refused_step N side (limit - count) actions (map (numbered_action N) actions))
          ≡ option_map at_name (if t then Some action else passes_at (λ (action : Action). binding_count T action.params) (limit - count) actions)
      by action actions limit count true rest = refl
      by action actions limit count false rest = rest

  -- ---- sizes

  abbrev in_domain : Ref → Refusal
  in_domain word = refusal_at_word FormulaTooLarge (role_of side InDomain) word

  actions-noted : (found : Option Refusal) (actions : List Action) → list_all (is_known_action N) actions ≡ true
      → noted_actions N side actions (map (numbered_action N) actions) found ≡ fold with_least found (map in_domain (flat_map (large_action_parts side T) actions))
  actions-noted found [] known = refl
  actions-noted found (action ∷ actions) known =
      let parts = and_parts (is_known_action N action) (list_all (is_known_action N) actions) known in
      let typed = and_parts (are_known_types N action.params && is_known_goal N action.pre.body (words_of action.params)) (is_known_effect N action.effect.body (words_of action.params)) parts.0 in
      let types = and_parts (are_known_types N action.params) (is_known_goal N action.pre.body (words_of action.params)) typed.0 in
      let scope = words_of action.params in
      let role = role_of side InDomain in
      let first = large_part side (codes ":precondition") action.pre.at (named.goal_size T action.pre.body) in
      let second = large_part side (codes ":effect") action.effect.at (named.effect_size T action.effect.body) in
      let pre = noted-part FormulaTooLarge role found side (codes ":precondition") action.pre.at (goal_size N (goal_of N action.pre.body scope)) (named.goal_size T action.pre.body) (low-limit side) (goal-size T N ties action.pre.body scope types.1) in
      let effect = noted-part FormulaTooLarge role (fold with_least found (map in_domain first)) side (codes ":effect") action.effect.at (effect_size N (effect_of N action.effect.body scope)) (named.effect_size T action.effect.body) (low-limit side) (effect-size T N ties action.effect.body scope typed.1) in
      let here : noted_action N side action (numbered_action N action) found ≡ fold with_least found (map in_domain (first ++ second)) =
      ap (noted (size_limit side) (effect_size N (effect_of N action.effect.body scope)) (large_at side InDomain (codes ":effect") action.effect.at)) pre ∙ effect ∙ more-words FormulaTooLarge role found first second
      in
      ap (noted_actions N side actions (map (numbered_action N) actions)) here
      ∙ actions-noted (fold with_least found (map in_domain (first ++ second))) actions parts.1
      ∙ more-words FormulaTooLarge role found (first ++ second) (flat_map (large_action_parts side T) actions)

  -- ---- preferences

  at-instances : (half : Half) (instances : List Instance) → map (preference_word side half) instances ≡ map (many_at side half) (map instance_at instances)
  at-instances half instances = sym (map_map (many_at side half) instance_at instances)

module _ (side : Side) (T : Task) (X : NumberedTask) (formed : WellFormed T) (is : IsNumberedTask T X) where
  known : IsKnownTask T X.numbers
  known = task-known T X.numbers formed is.covers

  steps-same : refused_step X.numbers side step_count_limit T.domain.actions X.actions ≡ too_many_steps side T
  steps-same = ap (refused_step X.numbers side step_count_limit T.domain.actions) is.actions ∙ steps-refused side T X.numbers is.numbering step_count_limit T.domain.actions (omega arith) known.actions

  domain-same : large_in_domain side T X ≡ too_large side InDomain (large_domain_parts side T)
  domain-same =
      let role = role_of side InDomain in
      let size = ap (constraint_size X.numbers) is.domain ∙ constraint-size T X.numbers is.numbering T.domain.constraints.body [] known.domain in
      let first = large_part side (codes ":constraints") T.domain.constraints.at (named.constraint_size T T.domain.constraints.body) in
      let constraints = noted-part FormulaTooLarge role None side (codes ":constraints") T.domain.constraints.at (constraint_size X.numbers X.domain_constraints) (named.constraint_size T T.domain.constraints.body) (low-limit side) size in
      (λ i. noted_actions X.numbers side T.domain.actions (is.actions i) (constraints i))
      ∙ actions-noted side T X.numbers is.numbering (fold with_least None (map (in_domain side T X.numbers is.numbering) first)) T.domain.actions known.actions
      ∙ more-words FormulaTooLarge role None first (flat_map (large_action_parts side T) T.domain.actions)
      ∙ sym (least-refused FormulaTooLarge role (large_domain_parts side T))

  problem-same : large_in_problem side T X ≡ too_large side InProblem (large_problem_parts side T)
  problem-same =
      let role = role_of side InProblem in
      let size = ap (constraint_size X.numbers) is.problem ∙ constraint-size T X.numbers is.numbering T.problem.constraints.body [] known.problem in
      let goal = ap (goal_size X.numbers) is.goal ∙ goal-size T X.numbers is.numbering T.problem.goal.body [] known.goal in
      let first = large_part side (codes ":constraints") T.problem.constraints.at (named.constraint_size T T.problem.constraints.body) in
      let second = large_part side (codes ":goal") T.problem.goal.at (named.goal_size T T.problem.goal.body) in
      let constraints = noted-part FormulaTooLarge role None side (codes ":constraints") T.problem.constraints.at (constraint_size X.numbers X.problem_constraints) (named.constraint_size T T.problem.constraints.body) (low-limit side) size in
      ap (noted (size_limit side) (goal_size X.numbers X.goal) (large_at side InProblem (codes ":goal") T.problem.goal.at)) constraints
      ∙ noted-part FormulaTooLarge role (fold with_least None (map (refused FormulaTooLarge role) first)) side (codes ":goal") T.problem.goal.at (goal_size X.numbers X.goal) (named.goal_size T T.problem.goal.body) (low-limit side) goal
      ∙ more-words FormulaTooLarge role None first second
      ∙ sym (least-refused FormulaTooLarge role (large_problem_parts side T))

  domain-at : map instance_at (domain_instances T) ≡ constraint_offsets X.numbers X.domain_constraints
  domain-at = constraint-offsets T X.numbers is.numbering T.domain.constraints.body [] [] known.domain ∙ ap (constraint_offsets X.numbers) (sym is.domain)

  problem-at : map instance_at (problem_instances T) ≡ problem_offsets X
  problem-at =
      let constraints = constraint-offsets T X.numbers is.numbering T.problem.constraints.body [] [] known.problem ∙ ap (constraint_offsets X.numbers) (sym is.problem) in
      let goal = goal-offsets T X.numbers is.numbering T.problem.goal.body [] [] known.goal ∙ ap (goal_offsets X.numbers) (sym is.goal) in
      map-append instance_at (instances_of T T.problem.constraints.body []) (map at_end (prefs T [] T.problem.goal.body))
      ∙ (λ i. constraints i ++ (map_map instance_at at_end (prefs T [] T.problem.goal.body) ∙ goal) i)

  preferences-same : refused_preference side X ≡ too_many_preferences side T
  preferences-same =
      ap (λ words. slice_get words instance_limit) (sym (λ i. (at-instances side T X.numbers is.numbering InDomain (domain_instances T) ∙ ap (map (many_at side InDomain)) domain-at) i
      ++ (at-instances side T X.numbers is.numbering InProblem (problem_instances T) ∙ ap (map (many_at side InProblem)) problem-at) i))

  pub first_excess : first_some (numbered_refusals side T X) ≡ first_some (size_refusals side T)
  first_excess = λ i. first_some (steps-same i ∷ domain-same i ∷ problem-same i ∷ preferences-same i ∷ [])
