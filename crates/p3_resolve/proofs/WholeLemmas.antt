-- What is found over a whole domain or problem is the word of least offset.
use Rattle.std.proofs.Common.{◌≡◌, ◌∙◌, List, [], ◌∷◌, ◌++◌, Option, None, refl, sym, ap}
use Rattle.std.specs.Prelude.{fold, flat_map, option_map}
use Rattle.std.proofs.lemmas.List.{append-nil}
use Rattle.p3_task.specs.FirstOffence.{least_word}
use Rattle.p3_task.specs.Offences.{repeated, repeated_values, header_words, action_words, repeated_variables, unknown_words, miscounted, clashing, total_cost_with_parameters, domain_duplicates, problem_duplicates, domain_unknowns, problem_unknowns, domain_miscounts, problem_miscounts, domain_clashes, problem_clashes}
use Rattle.p3_task.specs.Uses.{Use, Objects, Variables, scope_of, goal_uses, effect_uses, constraint_uses, metric_uses, header_uses, action_uses, init_uses, domain_uses, problem_uses}
use Rattle.p3_task.specs.declared.term.Ref.{Ref}
use Rattle.p3_task.specs.declared.task.Action.{Action}
use Rattle.p3_task.specs.declared.task.Task.{Task}
use Rattle.p3_resolve.specs.Spots.{spot_of, step, use_step}
use Rattle.p3_resolve.specs.Walk.{outside, with_tree, uses_of_action, uses_of_each, uses_of_entry, uses_of_metric}
use Rattle.p3_resolve.specs.Wholes.{domain_start, problem_start, domain_found, problem_found}
use Rattle.p3_resolve.specs.declared.spot.Spot.{Spot}
use Rattle.p3_resolve.specs.declared.spot.FirstOffences.{FirstOffences}
use Rattle.p3_resolve.proofs.FormLemmas.{words-kept}
use Rattle.p3_resolve.proofs.WalkLemmas.{Notes, fold-append, least-walk, noted-uses}

-- ---- part by part

action-closed : (action : Action) → uses_of_action action [] ≡ action_uses action
unfolding uses_of_action
action-closed action = λ i. Variables action.params ∷ goal_uses action.pre.body (append-nil (scope_of action.params) i) ++ effect_uses action.effect.body (append-nil (scope_of action.params) i)

module _ (T : Task) where
  pub domain-walked : (after : FirstOffences) → after ≡ fold (use_step T) (fold (use_step T) (use_step T (domain_start T.domain) (Objects T.domain.constants)) (flat_map header_uses T.domain.predicates)) (flat_map header_uses T.domain.functions)
      → (with_tree T (uses_of_each uses_of_action T.domain.actions) (with_tree T (constraint_uses T.domain.constraints.body) (outside after))).found ≡ domain_found T
  unfolding with_tree uses_of_each domain_found domain_uses
  domain-walked after is =
      let D = T.domain in
      let first = use_step T (domain_start D) (Objects D.constants) in
      let predicates = flat_map header_uses D.predicates in
      let functions = flat_map header_uses D.functions in
      let constraints = constraint_uses D.constraints.body [] in
      let actions = flat_map action_uses D.actions in
      (λ i. fold (use_step T) (fold (use_step T) (is i) constraints) (flat_map (λ action. action-closed action i) D.actions))
      ∙ sym (fold-append (use_step T) first (predicates ++ functions ++ constraints) actions
      ∙ ap (λ found. fold (use_step T) found actions) (fold-append (use_step T) first (predicates ++ functions) constraints
      ∙ ap (λ found. fold (use_step T) found constraints) (fold-append (use_step T) first predicates functions)))

  pub problem-walked : (after : FirstOffences) → after ≡ use_step T (problem_start T.problem) (Objects T.problem.objects)
      → (with_tree T (uses_of_metric T.problem.metric) (with_tree T (constraint_uses T.problem.constraints.body) (with_tree T (goal_uses T.problem.goal.body)
      (with_tree T (uses_of_each uses_of_entry T.problem.init) (outside after))))).found ≡ problem_found T
  unfolding with_tree uses_of_each uses_of_entry uses_of_metric problem_found problem_uses
  problem-walked after is =
      let P = T.problem in
      let first = use_step T (problem_start P) (Objects P.objects) in
      let entries = flat_map init_uses P.init in
      let goals = goal_uses P.goal.body [] in
      let constraints = constraint_uses P.constraints.body [] in
      let metric = metric_uses P.metric in
      (λ i. fold (use_step T) (fold (use_step T) (fold (use_step T) (fold (use_step T) (is i) entries) goals) constraints) metric)
      ∙ sym (fold-append (use_step T) first (entries ++ goals ++ constraints) metric
      ∙ ap (λ found. fold (use_step T) found metric) (fold-append (use_step T) first (entries ++ goals) constraints
      ∙ ap (λ found. fold (use_step T) found constraints) (fold-append (use_step T) first entries goals)))

pub declared-parts : (first second third : List Ref) → fold step None (first ++ second ++ third) ≡ fold step (fold step (fold step None first) second) third
declared-parts first second third = fold-append step None (first ++ second) third ∙ ap (λ least. fold step least third) (fold-append step None first second)

pub ruleset part_laws = (declared-parts)

pub ruleset domain_laws = (domain-walked, words-kept)

pub ruleset problem_laws = (problem-walked, words-kept)

-- ---- the word of least offset

module _ (T : Task) (found : FirstOffences) where
  -- words that were looked at before the walk, and those of all uses
  least-of : (kept : FirstOffences → Option Spot) (words : Use → List Ref) (first : List Ref) (uses : List Use) → Notes T kept words → kept found ≡ fold step None first
      → kept (fold (use_step T) found uses) ≡ option_map spot_of (least_word (first ++ flat_map words uses))
  least-of kept words first uses notes is =
      noted-uses T kept words notes found uses ∙ (λ i. fold step (is i) (flat_map words uses)) ∙ sym (fold-append step None first (flat_map words uses)) ∙ least-walk (first ++ flat_map words uses)

-- for each kind of offence
module _ (T : Task) where
  pub domain-duplicate : (domain_found T).duplicate ≡ option_map spot_of (least_word (domain_duplicates T.domain))
  unfolding domain_found domain_duplicates
  domain-duplicate =
      let D = T.domain in
      least-of T (domain_start D) (λ found. found.duplicate) repeated_variables (repeated (header_words D.predicates) ++ repeated (header_words D.functions) ++ repeated (action_words D.actions)) (domain_uses D) (λ found item. refl) refl

  pub domain-unknown : (domain_found T).unknown ≡ option_map spot_of (least_word (domain_unknowns T))
  unfolding domain_found domain_unknowns
  domain-unknown = least-of T (domain_start T.domain) (λ found. found.unknown) (unknown_words T) [] (domain_uses T.domain) (λ found item. refl) refl

  pub domain-miscount : (domain_found T).miscount ≡ option_map spot_of (least_word (domain_miscounts T))
  unfolding domain_found domain_miscounts
  domain-miscount = least-of T (domain_start T.domain) (λ found. found.miscount) (miscounted T) (flat_map total_cost_with_parameters T.domain.functions) (domain_uses T.domain) (λ found item. refl) refl

  pub domain-clash : (domain_found T).clash ≡ option_map spot_of (least_word (domain_clashes T))
  unfolding domain_found domain_clashes
  domain-clash = least-of T (domain_start T.domain) (λ found. found.clash) (clashing T) [] (domain_uses T.domain) (λ found item. refl) refl

  pub problem-duplicate : (problem_found T).duplicate ≡ option_map spot_of (least_word (problem_duplicates T.problem))
  unfolding problem_found problem_duplicates
  problem-duplicate = least-of T (problem_start T.problem) (λ found. found.duplicate) repeated_variables (repeated_values [] T.problem.init) (problem_uses T.problem) (λ found item. refl) refl

  pub problem-unknown : (problem_found T).unknown ≡ option_map spot_of (least_word (problem_unknowns T))
  unfolding problem_found problem_unknowns
  problem-unknown = least-of T (problem_start T.problem) (λ found. found.unknown) (unknown_words T) [] (problem_uses T.problem) (λ found item. refl) refl

  pub problem-miscount : (problem_found T).miscount ≡ option_map spot_of (least_word (problem_miscounts T))
  unfolding problem_found problem_miscounts
  problem-miscount = least-of T (problem_start T.problem) (λ found. found.miscount) (miscounted T) [] (problem_uses T.problem) (λ found item. refl) refl

  pub problem-clash : (problem_found T).clash ≡ option_map spot_of (least_word (problem_clashes T))
  unfolding problem_found problem_clashes
  problem-clash = least-of T (problem_start T.problem) (λ found. found.clash) (clashing T) [] (problem_uses T.problem) (λ found item. refl) refl
