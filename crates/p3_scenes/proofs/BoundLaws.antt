-- The scenes of a constraint or a goal are bound to what it means by name, item by item.
use Rattle.std.proofs.Common.{◌≡◌, ◌∙◌, ◌<◌, Bool, true, false, List, [], ◌∷◌, ◌++◌, if◌then◌else◌, map, length, refl, ap, subst, arith, length-append}
use Rattle.std.specs.Prelude.{flat_map}
use Rattle.std.specs.List.{All, AllZip, list_all}
use Rattle.std.proofs.lemmas.Bool.{and_parts}
use Rattle.std.proofs.lemmas.List.{map-append}
use Rattle.std.proofs.lemmas.List.Elements.{All-nil, All-head, All-tail, All-append}
use mathlib.Core.Former.{Count}
use Rattle.p3_base.specs.declared.operator.Operator.TheVariants.{AtEnd}
use Rattle.p3_base.specs.declared.refusal.Role.{Role}
use Rattle.p3_base.specs.declared.refusal.Role.TheVariants.{Domain, Problem}
use Rattle.p3_task.specs.Bindings.{bind}
use Rattle.p3_task.specs.Constraints as named
use Rattle.p3_task.specs.Constraints.{HardModal, Instance, hard_list, hard_modals, hard_modals_layer, instances, domain_instances, problem_instances, instances_of, instances_of_all, instances_of_one, operators}
use Rattle.p3_task.specs.Folds.{fold_constraint, fold_constraints, fold_goals}
use Rattle.p3_task.specs.Goals.{StatePref, prefs, prefs_layer}
use Rattle.p3_task.specs.Slots.{words_of}
use Rattle.p3_task.specs.States.{Environment}
use Rattle.p3_task.specs.declared.constraint.Constraint.{Constraint, Row_of-Constraint, end_of-Constraint, more_of-Constraint}
use Rattle.p3_task.specs.declared.constraint.Constraint.TheOpen as layer
use Rattle.p3_task.specs.declared.constraint.Constraint.TheVariants.{Both', Each', Single, Soft'}
use Rattle.p3_task.specs.declared.goal.PreGoal.{PreGoal, Row_of-PreGoal, end_of-PreGoal, more_of-PreGoal}
use Rattle.p3_task.specs.declared.goal.PreGoal.TheVariants as goal
use Rattle.p3_task.specs.declared.task.Task.{Task}
use Rattle.p3_task.specs.declared.term.Typed.{Typed}
use Rattle.p3_numbers.specs.Conditions.{is_known_formula}
use Rattle.p3_numbers.specs.Constraints.{is_known_constraint, known_constraint_layer}
use Rattle.p3_numbers.specs.Goals.{is_known_goal, is_known_name, known_goal_layer}
use Rattle.p3_numbers.specs.Known.{IsKnownTask}
use Rattle.p3_numbers.specs.Places.{Variables, Fills, IsNumbering, are_known_types, environment_of, ranges_of}
use Rattle.p3_numbers.specs.Slots.{Slots, bound, tuples_of}
use Rattle.p3_numbers.specs.declared.numbers.Numbers.{Numbers}
use Rattle.p3_numbers.proofs.BindingLemmas.{each_binding, tuples_fill}
use Rattle.p3_scenes.specs.Bound.{IsBound, IsBoundSoft, IsBoundPref, hard_roles, instance_roles}
use Rattle.p3_scenes.specs.Scenes.{Scene, SoftScene, StateScene, at_end, hard_scenes, problem_scenes, scenes, scenes_layer, soft_scenes, soft_scenes_of_all, soft_scenes_of_one, state_scenes, state_scenes_layer, task_scenes}
use Rattle.p3_expansion.proofs.WalkLemmas.{zip-append, zip-weaker}

map-same : {A : Type 0} (xs : List A) → map (λ x. x) xs ≡ xs
map-same [] = refl
map-same (x ∷ xs) = ap (λ rest. x ∷ rest) (map-same xs)

-- no variable, and no object
pub none-fills : (N : Numbers) → Fills N [] []
none-fills N = record { lengths = refl; objects = All-nil (λ number. number < length N.objects) }

module _ (T : Task) (N : Numbers) (ties : IsNumbering T N) where
  -- ---- bindings

  fills_join : (scope words : Variables) (slots tuple : Slots) → Fills N scope slots → Fills N words tuple → Fills N (scope ++ words) (slots ++ tuple)
  fills_join scope words slots tuple first second = record {
    lengths = omega (arith, length-append scope words, length-append slots tuple, first.lengths, second.lengths);
    objects = All-append (λ number. number < length N.objects) slots tuple first.objects second.objects;
  }

  module _ {M A : Type 0} (R : M → A → Type 0) (of_names : Environment → List M) (of_slots : Slots → List A) (scope : Variables) (slots : Slots) (fills : Fills N scope slots) where
    choices_zipped : (words : Variables) → ((inner : Slots) → Fills N (scope ++ words) inner → AllZip R (of_names (environment_of N (scope ++ words) inner)) (of_slots inner)) → (choices : List Slots) → All (Fills N words) choices
        → AllZip R (flat_map of_names (map (environment_of N (scope ++ words)) (map (λ tuple. slots ++ tuple) choices))) (flat_map of_slots (map (λ tuple. slots ++ tuple) choices))
    choices_zipped words agree [] all = tt
    choices_zipped words agree (tuple ∷ choices) all =
        zip-append R (of_names (environment_of N (scope ++ words) (slots ++ tuple))) (of_slots (slots ++ tuple)) (flat_map of_names (map (environment_of N (scope ++ words)) (map (λ tuple. slots ++ tuple) choices))) (flat_map of_slots (map (λ tuple. slots ++ tuple) choices))
        (agree (slots ++ tuple) (fills_join scope words slots tuple fills (All-head (Fills N words) tuple choices all))) (choices_zipped words agree choices (All-tail (Fills N words) tuple choices all))

    -- what is so at all slots and their environments is so at all choices of the variables
    each_zipped : (variables : List Typed) → are_known_types N variables ≡ true → ((inner : Slots) → Fills N (scope ++ words_of variables) inner → AllZip R (of_names (environment_of N (scope ++ words_of variables) inner)) (of_slots inner))
        → AllZip R (flat_map of_names (bind T (environment_of N scope slots) variables)) (flat_map of_slots (bound N slots (ranges_of N variables)))
    each_zipped variables known agree =
        subst (λ envs. AllZip R (flat_map of_names envs) (flat_map of_slots (bound N slots (ranges_of N variables))))
        (each_binding T N ties (environment_of N (scope ++ words_of variables)) (λ env. env) scope slots variables fills known (λ inner fits. refl) ∙ map-same (bind T (environment_of N scope slots) variables))
        (choices_zipped (words_of variables) agree (tuples_of N (ranges_of N variables)) (tuples_fill T N ties variables))

  -- ---- operators

  abbrev In : Role → HardModal → Scene → Type 0
  In role hard scene = IsBound N hard scene × (scene.role ≡ role)

  -- those outside preferences, or else all
  abbrev listed_layer : Bool → layer.Constraint-F (Environment → List HardModal) → Environment → List HardModal
  listed_layer within (layer.Both parts) env = flat_map (λ part. part env) parts
  listed_layer within (layer.Each variables body) env = flat_map body (bind T env variables)
  listed_layer within (layer.Single modal) env = record { modal = modal; env = env } ∷ []
  listed_layer within (layer.Soft at name body) env = if within then body env else []

  abbrev listed : Bool → Environment → Constraint → List HardModal
  listed within env tree = fold_constraint (listed_layer within) tree env

  mutual
    unfolding is_known_constraint scenes

    listed-bound : (role : Role) (within : Bool) (tree : Constraint) (scope : Variables) (slots : Slots) → Fills N scope slots → is_known_constraint N tree scope ≡ true → AllZip (In role) (listed within (environment_of N scope slots) tree) (scenes N role within tree scope slots)
    listed-bound role within (Both' _ parts) scope slots fills known = all-listed-bound role within parts scope slots fills known
    listed-bound role within (Each' variables _ (more_of-Constraint body _)) scope slots fills known =
        let inner = scope ++ words_of variables in
        let parts = and_parts (are_known_types N variables) (is_known_constraint N body inner) known in
        each_zipped (In role) (λ env. listed within env body) (scenes N role within body inner) scope slots fills variables parts.0 (λ more fits. listed-bound role within body inner more fits parts.1)
    listed-bound role within (Single modal) scope slots fills known = ((record { fills = fills; env = refl; operator = refl; known = known; word = refl }, refl), tt)
    listed-bound role true (Soft' at name _ (more_of-Constraint body _)) scope slots fills known = listed-bound role true body scope slots fills (and_parts (is_known_name N name) (is_known_constraint N body scope) known).1
    listed-bound role false (Soft' at name _ (more_of-Constraint body _)) scope slots fills known = tt

    all-listed-bound : (role : Role) (within : Bool) {n : Count} (parts : Row_of-Constraint n) (scope : Variables) (slots : Slots) → Fills N scope slots → list_all (λ part. part scope) (fold_constraints (known_constraint_layer N) parts) ≡ true
        → AllZip (In role) (flat_map (λ part. part (environment_of N scope slots)) (fold_constraints (listed_layer within) parts)) (flat_map (λ part. part scope slots) (fold_constraints (scenes_layer N role within) parts))
    all-listed-bound role within end_of-Constraint scope slots fills known = tt
    all-listed-bound role within (more_of-Constraint part rest) scope slots fills known =
        let parts = and_parts (is_known_constraint N part scope) (list_all (λ part. part scope) (fold_constraints (known_constraint_layer N) rest)) known in
        zip-append (In role) (listed within (environment_of N scope slots) part) (scenes N role within part scope slots) (flat_map (λ part. part (environment_of N scope slots)) (fold_constraints (listed_layer within) rest)) (flat_map (λ part. part scope slots) (fold_constraints (scenes_layer N role within) rest))
        (listed-bound role within part scope slots fills parts.0) (all-listed-bound role within rest scope slots fills parts.1)

  outside : (part : layer.Constraint-F (Environment → List HardModal)) → listed_layer false part ≡ hard_modals_layer T part
  outside (layer.Both parts) = refl
  outside (layer.Each variables body) = refl
  outside (layer.Single modal) = refl
  outside (layer.Soft at name body) = refl

  every : (part : layer.Constraint-F (Environment → List HardModal)) → listed_layer true part ≡ named.operators_layer T part
  every (layer.Both parts) = refl
  every (layer.Each variables body) = refl
  every (layer.Single modal) = refl
  every (layer.Soft at name body) = refl

  module _ (role : Role) (tree : Constraint) (scope : Variables) (slots : Slots) (fills : Fills N scope slots) (known : is_known_constraint N tree scope ≡ true) where
    pub hard-bound : AllZip (In role) (hard_modals T (environment_of N scope slots) tree) (scenes N role false tree scope slots)
    unfolding hard_modals
    hard-bound = subst (λ (of : layer.Constraint-F (Environment → List HardModal) → Environment → List HardModal). AllZip (In role) (fold_constraint of tree (environment_of N scope slots)) (scenes N role false tree scope slots)) (λ i part. outside part i) (listed-bound role false tree scope slots fills known)

    operators-bound : AllZip (In role) (operators T (environment_of N scope slots) tree) (scenes N role true tree scope slots)
    unfolding operators
    operators-bound = subst (λ (of : layer.Constraint-F (Environment → List HardModal) → Environment → List HardModal). AllZip (In role) (fold_constraint of tree (environment_of N scope slots)) (scenes N role true tree scope slots)) (λ i part. every part i) (listed-bound role true tree scope slots fills known)

  -- what stands in a half
  module _ {M A : Type 0} (R : M → A → Type 0) (role_of : A → Role) (role : Role) where
    pub zip-bound : (ms : List M) (made : List A) → AllZip (λ m a. R m a × (role_of a ≡ role)) ms made → AllZip R ms made
    zip-bound ms made all = zip-weaker (λ m a. R m a × (role_of a ≡ role)) R (λ m a one. one.0) ms made all

    pub zip-roles : (ms : List M) (made : List A) → AllZip (λ m a. R m a × (role_of a ≡ role)) ms made → map role_of made ≡ map (λ m. role) ms
    zip-roles [] [] all = refl
    zip-roles [] (a ∷ made) all = absurd all
    zip-roles (m ∷ ms) [] all = absurd all
    zip-roles (m ∷ ms) (a ∷ made) all = λ i. all.0.1 i ∷ zip-roles ms made all.1 i

  -- ---- preferences over the visited states

  abbrev InSoft : Role → Instance → SoftScene → Type 0
  InSoft role instance scene = IsBoundSoft T N instance scene × (scene.role ≡ role)

  mutual
    unfolding instances_of instances_of_all instances_of_one soft_scenes soft_scenes_of_all soft_scenes_of_one is_known_constraint

    soft-bound : (role : Role) (tree : Constraint) (scope : Variables) (slots : Slots) → Fills N scope slots → is_known_constraint N tree scope ≡ true → AllZip (InSoft role) (instances_of T tree (environment_of N scope slots)) (soft_scenes N role tree scope slots)
    soft-bound role (Both' _ parts) scope slots fills known = all-soft-bound role parts scope slots fills known
    soft-bound role (Each' variables _ (more_of-Constraint body _)) scope slots fills known =
        let inner = scope ++ words_of variables in
        let parts = and_parts (are_known_types N variables) (is_known_constraint N body inner) known in
        each_zipped (InSoft role) (λ env. instances_of T body env) (soft_scenes N role body inner) scope slots fills variables parts.0 (λ more fits. soft-bound role body inner more fits parts.1)
    soft-bound role (Single modal) scope slots fills known = tt
    soft-bound role (Soft' at name _ (more_of-Constraint body _)) scope slots fills known =
        let bound = operators-bound role body scope slots fills (and_parts (is_known_name N name) (is_known_constraint N body scope) known).1 in
        let env = environment_of N scope slots in (
          (
            record {
              fills = fills;
              env = refl;
              at = refl;
              name = refl;
              operators = zip-bound (IsBound N) (λ (scene : Scene). scene.role) role (operators T env body) (scenes N role true body scope slots) bound;
              roles = zip-roles (IsBound N) (λ (scene : Scene). scene.role) role (operators T env body) (scenes N role true body scope slots) bound;
            },
            refl,
          ),
          tt,
        )

    all-soft-bound : (role : Role) {n : Count} (parts : Row_of-Constraint n) (scope : Variables) (slots : Slots) → Fills N scope slots → list_all (λ part. part scope) (fold_constraints (known_constraint_layer N) parts) ≡ true
        → AllZip (InSoft role) (instances_of_all T parts (environment_of N scope slots)) (soft_scenes_of_all N role parts scope slots)
    all-soft-bound role end_of-Constraint scope slots fills known = tt
    all-soft-bound role (more_of-Constraint part rest) scope slots fills known =
        let parts = and_parts (is_known_constraint N part scope) (list_all (λ part. part scope) (fold_constraints (known_constraint_layer N) rest)) known in
        zip-append (InSoft role) (instances_of T part (environment_of N scope slots)) (soft_scenes N role part scope slots) (instances_of_all T rest (environment_of N scope slots)) (soft_scenes_of_all N role rest scope slots)
        (soft-bound role part scope slots fills parts.0) (all-soft-bound role rest scope slots fills parts.1)

  -- ---- preferences over one state

  mutual
    unfolding prefs is_known_goal state_scenes

    pub prefs-bound : (tree : PreGoal) (scope : Variables) (slots : Slots) → Fills N scope slots → is_known_goal N tree scope ≡ true → AllZip (IsBoundPref N) (prefs T (environment_of N scope slots) tree) (state_scenes N tree scope slots)
    prefs-bound (goal.Plain formula) scope slots fills known = tt
    prefs-bound (goal.Both' _ parts) scope slots fills known = all-prefs-bound parts scope slots fills known
    prefs-bound (goal.Each' variables _ (more_of-PreGoal body _)) scope slots fills known =
        let inner = scope ++ words_of variables in
        let parts = and_parts (are_known_types N variables) (is_known_goal N body inner) known in
        each_zipped (IsBoundPref N) (λ env. prefs T env body) (state_scenes N body inner) scope slots fills variables parts.0 (λ more fits. prefs-bound body inner more fits parts.1)
    prefs-bound (goal.Soft pref) scope slots fills known = (record { fills = fills; env = refl; at = refl; name = refl; condition = refl; known = (and_parts (is_known_name N pref.name) (is_known_formula N pref.body scope) known).1; word = refl }, tt)

    all-prefs-bound : {n : Count} (parts : Row_of-PreGoal n) (scope : Variables) (slots : Slots) → Fills N scope slots → list_all (λ part. part scope) (fold_goals (known_goal_layer N) parts) ≡ true
        → AllZip (IsBoundPref N) (flat_map (λ part. part (environment_of N scope slots)) (fold_goals (prefs_layer T) parts)) (flat_map (λ part. part scope slots) (fold_goals (state_scenes_layer N) parts))
    all-prefs-bound end_of-PreGoal scope slots fills known = tt
    all-prefs-bound (more_of-PreGoal part rest) scope slots fills known =
        let parts = and_parts (is_known_goal N part scope) (list_all (λ part. part scope) (fold_goals (known_goal_layer N) rest)) known in
        zip-append (IsBoundPref N) (prefs T (environment_of N scope slots) part) (state_scenes N part scope slots) (flat_map (λ part. part (environment_of N scope slots)) (fold_goals (prefs_layer T) rest)) (flat_map (λ part. part scope slots) (fold_goals (state_scenes_layer N) rest))
        (prefs-bound part scope slots fills parts.0) (all-prefs-bound rest scope slots fills parts.1)

  -- over the last state
  end-bound : (pref : StatePref) (scene : StateScene) → IsBoundPref N pref scene → InSoft Problem (named.at_end pref) (at_end scene)
  unfolding operators
  end-bound pref scene is = (
    record {
      fills = is.fills;
      env = is.env;
      at = is.at;
      name = is.name;
      operators = (record { fills = is.fills; env = is.env; operator = ap AtEnd is.condition; known = is.known; word = is.word }, tt);
      roles = refl;
    },
    refl,
  )

  ends-bound : (list : List StatePref) (made : List StateScene) → AllZip (IsBoundPref N) list made → AllZip (InSoft Problem) (map named.at_end list) (map at_end made)
  ends-bound [] [] all = tt
  ends-bound [] (scene ∷ made) all = absurd all
  ends-bound (pref ∷ list) [] all = absurd all
  ends-bound (pref ∷ list) (scene ∷ made) all = (end-bound pref scene all.0, ends-bound list made all.1)

  -- ---- of a task

  module _ (known : IsKnownTask T N) where
    domain_hard : AllZip (In Domain) (hard_modals T [] T.domain.constraints.body) (scenes N Domain false T.domain.constraints.body [] [])
    domain_hard = hard-bound Domain T.domain.constraints.body [] [] (none-fills N) known.domain

    problem_hard : AllZip (In Problem) (hard_modals T [] T.problem.constraints.body) (scenes N Problem false T.problem.constraints.body [] [])
    problem_hard = hard-bound Problem T.problem.constraints.body [] [] (none-fills N) known.problem

    abbrev role_of : Scene → Role
    role_of scene = scene.role

    pub hard-scenes-bound : AllZip (IsBound N) (hard_list T) (hard_scenes T N)
    unfolding hard_list
    hard-scenes-bound =
        zip-append (IsBound N) (hard_modals T [] T.domain.constraints.body) (scenes N Domain false T.domain.constraints.body [] []) (hard_modals T [] T.problem.constraints.body) (scenes N Problem false T.problem.constraints.body [] [])
        (zip-bound (IsBound N) role_of Domain (hard_modals T [] T.domain.constraints.body) (scenes N Domain false T.domain.constraints.body [] []) domain_hard)
        (zip-bound (IsBound N) role_of Problem (hard_modals T [] T.problem.constraints.body) (scenes N Problem false T.problem.constraints.body [] []) problem_hard)

    pub hard-scenes-roles : map role_of (hard_scenes T N) ≡ hard_roles T
    hard-scenes-roles =
        map-append role_of (scenes N Domain false T.domain.constraints.body [] []) (scenes N Problem false T.problem.constraints.body [] [])
        ∙ (λ i. zip-roles (IsBound N) role_of Domain (hard_modals T [] T.domain.constraints.body) (scenes N Domain false T.domain.constraints.body [] []) domain_hard i
        ++ zip-roles (IsBound N) role_of Problem (hard_modals T [] T.problem.constraints.body) (scenes N Problem false T.problem.constraints.body [] []) problem_hard i)

    domain_soft : AllZip (InSoft Domain) (domain_instances T) (soft_scenes N Domain T.domain.constraints.body [] [])
    domain_soft = soft-bound Domain T.domain.constraints.body [] [] (none-fills N) known.domain

    problem_soft : AllZip (InSoft Problem) (problem_instances T) (problem_scenes T N)
    problem_soft =
        zip-append (InSoft Problem) (instances_of T T.problem.constraints.body []) (soft_scenes N Problem T.problem.constraints.body [] []) (map named.at_end (prefs T [] T.problem.goal.body)) (map at_end (state_scenes N T.problem.goal.body [] []))
        (soft-bound Problem T.problem.constraints.body [] [] (none-fills N) known.problem)
        (ends-bound (prefs T [] T.problem.goal.body) (state_scenes N T.problem.goal.body [] []) (prefs-bound T.problem.goal.body [] [] (none-fills N) known.goal))

    abbrev soft_role_of : SoftScene → Role
    soft_role_of scene = scene.role

    pub soft-scenes-bound : AllZip (IsBoundSoft T N) (instances T) (task_scenes T N)
    unfolding instances
    soft-scenes-bound =
        zip-append (IsBoundSoft T N) (domain_instances T) (soft_scenes N Domain T.domain.constraints.body [] []) (problem_instances T) (problem_scenes T N)
        (zip-bound (IsBoundSoft T N) soft_role_of Domain (domain_instances T) (soft_scenes N Domain T.domain.constraints.body [] []) domain_soft)
        (zip-bound (IsBoundSoft T N) soft_role_of Problem (problem_instances T) (problem_scenes T N) problem_soft)

    pub soft-scenes-roles : map soft_role_of (task_scenes T N) ≡ instance_roles T
    soft-scenes-roles =
        map-append soft_role_of (soft_scenes N Domain T.domain.constraints.body [] []) (problem_scenes T N)
        ∙ (λ i. zip-roles (IsBoundSoft T N) soft_role_of Domain (domain_instances T) (soft_scenes N Domain T.domain.constraints.body [] []) domain_soft i
        ++ zip-roles (IsBoundSoft T N) soft_role_of Problem (problem_instances T) (problem_scenes T N) problem_soft i)
