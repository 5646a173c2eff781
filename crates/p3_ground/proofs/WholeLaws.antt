-- A ground task of the wanted steps that may begin, and the limit on its steps.
use Rattle.std.proofs.Common.{◌≡◌, ◌∙◌, ℕ, ◌+◌, ◌-◌, ◌*◌, ◌≤◌, Bool, true, false, ◌&&◌, nat_lt, if◌then◌else◌, List, [], ◌∷◌, ◌++◌, Option, Some, None, get_or, length, map, min, refl, sym, ap, subst, arith}
use Rattle.std.specs.Prelude.{fold, drop, option_map, slice_index_or}
use Rattle.std.specs.List.{list_all}
use Rattle.std.specs.Option.{option_or}
use Rattle.std.proofs.lemmas.Bool.{and_parts, ltb-false}
use Rattle.std.proofs.lemmas.List.{append-nil, length-map}
use Rattle.std.proofs.lemmas.List.Elements.{Contains-get_or, filter-append}
use Rattle.std.proofs.Math.Nat.{mul_assoc}
use Rattle.p3_base.specs.declared.refusal.Side.{Side}
use Rattle.p3_task.specs.Costs.{cost_places, initial_cost}
use Rattle.p3_task.specs.Lifting.{steps}
use Rattle.p3_task.specs.Limits.{binding_count, step_count}
use Rattle.p3_task.specs.Offences.{WellFormed}
use Rattle.p3_task.specs.PreferenceNames.{ordered_names}
use Rattle.p3_task.specs.Refusals.Counts.{passes_at, size_refusals}
use Rattle.p3_task.specs.Refusals.Places.{first_some}
use Rattle.p3_task.specs.Types.{objects}
use Rattle.p3_task.specs.declared.task.Action.{Action}
use Rattle.p3_task.specs.declared.task.Task.{Task}
use Rattle.p3_task.specs.declared.term.Ref.{Ref}
use Rattle.p3_task.specs.declared.term.Typed.{Typed}
use Rattle.p3_task.specs.Sides.{step_count_limit}
use Rattle.p3_formula.specs.Conditions.{HasAtomsBelow, rises}
use Rattle.p3_formula.specs.Forms as forms
use Rattle.p3_formula.specs.declared.task.GroundStep.{GroundStep}
use Rattle.p3_formula.specs.declared.task.GroundTask.{GroundTask}
use Rattle.p3_numbers.specs.Choices.{choice_count}
use Rattle.p3_numbers.specs.Effects.{is_known_effect}
use Rattle.p3_numbers.specs.Goals.{is_known_goal}
use Rattle.p3_numbers.specs.Known.{is_known_action}
use Rattle.p3_numbers.specs.Places.{IsNumbering, range_of, ranges_of, has_types, are_known_types, words_of}
use Rattle.p3_numbers.specs.Slots.{name_at, range_at}
use Rattle.p3_numbers.specs.Tasks.{IsNumberedTask, numbered_action}
use Rattle.p3_numbers.specs.declared.numbers.Numbers.{Numbers}
use Rattle.p3_numbers.specs.declared.task.NumberedTask.{NumberedTask}
use Rattle.p3_numbers.proofs.KnownLaws.{task-known}
use Rattle.p3_steps.specs.Steps.{StepIsMade, StepsAreMade, MakesSteps, count_of_steps}
use Rattle.p3_steps.proofs.StepLemmas.{made-keeps}
use Rattle.p3_reach.specs.Closed.{IsClosed, IsInEachClosed, steps_that_may}
use Rattle.p3_reach.specs.May.{may_hold}
use Rattle.p3_expansion.specs.Atoms.{GroundAtom, AreDistinct, Keeps, is_named}
use Rattle.p3_expansion.specs.Expansions.{Stands}
use Rattle.p3_expansion.specs.Forms.{Makes}
use Rattle.p3_expansion.specs.Hard.{hard_meaning}
use Rattle.p3_expansion.specs.Instances.{InstancesStand}
use Rattle.p3_expansion.specs.NamedReads.{ReadsAreNamed}
use Rattle.p3_expansion.specs.Operators.{OperatorsStand}
use Rattle.p3_expansion.specs.Statics.{AreStatics, start_bits}
use Rattle.p3_expansion.specs.TaskConstraints.{task_operators, task_instances, MakesHard, MakesSoft}
use Rattle.p3_expansion.specs.declared.statics.Statics.{Statics}
use Rattle.p3_expansion.specs.declared.work.Work.{Work}
use Rattle.p3_expansion.proofs.ExpansionLemmas.{stands-grows}
use Rattle.p3_expansion.proofs.GrowthLemmas.{keeps-trans}
use Rattle.p3_expansion.proofs.NamedReads.{reads-named}
use Rattle.p3_expansion.proofs.OperatorLemmas.{operators-keep}
use Rattle.p3_expansion.proofs.WalkLemmas.{zip-weaker}
use Rattle.p3_ground.specs.Planned.{AreAllThatMayBegin, wanted_steps}
use Rattle.p3_ground.specs.Pruned.{pruned, steps_over}
use Rattle.p3_ground.specs.Expanded.{facts_of}
use Rattle.p3_ground.specs.Sparse.{IsGroundingAmong, IsGroundingOf}
use Rattle.p3_ground.specs.Whole.{HasFewSteps, ArePartsOf, IsWhole}
use Rattle.p3_ground.specs.declared.parts.ExpandedParts.{ExpandedParts}
use Rattle.p3_ground.proofs.GroundingLaws.{have-possible-conjuncts, is-grounding, leaves-out-there}
use Rattle.p3_ground.proofs.PutTogether.{what-is-put-together-stands}
use Rattle.p3_ground.proofs.PlannedSteps.{planned-steps-are-all, planned-steps-read-names, steps-are-counted}
use Rattle.p3_types.specs.FirstSteps.{too_many}

-- ---- the limit on steps

none-first : {A : Type 0} (first others : Option A) → option_or first others ≡ None → first ≡ None
none-first None others none = refl
none-first (Some x) others none = absurd (cc)

no-map : {A B : Type 0} (f : A → B) (found : Option A) → option_map f found ≡ None → found ≡ None
no-map f None none = refl
no-map f (Some x) none = absurd (cc)

module _ {A : Type 0} (size : A → ℕ) where
  sum_of : List A → ℕ
  sum_of [] = 0
  sum_of (item ∷ items) = size item + sum_of items

  -- where the running sum passes the limit at no item, the whole sum is within it
  passes-none : (limit : ℕ) (items : List A) → passes_at size limit items ≡ None → sum_of items ≤ limit
  unfolding sum_of
  passes-none limit [] none = omega arith
  passes-none limit (item ∷ items) none = passes-step limit item items (nat_lt limit (size item)) refl none (passes-none (limit - size item) items)
    where
      passes-step : (limit : ℕ) (item : A) (items : List A) (b : Bool) → nat_lt limit (size item) ≡ b → (if b then Some item else passes_at size (limit - size item) items) ≡ None
          → (passes_at size (limit - size item) items ≡ None → sum_of items ≤ limit - size item) → size item + sum_of items ≤ limit
      passes-step limit item items true is none rest = absurd (cc)
      passes-step limit item items false is none rest = let below = rest none in omega (arith, below, ltb-false limit (size item) is)

module _ (T : Task) (N : Numbers) (ties : IsNumbering T N) where
  range-length : (types : List Ref) → has_types N types ≡ true → length (range_at N (range_of N types)) ≡ length (objects T types)
  range-length types known = sym (length-map (range_at N (range_of N types)) (name_at N.objects)) ∙ ap length (ties.named types known)

  bindings-from : (start : ℕ) (variables : List Typed) → are_known_types N variables ≡ true
      → fold (λ product variable. product * length (objects T variable.types)) start variables ≡ start * choice_count N (ranges_of N variables)
  unfolding choice_count
  bindings-from start [] known = omega arith
  bindings-from start (variable ∷ variables) known =
      let parts = and_parts (has_types N variable.types) (are_known_types N variables) known in
      let rest = choice_count N (ranges_of N variables) in
      bindings-from (start * length (objects T variable.types)) variables parts.1
      ∙ ap (λ n. start * n * rest) (sym (range-length variable.types parts.0)) ∙ mul_assoc start (length (range_at N (range_of N variable.types))) rest

  bindings-are : (variables : List Typed) → are_known_types N variables ≡ true → binding_count T variables ≡ choice_count N (ranges_of N variables)
  unfolding binding_count
  bindings-are variables known = bindings-from 1 variables known ∙ omega arith

  counts-are : (actions : List Action) → list_all (is_known_action N) actions ≡ true → count_of_steps N (map (numbered_action N) actions) ≡ sum_of (λ (action : Action). binding_count T action.params) actions
  unfolding sum_of
  counts-are [] known = refl
  counts-are (action ∷ actions) known =
      let parts = and_parts (is_known_action N action) (list_all (is_known_action N) actions) known in
      let front = and_parts (are_known_types N action.params && is_known_goal N action.pre.body (words_of action.params)) (is_known_effect N action.effect.body (words_of action.params)) parts.0 in
      let types = and_parts (are_known_types N action.params) (is_known_goal N action.pre.body (words_of action.params)) front.0 in
      λ i. sym (bindings-are action.params types.0) i + counts-are actions parts.1 i

-- a task that passes no limit has few steps
pub few-steps : (T : Task) (X : NumberedTask) (side : Side) → WellFormed T → IsNumberedTask T X → first_some (size_refusals side T) ≡ None → HasFewSteps X
few-steps T X side well is none =
    let here : passes_at (λ (action : Action). binding_count T action.params) step_count_limit T.domain.actions ≡ None = no-map _ _ (none-first _ _ none) in
    let count : count_of_steps X.numbers X.actions ≡ sum_of (λ (action : Action). binding_count T action.params) T.domain.actions =
    ap (count_of_steps X.numbers) is.actions ∙ counts-are T X.numbers is.numbering T.domain.actions (task-known T X.numbers well is.covers).actions
    in
    omega (arith, count, passes-none (λ (action : Action). binding_count T action.params) step_count_limit T.domain.actions here)

-- ---- the parts

module _ (T : Task) (X : NumberedTask) (S : Statics) (places : ℕ) (well : WellFormed T) (is : IsNumberedTask T X) (statics : AreStatics X S) where
  abbrev named : GroundAtom → Bool
  named = is_named X.numbers

  -- what is expanded in turn, from no atom on
  pub parts-are : (wanted : Option (List ℕ)) (old first second third new : Work) (parts : ExpandedParts) → old.atoms ≡ [] → AreDistinct new.atoms → parts.atoms ≡ length new.atoms
      → MakesSteps X S places (wanted_steps X S wanted) old first parts.steps → Makes X.numbers S first second (hard_meaning X.numbers [] X.goal) parts.goal
      → MakesHard X S second third parts.hard → MakesSoft X S third new parts.soft → ArePartsOf T X S places new.atoms wanted parts
  parts-are wanted old first second third new parts none distinct count steps goal hard soft =
      let reads : ReadsAreNamed T X = reads-named T X well is in
      let at_first = steps.grows.brings.passed named (ap (list_all named) none) (planned-steps-read-names T X S wanted well is) in
      let at_second = goal.grows.brings.passed named at_first reads.goal in
      let at_third = hard.grows.brings.passed named at_second reads.hard in
      let at_last = soft.grows.brings.passed named at_third reads.soft in
      let last : Keeps third.atoms new.atoms = soft.grows.atoms in
      let late : Keeps second.atoms new.atoms = keeps-trans second.atoms third.atoms new.atoms hard.grows.atoms last in
      let all : Keeps first.atoms new.atoms = keeps-trans first.atoms second.atoms new.atoms goal.grows.atoms late in
      record {
        expanded = record { well = well; numbered = is; statics = statics; distinct = distinct; named = at_last };
        count = count;
        steps = zip-weaker (StepIsMade X S places first.atoms) (StepIsMade X S places new.atoms) (made-keeps X S places first.atoms new.atoms all) (wanted_steps X S wanted) parts.steps steps.are;
        goal = stands-grows X.numbers S second.atoms new.atoms (hard_meaning X.numbers [] X.goal) parts.goal late goal.stands;
        hard = operators-keep X.numbers S third.atoms new.atoms last (task_operators X) parts.hard hard.stand;
        soft = soft.stand;
      }

-- ---- the whole

min-within : (count : ℕ) → count ≤ step_count_limit → min count too_many ≡ count
min-within count few = omega (arith, few)

-- with the numbers of the task they make up a ground task of the wanted steps that may begin
pub whole-is : (T : Task) (X : NumberedTask) (S : Statics) (places : ℕ) (atoms : List GroundAtom) (wanted : Option (List ℕ)) (parts : ExpandedParts) (G : GroundTask) → HasFewSteps X → places ≡ cost_places T → ArePartsOf T X S places atoms wanted parts
    → G.atoms ≡ parts.atoms → G.initial ≡ start_bits S atoms → G.initial_cost ≡ initial_cost T → G.step_count ≡ min (length (steps T)) too_many
    → G.steps ≡ parts.steps → G.goal ≡ parts.goal → G.hard ≡ parts.hard → G.soft ≡ parts.soft → G.names ≡ length (ordered_names T) → IsWhole T X wanted G
whole-is T X S places atoms wanted parts G few units are count initial cost steps_count steps_are goal_is hard_are soft_are names =
    let ex = are.expanded in
    let made : StepsAreMade X S (cost_places T) atoms (wanted_steps X S wanted) G.steps =
    subst (λ made. StepsAreMade X S (cost_places T) atoms (wanted_steps X S wanted) made) (sym steps_are) (subst (λ n. StepsAreMade X S n atoms (wanted_steps X S wanted) parts.steps) units are.steps)
    in
    let all : AreAllThatMayBegin T X S atoms wanted G.steps = planned-steps-are-all T X S atoms ex wanted G.steps made in
    let counted : length (steps T) ≤ step_count_limit = omega (arith, few, steps-are-counted T X ex.well ex.numbered) in
    let numbers : G.step_count ≡ length (steps T) = steps_count ∙ min-within (length (steps T)) counted in
    record {
      statics = S;
      atoms = atoms;
      expanded = ex;
      together = record {
        count = count ∙ are.count;
        initial = initial;
        initial_cost = cost;
        step_count = numbers;
        rising = ap (λ n. rises 0 n G.steps) numbers ∙ all.rising;
        kept = all.kept;
        goal = subst (Stands X.numbers S atoms (hard_meaning X.numbers [] X.goal)) (sym goal_is) are.goal;
        hard = subst (OperatorsStand X.numbers S atoms (task_operators X)) (sym hard_are) are.hard;
        soft = subst (InstancesStand X.numbers S atoms (task_instances X)) (sym soft_are) are.soft;
        names = names ∙ ap length (sym ex.numbered.names.preferences);
      };
      left_out = λ number want. leaves-out-there T X S G number (record { well = ex.well; numbered = ex.numbered; statics = ex.statics }) (all.whole G refl number want);
      only = all.only;
      may = all.may;
    }

-- ---- the steps over the least closed set

-- the atoms of the whole are below their count, and there is a bit for each
pub whole-below : (T : Task) (X : NumberedTask) (G : GroundTask) → IsWhole T X None G → HasAtomsBelow G × (length G.initial ≡ G.atoms)
whole-below T X G whole =
    let little = what-is-put-together-stands T X whole.statics whole.atoms whole.expanded G whole.together in
    (little.stands.below, little.stands.initial.count ∙ sym little.stands.count)

pub whole-grounds : (T : Task) (X : NumberedTask) (G : GroundTask) (set : forms.State) → IsWhole T X None G → IsClosed G set → IsInEachClosed G set → IsGroundingOf T (pruned set G)
whole-grounds T X G set whole closed least = is-grounding T X whole.statics whole.atoms whole.expanded G set whole.together (λ number. whole.left_out number tt) whole.may closed least

-- ---- some steps

-- the steps of a task are few where they are few by name
pub few-by-name : (T : Task) (X : NumberedTask) → WellFormed T → IsNumberedTask T X → step_count T ≤ step_count_limit → HasFewSteps X
few-by-name T X well is few = omega (arith, few, steps-are-counted T X well is)

pub whole-grounds-among : (T : Task) (X : NumberedTask) (those : List ℕ) (G : GroundTask) → IsWhole T X (Some those) G → IsGroundingAmong T those G
whole-grounds-among T X those G whole =
    let ex = whole.expanded in
    let little = what-is-put-together-stands T X whole.statics whole.atoms ex G whole.together in
    record {
      stands = (record { atoms = facts_of X.numbers whole.atoms; stands = little.stands }, λ k d within. whole.left_out (get_or those k d) (Contains-get_or those k d within));
      only = whole.only;
      changes = little.changes;
      constraints = little.constraints;
      conjuncts = have-possible-conjuncts T X whole.statics (record { well = ex.well; numbered = ex.numbered; statics = ex.statics }) G whole.may;
    }

-- ---- steps that are marked

kept-or-not : {A : Type 0} (xs : List A) (x : A) (b : Bool) → (if b then xs ++ x ∷ [] else xs) ≡ xs ++ (if b then x ∷ [] else [])
kept-or-not xs x true = refl
kept-or-not xs x false = sym (append-nil xs)

-- a step more, which is kept where its mark is set
pub marked-more : (set : forms.State) (kept kept' yielded rest items : List GroundStep) (step : GroundStep) (left left' : List Bool) (mark : Bool) → items ≡ step ∷ rest
    → (kept ≡ steps_over set yielded) × (left ≡ steps_that_may set items) → mark ≡ slice_index_or left 0 false → kept' ≡ (if mark then kept ++ step ∷ [] else kept) → left' ≡ drop 1 left
    → (kept' ≡ steps_over set (yielded ++ step ∷ [])) × (left' ≡ steps_that_may set rest)
marked-more set kept kept' yielded rest items step left left' mark are before is_mark keeps behind =
    let marks : left ≡ may_hold set step.pre ∷ steps_that_may set rest = before.1 ∙ ap (steps_that_may set) are in
    let may : mark ≡ may_hold set step.pre = is_mark ∙ ap (λ all. slice_index_or all 0 false) marks in (
      keeps ∙ (λ i. if may i then before.0 i ++ step ∷ [] else before.0 i)
          ∙ kept-or-not (steps_over set yielded) step (may_hold set step.pre)
          ∙ sym (filter-append (λ (made : GroundStep). may_hold set made.pre) yielded (step ∷ [])),
      behind ∙ ap (drop 1) marks,
    )

-- where all are marked, none is left out
pub all-marked : (set : forms.State) (steps : List GroundStep) → list_all (λ mark. mark) (steps_that_may set steps) ≡ true → steps ≡ steps_over set steps
all-marked set [] all = refl
all-marked set (step ∷ steps) all =
    let parts = and_parts (may_hold set step.pre) (list_all (λ mark. mark) (steps_that_may set steps)) all in
    ap (λ kept. step ∷ kept) (all-marked set steps parts.1) ∙ (λ i. if sym parts.0 i then step ∷ steps_over set steps else steps_over set steps)
