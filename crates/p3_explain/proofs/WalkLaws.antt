-- The marks and the reasons of steps stay right of one step more.
use Rattle.std.proofs.Common.{◌≡◌, ◌∙◌, ℕ, suc, ◌+◌, List, [], ◌∷◌, ◌++◌, length, refl, sym, ap, subst, arith, Option, Some, None}
use Rattle.std.specs.Prelude.{IsTrue}
use Rattle.std.specs.List.{All, enumerate_from, flat_map, list_all}
use Rattle.std.proofs.lemmas.Grind.{flat_map-append}
use Rattle.std.proofs.lemmas.List.{append-nil, length-append}
use Rattle.p3_base.specs.declared.showing.Reason.{Reason}
use Rattle.p3_formula.specs.Forms.{State}
use Rattle.p3_formula.specs.GroundPlans.{GroundPlan, ground_moves, ground_visited, state_by, step_of, visited_from}
use Rattle.p3_formula.specs.Next.{after}
use Rattle.p3_formula.specs.Targets.{is_sized_change}
use Rattle.p3_formula.specs.declared.target.Weights.{Weights}
use Rattle.p3_formula.specs.declared.task.GroundStep.{GroundStep}
use Rattle.p3_formula.specs.declared.task.GroundTask.{GroundTask}
use Rattle.p3_run.specs.Groups.{modal_at}
use Rattle.p3_run.specs.Runs.{CanBeRun, Ran, begun, ground_state}
use Rattle.p3_run.specs.Steps.{HasBodyBelow, IsByNumber}
use Rattle.p3_run.proofs.FindLaws.{by_number}
use Rattle.p3_run.proofs.RunLaws.{bodies_below, effects_sized, length-state}
use Rattle.p3_run.proofs.WalkLaws.{front, length-moves, moves_more, state_more, visited_ends, visited_more, visited_none}
use Rattle.p3_marks.specs.Marked.{AreMarks, Marked, followed}
use Rattle.p3_marks.specs.Reasons.{move_reasons, pref_reasons, step_reasons, steps_reasons}
use Rattle.p3_marks.proofs.FollowLaws.{all_follow}
use Rattle.p3_marks.proofs.MarkLaws.{mark_stays}
use Rattle.p3_marks.proofs.ReasonLaws.{enumerate_push}
use Rattle.p3_types.specs.declared.finding.Found.{Found}
use Rattle.p3_types.specs.declared.finding.Found.TheVariants.{Number, UnknownAction, Arguments}
use Rattle.p3_eval.specs.Judged.{ran_with}
use Rattle.p3_eval.specs.declared.fault.PlanFault.{PlanFault}
use Rattle.p3_explain.specs.Walked.{IsMarked, kept_of}

module _ (G : GroundTask) where
  visited_count : (state : State) (plan : GroundPlan) → length (visited_from G state plan) ≡ suc (length plan)
  unfolding visited_from
  visited_count state [] = refl
  visited_count state (number ∷ plan) = ap suc (visited_count (state_by state (step_of G number)) plan)

  pub visited_long : (plan : GroundPlan) → length (ground_visited G plan) ≡ suc (length plan)
  visited_long plan = visited_count G.initial plan

  no_steps : steps_reasons G [] ≡ []
  unfolding steps_reasons visited_from
  no_steps = refl

  pub nothing_done : (marks : Marked) → AreMarks G (G.initial ∷ []) marks → AreMarks G (ground_visited G []) marks
  nothing_done marks all = subst (λ W. AreMarks G W marks) (sym (visited_none G)) all

  pub no_reasons : [] ≡ steps_reasons G []
  no_reasons = sym no_steps

  module _ (plan : GroundPlan) (number : ℕ) where
    abbrev state : State
    state = ground_state G plan

    abbrev more : GroundPlan
    more = plan ++ number ∷ []

    steps_more : steps_reasons G more ≡ steps_reasons G plan ++ step_reasons state (length plan + 1) (step_of G number)
    unfolding steps_reasons
    steps_more =
        ap (λ moves. flat_map (move_reasons G) (enumerate_from 1 moves)) (moves_more G plan number)
        ∙ ap (flat_map (move_reasons G)) (enumerate_push 1 (ground_moves G plan) (ground_state G plan, number) (length plan + 1) (let l = length-moves G plan in omega (arith, l)))
        ∙ flat_map-append (move_reasons G) (enumerate_from 1 (ground_moves G plan)) ((length plan + 1, (ground_state G plan, number)) ∷ [])
        ∙ ap (λ last. flat_map (move_reasons G) (enumerate_from 1 (ground_moves G plan)) ++ last) (append-nil (step_reasons (ground_state G plan) (length plan + 1) (step_of G number)))

    module _ (marks : Marked) (all : AreMarks G (ground_visited G plan) marks) where
      at_front : AreMarks G (front G G.initial plan ++ state ∷ []) marks
      at_front = subst (λ W. AreMarks G W marks) (visited_ends G plan) all

      -- where the step is left out, the state stays
      stays : step_of G number ≡ None → AreMarks G (ground_visited G more) marks
      stays none = subst (λ W. AreMarks G W marks) (sym same) again where
        same : ground_visited G more ≡ (front G G.initial plan ++ state ∷ []) ++ state ∷ []
        same = visited_more G plan number ∙ (λ i. visited_ends G plan i ++ state_by (ground_state G plan) (none i) ∷ [])

        again : AreMarks G ((front G G.initial plan ++ state ∷ []) ++ state ∷ []) marks
        again = record {
          follows = at_front.follows;
          right = λ reader is. at_front.right reader is ∙ sym (mark_stays (front G G.initial plan) (ground_state G plan) (ground_state G plan) (modal_at G reader) (λ atom read. refl));
        }

      -- where it is kept, the operators that read what it names follow
      follows_on : (step : GroundStep) → step_of G number ≡ Some step → (next : ℕ) → next ≡ length more → (later : State) → later ≡ ground_state G more
          → AreMarks G (ground_visited G more) (followed G next later step.effects marks)
      follows_on step is next long later at =
          subst (λ W. AreMarks G W (followed G next later step.effects marks)) (sym same)
          (subst (λ s. AreMarks G whole (followed G next s step.effects marks)) here
          (subst (λ n. AreMarks G whole (followed G n (after (ground_state G plan) step.effects) step.effects marks)) count
          (all_follow G (front G G.initial plan) (ground_state G plan) step.effects marks at_front)))
        where
          whole : List State
          whole = (front G G.initial plan ++ ground_state G plan ∷ []) ++ after (ground_state G plan) step.effects ∷ []

          same : ground_visited G more ≡ (front G G.initial plan ++ ground_state G plan ∷ []) ++ after (ground_state G plan) step.effects ∷ []
          same = visited_more G plan number ∙ (λ i. visited_ends G plan i ++ state_by (ground_state G plan) (is i) ∷ [])

          here : after (ground_state G plan) step.effects ≡ later
          here = sym (at ∙ state_more G plan number ∙ ap (state_by (ground_state G plan)) is)

          count : length (front G G.initial plan ++ ground_state G plan ∷ []) ≡ next
          count = ap length (sym (visited_ends G plan)) ∙ visited_long plan ∙ (let l = length-append plan (number ∷ []) in omega (arith, l, long))

-- ---- runs

module _ (ran : Ran) (marks : Marked) (prefs : List Reason) (all : IsMarked ran marks prefs) where
  pub still_marked : (found : Found) → kept_of ran.task found ≡ None → (new : Ran) → new ≡ ran_with ran found None → IsMarked new marks prefs
  still_marked (Number number) none new is = subst (λ (r : Ran). IsMarked r marks prefs) (sym is) (record {
    right = stays ran.task ran.plan number marks all.right none;
    told = all.told
        ∙ sym (steps_more ran.task ran.plan number
        ∙ ap (λ o. steps_reasons ran.task ran.plan ++ step_reasons (ground_state ran.task ran.plan) (length ran.plan + 1) o) none
        ∙ append-nil (steps_reasons ran.task ran.plan));
  })
  still_marked UnknownAction none new is = subst (λ (r : Ran). IsMarked r marks prefs) (sym is) all
  still_marked Arguments none new is = subst (λ (r : Ran). IsMarked r marks prefs) (sym is) all

  -- with the marks and the reasons of the step that is found
  abbrev HasStep : GroundStep → Ran → Type 0
  HasStep step new = (later : State) → later ≡ ground_state new.task new.plan → (next : ℕ) → next ≡ length new.plan
      → IsMarked new (followed ran.task next later step.effects marks) (prefs ++ pref_reasons (ground_state ran.task ran.plan) (length ran.plan + 1) step.prefs)

  pub marked_more : (found : Found) (step : GroundStep) → kept_of ran.task found ≡ Some step → (new : Ran) → new ≡ ran_with ran found None → HasStep step new
  marked_more (Number number) step kept new is = subst (HasStep step) (sym is) (λ later at next long. record {
    right = follows_on ran.task ran.plan number marks all.right step kept next long later at;
    told = ap (λ list. list ++ pref_reasons (ground_state ran.task ran.plan) (length ran.plan + 1) step.prefs) all.told
        ∙ sym (steps_more ran.task ran.plan number ∙ ap (λ o. steps_reasons ran.task ran.plan ++ step_reasons (ground_state ran.task ran.plan) (length ran.plan + 1) o) kept);
  })
  marked_more UnknownAction step kept new is = absurd (cc)
  marked_more Arguments step kept new is = absurd (cc)

module _ (ran : Ran) (can : CanBeRun ran.task ran.weights) where
  pub steps_by_number : IsByNumber ran.task.steps
  steps_by_number = by_number ran.task.step_count 0 ran.task.steps can.ready.numbers

  pub kept_below : (found : Found) (step : GroundStep) → kept_of ran.task found ≡ Some step → All (HasBodyBelow (length (ground_state ran.task ran.plan))) step.prefs
  kept_below (Number number) step kept = subst (λ count. All (HasBodyBelow count) step.prefs) (sym (length-state ran.task ran.weights can ran.plan)) (bodies_below ran.task ran.weights can number step kept)
  kept_below UnknownAction step kept = absurd (cc)
  kept_below Arguments step kept = absurd (cc)

  pub bits_after : (found : Found) (fault : Option PlanFault) (new : Ran) → new ≡ ran_with ran found fault → length (ground_state new.task new.plan) ≡ ran.task.atoms
  bits_after (Number number) None new is = subst (λ (r : Ran). length (ground_state r.task r.plan) ≡ ran.task.atoms) (sym is) (length-state ran.task ran.weights can (ran.plan ++ number ∷ []))
  bits_after (Number number) (Some fault) new is = subst (λ (r : Ran). length (ground_state r.task r.plan) ≡ ran.task.atoms) (sym is) (length-state ran.task ran.weights can ran.plan)
  bits_after UnknownAction fault new is = subst (λ (r : Ran). length (ground_state r.task r.plan) ≡ ran.task.atoms) (sym is) (length-state ran.task ran.weights can ran.plan)
  bits_after Arguments fault new is = subst (λ (r : Ran). length (ground_state r.task r.plan) ≡ ran.task.atoms) (sym is) (length-state ran.task ran.weights can ran.plan)

  pub sized_after : (found : Found) (step : GroundStep) → kept_of ran.task found ≡ Some step → (count : ℕ) → count ≡ ran.task.atoms → IsTrue (list_all (is_sized_change count) step.effects)
  sized_after (Number number) step kept count long = subst (λ n. IsTrue (list_all (is_sized_change n) step.effects)) (sym long) (effects_sized ran.task ran.weights can number step kept)
  sized_after UnknownAction step kept count long = absurd (cc)
  sized_after Arguments step kept count long = absurd (cc)

-- a step that is tried leaves the weights as they are
pub weights_stay : (ran : Ran) (found : Found) (fault : Option PlanFault) → (ran_with ran found fault).weights ≡ ran.weights
weights_stay ran (Number number) None = refl
weights_stay ran (Number number) (Some fault) = refl
weights_stay ran UnknownAction fault = refl
weights_stay ran Arguments fault = refl

-- before the first step
pub begun_marked : (G : GroundTask) (w : Weights) (ran : Ran) → ran ≡ begun G w → (task : GroundTask) → task ≡ G → (marks : Marked) → AreMarks task (task.initial ∷ []) marks → (prefs : List Reason) → prefs ≡ [] → IsMarked ran marks prefs
begun_marked G w ran is task same marks all prefs none = subst (λ (r : Ran). IsMarked r marks prefs) (sym is) (record {
  right = nothing_done G marks (subst (λ (t : GroundTask). AreMarks t (t.initial ∷ []) marks) same all);
  told = none ∙ no_reasons G;
})
