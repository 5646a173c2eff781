-- The actions of a begun target's steps, one step after another.
use Rattle.std.proofs.Common.{◌≡◌, ◌∙◌, ℕ, ◌+◌, ◌<◌, ◌≤◌, Bool, true, false, List, [], ◌∷◌, ◌++◌, length, take, get_or, refl, sym, ap, subst, arith, true≢false}
use Rattle.std.specs.List.{list_all}
use Rattle.std.proofs.lemmas.Bool.{and_from}
use Rattle.std.proofs.lemmas.List.{append-nil}
use Rattle.std.proofs.lemmas.List.Elements.{All-cons, All-nil}
use Rattle.p3_formula.specs.Conditions.{IsReady, IsWithinLimits, is_step_below, width_limit}
use Rattle.p3_formula.specs.Targets.{is_sized_action}
use Rattle.p3_formula.specs.declared.target.TargetAction.{TargetAction}
use Rattle.p3_formula.specs.declared.target.Weights.{Weights}
use Rattle.p3_formula.specs.declared.task.GroundStep.{GroundStep}
use Rattle.p3_formula.specs.declared.task.GroundTask.{GroundTask}
use Rattle.p3_simulation.specs.Assembled.{NoSteps, OneStep}
use Rattle.p3_simulation.specs.Naming.{is_wide, wide_steps}
use Rattle.p3_simulation.proofs.Sized.{steps_sized}
use Rattle.p3_compile.specs.Compiling.{IsBegun}
use Rattle.p3_compile.specs.Stepping.{AreMade, HasActions, HasNextActions, IsNextStep, IsStepReady, hard_monitors}
use Rattle.p3_compile.specs.declared.begun.BegunTarget.{BegunTarget}
use Rattle.p3_compile.proofs.AssembledLaws.{current_first, currents_inside, first_inside, frame_is, steps_ready}
use Rattle.p3_compile.proofs.StepLists.{current_room, one_more}
use Rattle.p3_compile.proofs.WideSteps.{wide_one}

-- ---- the next step

module _ (G : GroundTask) (weights : Weights) (begun : BegunTarget) (ready : IsReady G weights) (is : IsBegun G weights begun) where
  module _ (index : ℕ) (step : GroundStep) (within : index < length G.steps) (at : step ≡ get_or G.steps index step)
      (current : ℕ) (actions : List TargetAction) (made : AreMade begun.frame weights (take index G.steps) begun.current current actions) where
    pub next_step : IsNextStep begun weights step current
    next_step = record {
      frame_is = frame_is G weights begun.frame ready is.frame_is;
      ready = subst (IsStepReady begun.frame weights) (sym at) (steps_ready G weights begun.frame ready is.frame_is index step within);
      room = first_inside G weights begun is;
      small = is.room;
      own = current_room begun.frame weights G.steps index step within at begun.current current actions (current_first G weights begun is) made (length begun.names) (currents_inside G weights begun is);
    }

    pub one_step_more : (new : ℕ) (own : List TargetAction) → HasNextActions begun weights step current new own → AreMade begun.frame weights (take (index + 1) G.steps) begun.current new (actions ++ own)
    one_step_more new own has = one_more begun.frame weights G.steps index step within at begun.current current actions (current_first G weights begun is) made new own has.has

-- ---- the atoms of its actions have names

module _ (begun : BegunTarget) (weights : Weights) (step : GroundStep) (old new : ℕ) (next : IsNextStep begun weights step old) (actions : List TargetAction) (has : HasActions begun.frame weights step old new actions) where
  sized : list_all (is_sized_action (length begun.names)) actions ≡ true
  sized = by (is_wide weights.by_name step) refl
    where
      from_to : (from : ℕ) → begun.frame.first + width_limit < from → ((from < from + length (wide_steps weights.by_name (step ∷ []))) → from + length (wide_steps weights.by_name (step ∷ [])) ≤ length begun.names)
          → (is_wide weights.by_name step ≡ true → from ≡ old) → list_all (is_sized_action (length begun.names)) actions ≡ true
      from_to from far fits current =
          ap (list_all (is_sized_action (length begun.names))) (sym (append-nil actions))
          ∙ steps_sized begun.frame.go begun.frame.first (length begun.names) next.frame_is.questions next.room weights (hard_monitors begun.frame) begun.frame.monitors from _ (step ∷ []) (actions ++ [])
          (OneStep from _ _ step [] actions [] (has.are from current) (NoSteps _))
          (and_from (is_step_below begun.frame.go step) true next.ready.below refl)
          (All-cons (IsWithinLimits weights) step [] next.ready.limits (All-nil (IsWithinLimits weights)))
          far fits

      by : (b : Bool) → is_wide weights.by_name step ≡ b → list_all (is_sized_action (length begun.names)) actions ≡ true
      by true broad =
          let own = next.own broad in
          let one = ap length (wide_one weights.by_name step true broad) in
          let inside = own.1 in
          from_to old own.0 (λ some. omega (arith, one, inside)) (λ wide. refl)
      by false plain =
          let none = ap length (wide_one weights.by_name step false plain) in
          from_to (begun.frame.first + 201) (omega arith) (λ some. absurd (omega (arith, some, none))) (λ wide. absurd (true≢false (sym wide ∙ plain)))

  pub next_actions : HasNextActions begun weights step old new actions
  next_actions = record { has = has; sized = sized }
