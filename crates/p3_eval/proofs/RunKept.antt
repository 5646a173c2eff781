-- What each run keeps, and what its answers say of the tasks that it is of.
use Rattle.std.proofs.Common.{◌≡◌, ◌∙◌, ℕ, suc, ◌-◌, ◌^◌, ◌<◌, refl, sym, ap, Bool, true, false, not, ◌&&◌, List, [], ◌∷◌, ◌++◌, length, arith, Option, Some, None, pos}
use Rattle.std.specs.Prelude.{ℤ, IfSome, is_some, slice_get, slice_index_or, zip, if◌then◌else◌}
use Rattle.std.specs.List.{list_all}
use Rattle.std.proofs.Props.{props}
use Rattle.std.proofs.Math.Logic.{∥∥₁_elim}
use Rattle.std.proofs.Math.Bool.{Bool-set, and-true}
use Rattle.std.proofs.Math.IntN.{ℤ_set}
use Rattle.std.proofs.Math.Nat.{ℕ_set}
use Rattle.p3_task.specs.Metrics.{cost, value, violated}
use Rattle.p3_task.specs.Names.{Name}
use Rattle.p3_task.specs.Plans.{Plan, steps_fit}
use Rattle.p3_task.specs.PreferenceNames.{ordered_names}
use Rattle.p3_task.specs.StepNumbers.{HasStepNumbers}
use Rattle.p3_task.specs.Validity.{Fault, Misfit, first_fault}
use Rattle.p3_task.specs.declared.task.Task.{Task}
use Rattle.p3_task.proofs.StepNumberLaws.{steps_have_numbers}
use Rattle.p3_formula.specs.Forms.{State, truth}
use Rattle.p3_formula.specs.GroundPlans as ground_plans
use Rattle.p3_formula.specs.GroundPlans.{GroundPlan, ground_fits, ground_violated, last_of, state_by, step_of, visited_from}
use Rattle.p3_formula.specs.declared.target.Weights.{Weights}
use Rattle.p3_formula.specs.declared.task.GroundStep.{GroundStep}
use Rattle.p3_formula.specs.declared.task.GroundTask.{GroundTask}
use Rattle.p3_ground.specs.PlansByNumber.{AreAsked, AreNumbers}
use Rattle.p3_ground.proofs.Asked.{kept_are_asked}
use Rattle.p3_ground.proofs.Counts.{counts_agree}
use Rattle.p3_run.specs.Runs.{CanBeRun, FalsePrecondition, MissingCost, Ran, begun, ground_fit, ground_metric, ground_misfit, ground_state, ground_total, ground_verdict, misfit_by, ran_after, stepped_by}
use Rattle.p3_run.specs.declared.answers.Stepped.{Stepped}
use Rattle.p3_run.specs.declared.answers.Stepped.TheVariants.{Done, NoCost, Precondition}
use Rattle.p3_run.specs.declared.answers.Verdict.{Verdict}
use Rattle.p3_eval.specs.Runs.{BelongTogether, HasTask, IsFaultOfAll, IsRun, IsStepped, OfItsPlan, OfItsStep, fault_of, misfit_of}
use Rattle.p3_eval.proofs.ReadyProps.{ready-prop}
use Rattle.p3_eval.proofs.RunLaws.{fault_alike, first_misfit, fit_alike, last_met, misfit_alike, total_alike, value_alike}
use Rattle.p3_eval.proofs.RunReady.{accepted_can_be_run, accepted_weights}

-- ---- one step more fits

some_visited : (G : GroundTask) (bits : State) (plan : GroundPlan) → 0 < length (visited_from G bits plan)
unfolding visited_from
some_visited G bits [] = omega arith
some_visited G bits (number ∷ plan) = omega arith

last_behind : (bits : State) (W : List State) → 0 < length W → last_of (bits ∷ W) ≡ last_of W
last_behind bits [] some = absurd (omega (arith, some))
last_behind bits (next ∷ W) some = let place : suc (suc (length W)) - 1 ≡ suc (suc (length W) - 1) = omega arith in ap (λ n. slice_index_or (bits ∷ next ∷ W) n []) place

abbrev all_fit : GroundTask → State → GroundPlan → Bool
all_fit G bits plan = list_all (λ (move : State × ℕ). ground_fits G move.0 move.1) (zip (visited_from G bits plan) plan)

fit_more : (G : GroundTask) (bits : State) (plan : GroundPlan) (number : ℕ) → all_fit G bits (plan ++ number ∷ []) ≡ (all_fit G bits plan && ground_fits G (last_of (visited_from G bits plan)) number)
unfolding visited_from
fit_more G bits [] number = and-true (ground_fits G bits number)
fit_more G bits (first ∷ plan) number =
    let later = state_by bits (step_of G first) in
    ap (λ rest. ground_fits G bits first && rest) (fit_more G later plan number)
    ∙ regrouped (ground_fits G bits first) (all_fit G later plan) _
    ∙ ap (λ last. (ground_fits G bits first && all_fit G later plan) && ground_fits G last number) (sym (last_behind bits (visited_from G later plan) (some_visited G later plan)))
  where
    regrouped : (a b c : Bool) → (a && (b && c)) ≡ ((a && b) && c)
    regrouped true b c = refl
    regrouped false b c = refl

done_fits : (state : State) (o : Option GroundStep) → stepped_by (misfit_by state o) ≡ Done → ground_plans.fits_by state o ≡ true
done_fits state None e = absurd (cc)
done_fits state (Some step) e = by (truth state step.pre) (is_some step.cost) e
  where
    by : (holds costs : Bool) → stepped_by (if not holds then Some FalsePrecondition else (if not costs then Some MissingCost else None)) ≡ Done → (holds && costs) ≡ true
    by true true e = refl
    by true false e = absurd (cc)
    by false costs e = absurd (cc)

-- ---- what each run keeps

-- what is asked of a ground task before it is run has one proof at most
small_cost-prop : (o : Option ℕ) → IsProp (IfSome o (λ cost. cost < 10 ^ 27))
small_cost-prop None = Prim.hlevel props
small_cost-prop (Some cost) = Prim.hlevel props

can_be_run-prop : (G : GroundTask) (w : Weights) → IsProp (CanBeRun G w)
can_be_run-prop G w = Prim.hlevel (props, ready-prop, small_cost-prop)

pub can_be_run : (G : GroundTask) (w : Weights) → HasTask G w → CanBeRun G w
can_be_run G w has =
    let all = has.together in
    ∥∥₁_elim all.stands (can_be_run-prop G w) (λ stands. ∥∥₁_elim all.weights (can_be_run-prop G w) (λ weights.
    accepted_can_be_run all.side has.task all.well all.accepted all.short G w stands weights))

pub begun_is_run : (G : GroundTask) (w : Weights) → HasTask G w → IsRun (begun G w)
unfolding ground_fit visited_from
begun_is_run G w has = record {
  fit = refl;
  names = ∥∥₁_elim has.together.stands (ℕ_set _ _) (λ stands. ∥∥₁_elim has.together.weights (ℕ_set _ _) (λ weights. weights.count ∙ sym stands.stands.name_count));
}

pub stepped_is_run : (ran : Ran) (number : ℕ) (stepped : Stepped) → IsRun ran → stepped ≡ stepped_by (ground_misfit ran.task (ground_state ran.task ran.plan) number) → IsRun (ran_after ran number stepped)
unfolding ground_fit ground_state
stepped_is_run ran number Done is e = record {
  fit = fit_more ran.task ran.task.initial ran.plan number ∙ (λ i. is.fit i && done_fits (ground_state ran.task ran.plan) (step_of ran.task number) (sym e) i);
  names = is.names;
}
stepped_is_run ran number Precondition is e = is
stepped_is_run ran number NoCost is e = is

-- ---- what the answers say

misfits-set : IsSet (Option Misfit)
misfits-set = Prim.hlevel props

faults-set : IsSet (Option Fault)
faults-set = Prim.hlevel props

module _ (ran : Ran) (is : IsRun ran) where
  module _ (T : Task) (all : BelongTogether T ran.task ran.weights) (plan : Plan) (are : AreNumbers T plan ran.plan) where
    K : HasStepNumbers T
    K = steps_have_numbers T all.well

    -- the steps that were done are there
    asked : AreAsked T ran.task plan ran.plan
    unfolding ground_fit
    asked = kept_are_asked T ran.task plan ran.plan are is.fit

    pub fit : steps_fit T plan ≡ true
    fit = ∥∥₁_elim all.stands (Bool-set _ _) (λ stands. fit_alike T stands.atoms ran.task stands.stands K plan ran.plan asked ∙ is.fit)

  pub told_misfit : (number : ℕ) (stepped : Stepped) → stepped ≡ stepped_by (ground_misfit ran.task (ground_state ran.task ran.plan) number) → OfItsStep ran number (IsStepped stepped)
  told_misfit number stepped e T all plan are left step has =
      let own = K T all plan are in
      ∥∥₁_elim all.stands (misfits-set _ _) (λ stands.
      misfit_alike T stands.atoms ran.task stands.stands own _ _ number step (last_met T stands.atoms ran.task stands.stands own plan ran.plan (asked T all plan are) (fit T all plan are)) (has, left) ∙ ap misfit_of (sym e))

  pub told_step_fault : (number : ℕ) (stepped : Stepped) → stepped ≡ stepped_by (ground_misfit ran.task (ground_state ran.task ran.plan) number) → OfItsStep ran number (IsFaultOfAll stepped)
  told_step_fault number stepped e T all plan are left step has rest kind why =
      first_misfit T plan step rest kind (fit T all plan are) (told_misfit number stepped e T all plan are left step has ∙ why)

  pub told_verdict : (verdict : Verdict) → verdict ≡ ground_verdict ran.task ran.plan → OfItsPlan ran (λ T plan. first_fault T plan ≡ fault_of verdict)
  told_verdict verdict e T all plan are =
      ∥∥₁_elim all.stands (faults-set _ _) (λ stands.
      fault_alike T stands.atoms ran.task stands.stands (K T all plan are) plan ran.plan (asked T all plan are) (fit T all plan are) ∙ ap fault_of (sym e))

  pub told_total : (total : ℤ) → total ≡ pos (ground_total ran.task ran.plan) → OfItsPlan ran (λ T plan. total ≡ pos (cost T plan))
  told_total total e T all plan are =
      e ∙ ap pos (∥∥₁_elim all.stands (ℕ_set _ _) (λ stands. sym (total_alike T stands.atoms ran.task stands.stands (K T all plan are) plan ran.plan (asked T all plan are) (fit T all plan are))))

  pub told_value : (metric : ℤ) → metric ≡ ground_metric ran.task ran.weights ran.plan → OfItsPlan ran (λ T plan. metric ≡ value T plan)
  told_value metric e T all plan are =
      ∥∥₁_elim all.stands (ℤ_set _ _) (λ stands. ∥∥₁_elim all.weights (ℤ_set _ _) (λ weights.
      e ∙ sym (value_alike T stands.atoms ran.task stands.stands (K T all plan are) plan ran.plan (asked T all plan are) (fit T all plan are) ran.weights (accepted_weights all.side T all.well all.accepted ran.weights weights))))

  pub told_count : (name count : ℕ) → count ≡ ground_violated ran.task ran.plan name → OfItsPlan ran (λ T plan. (word : Name) → slice_get (ordered_names T) name ≡ Some word → count ≡ violated T plan word)
  told_count name count e T all plan are word at =
      e ∙ ∥∥₁_elim all.stands (ℕ_set _ _) (λ stands. sym ((counts_agree T stands.atoms ran.task stands.stands (K T all plan are) plan ran.plan (asked T all plan are) (fit T all plan are)).counts name word at))
