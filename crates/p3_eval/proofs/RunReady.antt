-- An accepted task has what is asked of a ground task before it is run.
use Rattle.std.proofs.Common.{◌≡◌, ◌∙◌, ℕ, ◌<◌, ◌≤◌, ◌^◌, refl, sym, ap, true, List, [], ◌∷◌, get_or, length, Option, None, Some, arith}
use Rattle.std.specs.Prelude.{IfSome, IsTrue}
use Rattle.std.proofs.lemmas.Bool.{and_parts}
use Rattle.std.proofs.lemmas.List.Folds.{list_all-append}
use Rattle.std.proofs.lemmas.Slice.Zip.{AllZip-long}
use Rattle.std.specs.Int.RustNames.{unsigned_abs}
use Rattle.std.specs.List.{list_all}
use Rattle.p3_base.specs.declared.refusal.Side.{Side}
use Rattle.p3_base.specs.declared.refusal.Side.TheVariants.{Source, Written}
use Rattle.p3_task.specs.Metrics.{prefs_by, step_prefs}
use Rattle.p3_task.specs.Names.{same_name}
use Rattle.p3_task.specs.Offences.{WellFormed}
use Rattle.p3_task.specs.Plans.{action_named, arguments}
use Rattle.p3_task.specs.Refusals.First.{task_refusal}
use Rattle.p3_task.specs.Refusals.Metric.{metric_refusals}
use Rattle.p3_task.specs.Refusals.Places.{first_some}
use Rattle.p3_task.specs.Sides.{size_limit}
use Rattle.p3_task.specs.StepNumbers.{IsOwn}
use Rattle.p3_task.specs.declared.state.Fact.{Fact}
use Rattle.p3_task.specs.declared.task.Action.{Action}
use Rattle.p3_task.specs.declared.task.Task.{Task}
use Rattle.p3_task.proofs.OnceLemmas.{find_found}
use Rattle.p3_task.proofs.StepNumberLaws.{steps_have_numbers}
use Rattle.p3_formula.specs.declared.target.Weights.{Weights}
use Rattle.p3_formula.specs.declared.task.GroundStep.{GroundStep}
use Rattle.p3_formula.specs.declared.task.GroundTask.{GroundTask}
use Rattle.p3_types.specs.Texts.{has_short_numbers, is_short, metric_numerals}
use Rattle.p3_ground.specs.StandsFor.{PrefStands, StandsBy, StandsIn, StepStands}
use Rattle.p3_metric.specs.Refused.{dear_amount_of, dear_value_of, early_refusals, large_of, nonlinear_of, too_many_places_of}
use Rattle.p3_metric.specs.Weighed.{HasWeights, IsWeights}
use Rattle.p3_metric.proofs.AcceptedLaws.{linear_where_accepted}
use Rattle.p3_metric.proofs.CheapLemmas.{short_start}
use Rattle.p3_metric.proofs.MentionLaws.{counts_names}
use Rattle.p3_metric.proofs.ShortLemmas.{short_starts}
use Rattle.p3_metric.proofs.WeighedLaws.{is_weights}
use Rattle.p3_run.specs.Runs.{CanBeRun, HasFewPrefs, HasSmallCost}
use Rattle.p3_eval.proofs.BaseLaws.{base_is_small}
use Rattle.p3_eval.proofs.CostLaws.{step_cost_within}
use Rattle.p3_eval.proofs.ReadyLaws.{asked_is_ready}
use Rattle.p3_eval.proofs.RefusalLaws.{each_none, no_metric, small_effect, small_precondition}
use Rattle.p3_eval.proofs.SizeLaws.{cheap_action, few_prefs}

greatest_size : (side : Side) → size_limit side ≤ size_limit Written
greatest_size Source = omega arith
greatest_size Written = omega arith

module _ (side : Side) (T : Task) (well : WellFormed T) (none : task_refusal side T ≡ None) where
  metric_fine : first_some (metric_refusals side T) ≡ None
  metric_fine = no_metric side T well none

  -- ---- the weights

  pub accepted_weights : (w : Weights) → HasWeights T w → IsWeights T w
  accepted_weights w has = is_weights T (linear_where_accepted side T metric_fine) (counts_names T well) w has

  module _ (short : IsTrue (has_short_numbers side T)) where
    early_fine : first_some (early_refusals side T) ≡ None
    early_fine =
        let each = each_none (metric_refusals side T) metric_fine in
        λ i. first_some (each 0 (nonlinear_of side T) refl i ∷ each 1 (too_many_places_of side T) refl i ∷ each 2 (dear_amount_of side T) refl i ∷ each 3 (dear_value_of side T) refl i ∷ [])

    metric_short : list_all (is_short side) (metric_numerals T.problem.metric) ≡ true
    unfolding has_short_numbers
    metric_short = (and_parts (list_all (is_short side) _) _ (sym (list_all-append (is_short side) _ (metric_numerals T.problem.metric)) ∙ short)).1

    base_small : (w : Weights) → HasWeights T w → unsigned_abs w.base < 2 ^ 126
    base_small w has =
        base_is_small T (linear_where_accepted side T metric_fine) w (accepted_weights w has) side metric_short
        (each_none (metric_refusals side T) metric_fine 4 (large_of side T) refl) (short_start side T (short_starts side T short) early_fine)

    -- ---- the steps

    module _ (atoms : List Fact) (G : GroundTask) (S : StandsBy T atoms G) (made : GroundStep) (kept : StepStands T atoms made) where
      own : IsOwn T kept.step
      own = (steps_have_numbers T well).own made.number kept.step kept.number

      small_cost : HasSmallCost made
      unfolding action_named
      small_cost = by made.cost refl
        where
          by : (o : Option ℕ) → made.cost ≡ o → IfSome o (λ cost. cost < 10 ^ 27)
          by None e = tt
          by (Some c) e =
              let (k, at, is) = find_found (λ (other : Action). same_name other.name.name kept.step.action) T.domain.actions own.action own.named in
              let within = step_cost_within T kept.step own.action c own.named (sym kept.is.cost ∙ e) in
              let cheap = cheap_action side T short k own.action at (small_effect side T well none kept.step.action own.action own.named) in
              omega (arith, within, cheap)

      few : HasFewPrefs made
      unfolding step_prefs
      few =
          let long = AllZip-long (PrefStands T atoms) (step_prefs T kept.step) made.prefs kept.is.prefs in
          let own_prefs = ap (λ o. length (prefs_by T kept.step o)) own.named in
          let sized = few_prefs T own.action.pre.body (arguments own.action kept.step) in
          let small = small_precondition side T well none kept.step.action own.action own.named in
          let most = greatest_size side in
          omega (arith, long, own_prefs, sized, small, most)

    pub accepted_can_be_run : (G : GroundTask) (w : Weights) → StandsIn T G → HasWeights T w → CanBeRun G w
    accepted_can_be_run G w stands has = record {
      ready = asked_is_ready side T G w well stands has none;
      costs = λ k d lt. small_cost stands.atoms G stands.stands (get_or G.steps k d) (stands.stands.kept k d lt);
      prefs = λ k d lt. few stands.atoms G stands.stands (get_or G.steps k d) (stands.stands.kept k d lt);
      base = base_small w has;
    }
