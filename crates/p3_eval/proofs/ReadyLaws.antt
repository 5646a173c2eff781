-- An accepted task has what is asked of a ground task before it is compiled.
use Rattle.std.proofs.Common.{◌≡◌, ◌∙◌, ℕ, ◌+◌, ◌<◌, refl, sym, subst, List, get_or, Option, None, Some, arith}
use Rattle.std.specs.Prelude.{IsSome, sum_by}
use Rattle.std.proofs.lemmas.Slice.Zip.{AllZip-long}
use Rattle.p3_base.specs.declared.refusal.Side.{Side}
use Rattle.p3_task.specs.Constraints.{instances}
use Rattle.p3_task.specs.Offences.{WellFormed}
use Rattle.p3_task.specs.Refusals.First.{task_refusal}
use Rattle.p3_task.specs.StepNumbers.{HasStepNumbers, IsOwn}
use Rattle.p3_task.specs.declared.state.Fact.{Fact}
use Rattle.p3_task.specs.declared.task.Task.{Task}
use Rattle.p3_task.proofs.StepNumberLaws.{steps_have_numbers}
use Rattle.p3_formula.specs.Conditions.{HasNamesBelow, IsReady, IsWithinLimits, weight_bound}
use Rattle.p3_formula.specs.Weighted.{weight_of, weighted_cost}
use Rattle.p3_formula.specs.declared.target.Weights.{Weights}
use Rattle.p3_formula.specs.declared.task.GroundStep.{GroundStep}
use Rattle.p3_formula.specs.declared.task.GroundTask.{GroundTask}
use Rattle.p3_ground.specs.StandsFor.{SoftStands, StandsBy, StandsFor, StandsIn, StepStands}
use Rattle.p3_ground.specs.Sparse.{IsGroundingOf}
use Rattle.p3_ground.proofs.Extras.{made_width}
use Rattle.p3_ground.proofs.NamesBelow.{has_names_below}
use Rattle.p3_metric.specs.Weighed.{HasWeights}
use Rattle.p3_eval.proofs.CostLaws.{below_cost_bound}
use Rattle.p3_eval.proofs.RefusalLaws.{cheap, few_instances, narrow}

module _ (side : Side) (T : Task) (G : GroundTask) (w : Weights) (well : WellFormed T) (none : task_refusal side T ≡ None) (has : HasWeights T w) where
  module _ (atoms : List Fact) (S : StandsBy T atoms G) where
    K : HasStepNumbers T
    K = steps_have_numbers T well

    within_limits : (made : GroundStep) → StepStands T atoms made → IsWithinLimits w made
    within_limits made kept = record {
      width = λ costs. (
          let same = made_width T w has.by_name atoms G S K made.number kept.step made kept.number kept.is in
          let few = narrow side T well none kept.step.action own.action own.named in omega (arith, same, few));
      cost = λ costs. by made.cost refl costs;
    }
      where
        own : IsOwn T kept.step
        own = K.own made.number kept.step kept.number

        by : (o : Option ℕ) → made.cost ≡ o → IsSome o → weighted_cost w made + sum_by (weight_of w.by_name) made.prefs < weight_bound
        by None at costs = absurd (cc)
        by (Some c) at costs = below_cost_bound T w has atoms K made.number kept.step made kept.number kept.is weight_bound c (cheap side T well none kept.step.action own.action own.named) at

    ready : IsReady G w
    ready = record {
      atoms = S.below;
      bits = S.initial.count ∙ sym S.count;
      numbers = S.rising;
      names = subst (λ count. HasNamesBelow count G) (S.name_count ∙ sym has.count) (has_names_below T atoms G S);
      few = (let few = few_instances side T well none in let same = AllZip-long (SoftStands T atoms) (instances T) G.soft S.soft in omega (arith, few, same));
      limits = λ k d lt. within_limits (get_or G.steps k d) (S.kept k d lt);
    }

-- a ground task that stands for the task in some steps is ready for these
pub asked_is_ready : (side : Side) (T : Task) (G : GroundTask) (w : Weights) → WellFormed T → StandsIn T G → HasWeights T w → task_refusal side T ≡ None → IsReady G w
asked_is_ready side T G w well stands has none = ready side T G w well none has stands.atoms stands.stands

pub accepted_is_ready : (side : Side) (T : Task) (G : GroundTask) (w : Weights) → WellFormed T → StandsFor T G → HasWeights T w → task_refusal side T ≡ None → IsReady G w
accepted_is_ready side T G w well stands has none = ready side T G w well none has stands.atoms stands.stands

pub grounding_is_ready : (side : Side) (T : Task) (G : GroundTask) (w : Weights) → WellFormed T → IsGroundingOf T G → HasWeights T w → task_refusal side T ≡ None → IsReady G w
grounding_is_ready side T G w well grounding has none = ready side T G w well none has grounding.atoms grounding.stands
