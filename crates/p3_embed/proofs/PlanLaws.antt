-- The numbers of a valid plan are a valid ground plan, and places of its source are a plan.
use Rattle.std.proofs.Common.{◌≡◌, ◌∙◌, ℕ, List, [], ◌∷◌, None, true, refl, sym, ap, subst}
use Rattle.std.specs.Prelude.{slice_index_or}
use Rattle.std.proofs.Math.Bool.{Bool-set}
use Rattle.std.proofs.Math.Logic.{∥∥₁_elim}
use Rattle.p3_task.specs.Plans.{Plan}
use Rattle.p3_task.specs.StepNumbers.{HasStepNumbers}
use Rattle.p3_task.specs.Validity.{Valid, first_fault}
use Rattle.p3_task.specs.declared.task.Task.{Task}
use Rattle.p3_task.proofs.StepNumberLaws.{steps_have_numbers}
use Rattle.p3_task.proofs.ValidityLemmas.{valid_where_no_fault}
use Rattle.p3_formula.specs.GroundPlans.{GroundPlan, GroundValid}
use Rattle.p3_formula.specs.Targets.{action_names}
use Rattle.p3_formula.specs.declared.target.Target.{Target}
use Rattle.p3_formula.specs.declared.target.Weights.{Weights}
use Rattle.p3_formula.specs.declared.task.GroundTask.{GroundTask}
use Rattle.p3_ground.specs.PlansByNumber.{AreNumbers, are_bare, names_of}
use Rattle.p3_ground.specs.StandsFor.{LeavesOutOnlyUnfit}
use Rattle.p3_ground.proofs.Asked.{all_are_asked}
use Rattle.p3_ground.proofs.Validity.{valid_alike}
use Rattle.p3_eval.specs.Runs.{BelongTogether}
use Rattle.p3_embed.specs.Embeds.{IsEmbedded, names_at}
use Rattle.p3_embed.specs.Plans.{IsEmbeddedPlan, steps_at}

module _ (T : Task) (G : GroundTask) (w : Weights) (together : BelongTogether T G w) (plan : Plan) (free : first_fault T plan ≡ None) where
  K : HasStepNumbers T
  K = steps_have_numbers T together.well

  valid : Valid T plan
  valid = (valid_where_no_fault T plan).1 free

  pub numbers_are_valid : LeavesOutOnlyUnfit T G → (numbers : GroundPlan) → AreNumbers T plan numbers → GroundValid G numbers
  numbers_are_valid left numbers are = ∥∥₁_elim together.stands (Bool-set _ _) (λ stands. sym (valid_alike T stands.atoms G stands.stands K plan numbers (all_are_asked T G left plan numbers are)) ∙ valid)

-- ---- the steps of actions at places

pub names_of_steps : (X : Target) (places : List ℕ) → names_of (steps_at X places) ≡ names_at X places
names_of_steps X [] = refl
names_of_steps X (place ∷ places) = ap (λ names. slice_index_or (action_names X) place [] ∷ names) (names_of_steps X places)

steps_are_bare : (X : Target) (places : List ℕ) → are_bare (steps_at X places) ≡ true
steps_are_bare X [] = refl
steps_are_bare X (place ∷ places) = steps_are_bare X places

pub source_is : (T : Task) (G : GroundTask) (X : Target) (plan : Plan) (numbers : GroundPlan) (places : List ℕ) → AreNumbers T plan numbers → IsEmbedded G X numbers (names_at X places) → IsEmbeddedPlan T G X plan (steps_at X places)
source_is T G X plan numbers places are embedded = record {
  numbers = numbers;
  are = are;
  bare = steps_are_bare X places;
  embedded = subst (IsEmbedded G X numbers) (sym (names_of_steps X places)) embedded;
}
