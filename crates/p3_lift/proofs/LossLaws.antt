-- The loss above the base of a plan that a run has done: it is small, and it is what the metric and the weights give.
use Rattle.std.proofs.Common.{◌≡◌, ◌∙◌, ◌^◌, ◌<◌, ◌≤◌, true, length, refl, sym, ap, subst, arith, pos, None}
use Rattle.std.specs.Prelude.{ℤ, ◌-ℤ◌}
use Rattle.std.specs.List.{All}
use Rattle.std.specs.Int.RustNames.{unsigned_abs}
use Rattle.std.proofs.lemmas.Bool.{and_parts}
use Rattle.std.proofs.lemmas.Slice.Zip.{AllZip-long}
use Rattle.std.proofs.Math.IntN.{ℤ_set}
use lib.IntN.{negsuc}
use mir.Syntax.{w128}
use mir.Val.{SFits}
use Rattle.std.proofs.Math.Logic.{∥∥₁_elim}
use Rattle.std.proofs.lemmas.Int.{ints}
use Rattle.p3_base.specs.declared.refusal.Direction.{Direction}
use Rattle.p3_base.specs.declared.refusal.Direction.TheVariants.{Minimize, Maximize}
use Rattle.p3_task.specs.Metrics.{loss, signed, value}
use Rattle.p3_task.specs.Plans.{Plan, steps_fit}
use Rattle.p3_task.specs.StepNumbers.{HasNumber}
use Rattle.p3_task.specs.Validity.{Valid, first_fault, is_valid}
use Rattle.p3_task.specs.declared.task.Task.{Task}
use Rattle.p3_task.proofs.StepNumberLaws.{steps_have_numbers}
use Rattle.p3_task.proofs.ValidityLemmas.{valid_where_no_fault}
use Rattle.p3_formula.specs.GroundPlans.{GroundPlan, ground_loss, ground_visited}
use Rattle.p3_formula.specs.declared.target.Weights.{Weights}
use Rattle.p3_formula.specs.declared.task.GroundTask.{GroundTask}
use Rattle.p3_ground.specs.PlansByNumber.{AreAsked}
use Rattle.p3_run.specs.Groups.{watches_of}
use Rattle.p3_run.specs.Runs.{CanBeRun, Ran, begun, ground_metric, most_steps, signed_by}
use Rattle.p3_run.proofs.FollowLaws.{shape_of}
use Rattle.p3_run.proofs.RenewLaws.{few_groups}
use Rattle.p3_run.proofs.RunLaws.{light_steps}
use Rattle.p3_run.proofs.SumLaws.{loss_is}
use Rattle.p3_run.proofs.TallyLaws.{light_violating}
use Rattle.p3_eval.specs.Judged.{HasDone}
use Rattle.p3_eval.specs.Runs.{BelongTogether, OfItsPlan}
use Rattle.p3_eval.proofs.RunKept.{can_be_run}
use Rattle.p3_eval.proofs.RunLaws.{value_alike}
use Rattle.p3_eval.proofs.RunReady.{accepted_weights}
use Rattle.p3_lift.specs.Judging.{IsAboveBase, IsWorth}
use Rattle.p3_lift.specs.Lifting.{loss_above}

-- ---- it is small

module _ (G : GroundTask) (w : Weights) (can : CanBeRun G w) (small : All (λ weight. weight < 2 ^ 64) w.by_name) where
  light_loss : (numbers : GroundPlan) → length numbers ≤ most_steps → ground_loss G w numbers < 2 ^ 126
  light_loss numbers short =
      let W = ground_visited G numbers in
      let f = few_groups G can.ready.few in
      let s = (shape_of G W).groups in
      let few : length (watches_of W G) ≤ 100001 = omega (arith, f, s) in
      let a = loss_is G w numbers in
      let b = light_violating w.by_name small (watches_of W G) few in
      let d = light_steps G w can small numbers short in
      omega (arith, a, b, d)

-- ---- it is what the metric and the weights give

signed_alike : (way : Direction) (z : ℤ) → signed way (signed_by way z) ≡ z
signed_alike Minimize z = refl
signed_alike Maximize z = omega (arith, ints)

module _ (T : Task) (G : GroundTask) (w : Weights) (all : BelongTogether T G w) (metric : ℤ) where
  above_base : (plan : Plan) (numbers : GroundPlan) → All (λ weight. weight < 2 ^ 64) w.by_name → AreAsked T G plan numbers → steps_fit T plan ≡ true → length numbers ≤ most_steps → metric ≡ value T plan
      → IsAboveBase w.direction w.base metric
  unfolding ground_metric
  above_base plan numbers small are fit short is = record {
    more = ground_loss G w numbers;
    few = light_loss G w (can_be_run G w (record { task = T; together = all })) small numbers short;
    small = (can_be_run G w (record { task = T; together = all })).base;
    is = ap (signed w.direction) (is ∙ ∥∥₁_elim all.stands (ℤ_set _ _) (λ stands. ∥∥₁_elim all.weights (ℤ_set _ _) (λ has.
        value_alike T stands.atoms G stands.stands (steps_have_numbers T all.well) plan numbers are fit w (accepted_weights all.side T all.well all.accepted w has))))
        ∙ signed_alike w.direction _;
  }

  above_is_loss : (plan : Plan) (above : ℤ) → metric ≡ value T plan → above ≡ signed w.direction metric -ℤ w.base → above ≡ loss_above T plan
  unfolding loss value
  above_is_loss plan above is same = same ∙ ∥∥₁_elim all.weights (ℤ_set _ _) (λ has. λ i. signed (has.direction i) (is i) -ℤ has.base i)

-- ---- a run that has done a plan

-- a small number fits 128 bits
pub fits : (z : ℤ) → unsigned_abs z < 2 ^ 126 → SFits w128 z
fits (pos n) small = omega (arith, ints, small)
fits (negsuc n) small = omega (arith, ints, small)

valid_fits : (T : Task) (plan : Plan) → Valid T plan → steps_fit T plan ≡ true
unfolding is_valid
valid_fits T plan valid = (and_parts _ _ (and_parts _ _ valid).0).0

module _ (T : Task) (plan : Plan) (G : GroundTask) (w : Weights) (before now : Ran) (together : BelongTogether T G w) (begins : before ≡ begun G w) (done : HasDone T plan before now)
    (none : first_fault T plan ≡ None) (metric : ℤ) (told : OfItsPlan now (λ T plan. metric ≡ value T plan)) where
  valid : Valid T plan
  valid = (valid_where_no_fault T plan).1 none

  is_value : metric ≡ value T plan
  is_value =
      let task = done.task ∙ ap (λ (ran : Ran). ran.task) begins in
      let weights = done.weights ∙ ap (λ (ran : Ran). ran.weights) begins in
      told T (subst (λ other. BelongTogether T other now.weights) (sym task) (subst (BelongTogether T G) (sym weights) together)) plan done.numbers

  pub is_above : All (λ weight. weight < 2 ^ 64) w.by_name → length plan ≤ most_steps → IsAboveBase w.direction w.base metric
  is_above small few =
      above_base T G w together metric plan now.plan small (subst (λ other. AreAsked T other plan now.plan) (done.task ∙ ap (λ (ran : Ran). ran.task) begins) done.asked) (valid_fits T plan valid)
      (let long = AllZip-long (HasNumber T) plan now.plan done.numbers in omega (arith, long, few)) is_value

  pub is_worth : (above : ℤ) → above ≡ signed w.direction metric -ℤ w.base → IsWorth T plan (record { metric = metric; loss = above })
  is_worth above is = record { valid = valid; metric = is_value; loss = above_is_loss T G w together metric plan above is_value is }
