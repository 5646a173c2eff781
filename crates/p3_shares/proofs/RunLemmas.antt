-- What a run answers, by its ground task, where it has done the steps of a plan.
use Rattle.std.proofs.Common.{◌≡◌, ◌∙◌, ℕ, ◌+◌, ◌<◌, ◌^◌, [], length, refl, sym, ap, subst, arith, Some, pos, ◌+ℤ◌, ◌-ℤ◌}
use Rattle.std.specs.Prelude.{ℤ, neg_ℤ, slice_get, slice_index_or}
use Rattle.std.specs.Int.RustNames.{unsigned_abs}
use Rattle.std.proofs.Math.Bool.{Bool-set}
use Rattle.std.proofs.Math.Logic.{∥∥₁_elim}
use Rattle.std.proofs.Math.Nat.{ℕ_set}
use Rattle.std.proofs.lemmas.Int.{ints}
use Rattle.std.proofs.lemmas.Option.{slice_get-get_or}
use Rattle.p3_base.specs.declared.refusal.Direction.{Direction}
use Rattle.p3_task.specs.Metrics.{cost, value, violated}
use Rattle.p3_task.specs.Names.{Name}
use Rattle.p3_task.specs.PreferenceNames.{ordered_names}
use Rattle.p3_task.specs.declared.task.Task.{Task}
use Rattle.p3_task.proofs.StepNumberLaws.{steps_have_numbers}
use Rattle.p3_formula.specs.GroundPlans.{ground_cost, ground_loss, ground_violated}
use Rattle.p3_formula.specs.declared.target.Weights.{Weights}
use Rattle.p3_formula.specs.declared.task.GroundTask.{GroundTask}
use Rattle.p3_run.specs.Runs.{CanBeRun, Ran, ground_metric, ground_total, signed_by}
use Rattle.p3_eval.specs.Runs.{BelongTogether, IsRun, OfItsPlan}
use Rattle.p3_eval.specs.declared.grounded.Grounded.{Grounded}
use Rattle.p3_eval.proofs.RunKept.{begun_is_run, can_be_run, told_count, told_total, told_value}
use Rattle.p3_eval.proofs.RunLaws.{fit_alike}
use Rattle.p3_eval.proofs.WholeRuns.{grounded_together}
use Rattle.p3_shares.specs.Sharing.{CanShare, loss_by}
use Rattle.p3_shares.proofs.BoundLemmas.{light}

module _ (grounded : Grounded) (ran : Ran) (can : CanShare grounded ran) where
  abbrev pub T : Task
  T = grounded.checked.now.task

  abbrev pub G : GroundTask
  G = ran.task

  pub together : BelongTogether T ran.task ran.weights
  together =
      subst (λ G. BelongTogether T G ran.weights) (sym can.done.done.task)
      (subst (λ w. BelongTogether T grounded.ground_task.now w) (sym can.done.done.weights) (grounded_together grounded))

  pub can_run : CanBeRun ran.task ran.weights
  can_run = can_be_run ran.task ran.weights (record { task = T; together = together })

  pub is_run : IsRun ran
  is_run = record {
    fit = ∥∥₁_elim together.stands (Bool-set _ _) (λ stands.
        sym (fit_alike T stands.atoms ran.task stands.stands (steps_have_numbers T together.well) can.done.plan ran.plan can.done.done.asked) ∙ can.done.fit);
    names = (begun_is_run ran.task ran.weights (record { task = T; together = together })).names;
  }

  -- ---- answers

  pub total_is : (total : ℤ) → OfItsPlan ran (λ T plan. total ≡ pos (cost T plan)) → total ≡ pos (ground_total ran.task ran.plan)
  total_is total told =
      told T together can.done.plan can.done.done.numbers
      ∙ sym (told_total ran is_run (pos (ground_total ran.task ran.plan)) refl T together can.done.plan can.done.done.numbers)

  pub value_is : (metric : ℤ) → OfItsPlan ran (λ T plan. metric ≡ value T plan) → metric ≡ ground_metric ran.task ran.weights ran.plan
  value_is metric told =
      told T together can.done.plan can.done.done.numbers
      ∙ sym (told_value ran is_run (ground_metric ran.task ran.weights ran.plan) refl T together can.done.plan can.done.done.numbers)

  pub named : length ran.weights.by_name ≡ length (ordered_names T)
  named = ∥∥₁_elim together.weights (ℕ_set _ _) (λ weights. weights.count)

  pub count_is : (number count : ℕ) → number < length ran.weights.by_name
      → OfItsPlan ran (λ T plan. (word : Name) → slice_get (ordered_names T) number ≡ Some word → count ≡ violated T plan word) → count ≡ ground_violated ran.task ran.plan number
  count_is number count within told =
      let word = slice_index_or (ordered_names T) number [] in
      let at : slice_get (ordered_names T) number ≡ Some word = slice_get-get_or (ordered_names T) number [] (let long = named in omega (arith, long, within)) in
      told T together can.done.plan can.done.done.numbers word at
      ∙ sym (told_count ran is_run number (ground_violated ran.task ran.plan number) refl T together can.done.plan can.done.done.numbers word at)

  pub small_loss : unsigned_abs (loss_by ran) < 2 ^ 127
  small_loss = by ran.weights.base can_run.base
    where
      by : (base : ℤ) → unsigned_abs base < 2 ^ 126 → unsigned_abs (base +ℤ pos (ground_loss ran.task ran.weights ran.plan)) < 2 ^ 127
      by base small = let more = light ran.task ran.weights can_run can.small ran.plan can.few in omega (arith, ints, small, more)

  -- the value is the loss, or that with its sign turned
  pub value_by : (metric : ℤ) → OfItsPlan ran (λ T plan. metric ≡ value T plan) → (w : Weights) → w ≡ grounded.weights.now → (way : Direction) → w.direction ≡ way → metric ≡ signed_by way (loss_by ran)
  unfolding ground_metric
  value_by metric told w is way at = value_is metric told ∙ ap (λ way. signed_by way (loss_by ran)) (ap (λ (w : Weights). w.direction) (can.done.done.weights ∙ sym is) ∙ at)

  pub turned : (metric : ℤ) → metric ≡ neg_ℤ (loss_by ran) → pos 0 -ℤ metric ≡ loss_by ran
  turned metric is = omega (arith, ints, is)

  -- ---- the cost

  pub total_by : ground_total ran.task ran.plan ≡ ran.task.initial_cost + ground_cost ran.task ran.plan
  unfolding ground_total
  total_by = refl
