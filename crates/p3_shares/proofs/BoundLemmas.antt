-- No part of the loss of a run is large.
use Rattle.std.proofs.Common.{◌≡◌, ◌∙◌, ℕ, ◌+◌, ◌*◌, ◌^◌, ◌<◌, ◌≤◌, List, get_or, length, refl, ap, arith, sum_by}
use Rattle.std.specs.Prelude.{slice_index_or}
use Rattle.std.specs.List.{All, range_with_len}
use Rattle.std.proofs.lemmas.List.FromFn.{get_or-range_with_len, length-range_with_len}
use Rattle.std.proofs.lemmas.List.Sums.{get_or-le-sum_by}
use Rattle.p3_formula.specs.GroundPlans.{GroundPlan, ground_cost, ground_loss, ground_violated, ground_visited}
use Rattle.p3_formula.specs.declared.target.Weights.{Weights}
use Rattle.p3_formula.specs.declared.task.GroundTask.{GroundTask}
use Rattle.p3_run.specs.Groups.{watches_of}
use Rattle.p3_run.specs.Runs.{CanBeRun, most_steps}
use Rattle.p3_run.proofs.FollowLaws.{shape_of}
use Rattle.p3_run.proofs.RenewLaws.{few_groups}
use Rattle.p3_run.proofs.RunLaws.{cheap_steps, light_steps}
use Rattle.p3_run.proofs.SumLaws.{loss_is}
use Rattle.p3_run.proofs.TallyLaws.{light_violating}

module _ (G : GroundTask) (w : Weights) (can : CanBeRun G w) (small : All (λ weight. weight < 2 ^ 64) w.by_name) (plan : GroundPlan) (few : length plan ≤ most_steps) where
  -- what the violations of a name add
  abbrev pub added : ℕ → ℕ
  added name = slice_index_or w.by_name name 0 * ground_violated G plan name

  abbrev pub names : List ℕ
  names = range_with_len 0 (length w.by_name)

  pub by_parts : ground_loss G w plan ≡ w.total_cost * ground_cost G plan + sum_by added names
  unfolding ground_loss
  by_parts = refl

  pub light : ground_loss G w plan < 2 ^ 126
  light =
      let groups = few_groups G can.ready.few in
      let shape = (shape_of G (ground_visited G plan)).groups in
      let soft = light_violating w.by_name small (watches_of (ground_visited G plan) G) (omega (arith, groups, shape)) in
      let steps = light_steps G w can small plan few in
      let is = loss_is G w plan in
      omega (arith, is, soft, steps)

  pub light_cost : w.total_cost * ground_cost G plan < 2 ^ 127
  light_cost = let parts = by_parts in let all = light in omega (arith, parts, all)

  pub light_name : (name : ℕ) → name < length w.by_name → added name < 2 ^ 127
  light_name name within =
      let long = length-range_with_len 0 (length w.by_name) in
      let at : get_or names name 0 ≡ name = get_or-range_with_len 0 (length w.by_name) name 0 within ∙ omega arith in
      let one = get_or-le-sum_by added names name 0 (omega (arith, long, within)) in
      let same = ap added at in
      let parts = by_parts in
      let all = light in
      omega (arith, one, same, parts, all)

  pub cheap : ground_cost G plan < 2 ^ 127
  cheap = let h = cheap_steps G w can small plan few in omega (arith, h)
