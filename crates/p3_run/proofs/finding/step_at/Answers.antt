use Rattle.std.proofs.Common.{rules, ◌≡◌, ◌∙◌, ◌<◌, ◌==◌, nat_lt, false, length, get_or, sym, ap, arith}
use Rattle.std.proofs.lemmas.Bool.{eq-eqb, ne_eqb}
use Rattle.std.proofs.lemmas.List.{get_or_default}
use Rattle.std.proofs.lemmas.List.Sorted.{IsPartitionPoint-from_clause, IsPartitionedBy-ltb}
use Rattle.p3_formula.specs.declared.task.GroundStep.{GroundStep}
use Rattle.p3_run.proofs.FindLaws.{found_there, none_there}
use Rattle.p3_run.proofs.finding.step_at.Goals as goal
use Rattle.p3_run.proofs.finding.step_at.Goals.{else-place-steps-via-then-place-steps+else-steps-place, else-place-steps-via-else-place-steps}

pub returns-then-steps-place : goal.returns-then-steps-place
returns-then-steps-place c =
    let steps = c.args.steps.now in
    let number = c.args.number in
    let place = c.partition_point-place.result in
    let step : GroundStep = c.index-steps-place-then-steps-place.result in
    let within : place < length steps = c.if-place-steps.true in
    let same : step.number ≡ number =
    ap (λ (one : GroundStep). one.number) (c.index-steps-place-then-steps-place.is ∙ get_or_default steps place step c.index-steps-place.result within) ∙ c.if-steps-place.true in
    sym (found_there steps number place c.requires
    (IsPartitionPoint-from_clause (λ (one : GroundStep). nat_lt one.number number) steps place c.partition_point-place.ensures.partitioned (IsPartitionedBy-ltb (λ (one : GroundStep). one.number) steps number c.requires) (λ a r f' k. search rules))
    c.partition_point-place.ensures.bound step within c.index-steps-place-then-steps-place.is (eq-eqb step.number number same))

pub returns-else-place-steps : goal.returns-else-place-steps
returns-else-place-steps c =
    let steps = c.args.steps.now in
    let number = c.args.number in
    let place = c.partition_point-place.result in
    sym (none_there steps number place c.requires
    (IsPartitionPoint-from_clause (λ (one : GroundStep). nat_lt one.number number) steps place c.partition_point-place.ensures.partitioned (IsPartitionedBy-ltb (λ (one : GroundStep). one.number) steps number c.requires) (λ a r f' k. search rules))
    c.partition_point-place.ensures.bound
    (λ d within.
    elim c.else-place-steps.branch as (λ branch. ((get_or steps place d).number == number) ≡ false) [
      | else-place-steps-via-then-place-steps+else-steps-place w ↦
          ne_eqb (get_or steps place d).number number
          (λ e. w.if-steps-place.false (ap (λ (one : GroundStep). one.number) (get_or_default steps place w.index-steps-place.result d within) ∙ e))
      | else-place-steps-via-else-place-steps w ↦ absurd (omega (arith, within, w.if-place-steps.false))
    ]))
