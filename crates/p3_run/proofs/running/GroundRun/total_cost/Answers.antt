use Rattle.std.proofs.Common.{◌≡◌, ◌∙◌, ◌+◌, ◌<◌, ◌^◌, pos, to_z, ap, subst, arith}
use Rattle.std.proofs.lemmas.Int.{ints}
use mir.Syntax.{w128}
use Rattle.p3_run.specs.Runs.{Ran, ground_total}
use Rattle.p3_run.proofs.TellLaws.{cheap, total_is}
use Rattle.p3_run.proofs.running.GroundRun.total_cost.Goals as goal

pub overflow_add-result : goal.overflow_add-result
overflow_add-result c = let h = cheap _ _ _ _ _ _ _ _ _ _ c.self.invariant in omega (arith, h, c.initial_cost-first.type_inv, c.from.ensures)

pub overflow_cast-result : goal.overflow_cast-result
overflow_cast-result c = let h = cheap _ _ _ _ _ _ _ _ _ _ c.self.invariant in omega (arith, ints, h, c.initial_cost-first.type_inv, c.from.ensures)

pub returns : goal.returns
returns c =
    let inside = c.self.inside in
    let h = cheap _ _ _ _ _ _ _ _ _ _ c.self.invariant in
    let small : c.from.result + inside.cost < 2 ^ 127 = omega (arith, h, c.initial_cost-first.type_inv, c.from.ensures) in
    subst (λ (ran : Ran). to_z w128 (c.from.result + inside.cost) ≡ pos (ground_total ran.task ran.plan)) c.self.view_is
    (omega (arith, ints, small) ∙ ap pos (ap (λ n. n + inside.cost) (c.from.ensures ∙ c.initial_cost-first.ensures) ∙ total_is _ _ _ _ _ _ _ _ _ _ c.self.invariant))
