use Rattle.std.proofs.Common.{◌≡◌, ◌∙◌, Some, None, sym, subst}
use Rattle.std.proofs.lemmas.List.{get_or_default}
use Rattle.p3_run.specs.Groups.{Watch, watch_at}
use Rattle.p3_run.specs.Runs.{Ran, ground_verdict}
use Rattle.p3_run.specs.declared.answers.Verdict.TheVariants.{Valid, Goal, Unmet}
use Rattle.p3_run.proofs.TellLaws.{goal_below, goal_fails, goal_holds, some_group}
use Rattle.p3_run.proofs.running.GroundRun.finish.Goals as goal

pub eval-requires : goal.eval-requires
eval-requires c = goal_below _ _ _ _ _ _ _ _ _ _ c.self.invariant

pub returns-then-not-eval-clause-verdict : goal.returns-then-not-eval-clause-verdict
returns-then-not-eval-clause-verdict c =
    subst (λ (ran : Ran). Goal ≡ ground_verdict ran.task ran.plan) c.self.view_is
    (goal_fails _ _ _ _ _ _ _ _ _ _ c.self.invariant (sym c.eval.ensures ∙ c.if-not-eval.true))

pub returns-in-Some-clause-verdict : goal.returns-in-Some-clause-verdict
returns-in-Some-clause-verdict c =
    let watches = c.self.inside.groups.items in
    let group : Watch = c.index-hard.result.now in
    let some = some_group _ _ _ _ _ _ _ _ _ _ c.self.invariant in
    let at : group ≡ watch_at watches 0 = c.index-hard.ensures ∙ get_or_default watches 0 group _ some in
    subst (λ (ran : Ran). Unmet c.in-Some.place ≡ ground_verdict ran.task ran.plan) c.self.view_is
    (goal_holds _ _ _ _ _ _ _ _ _ _ c.self.invariant (sym c.eval.ensures ∙ c.if-not-eval.false) group at (Some c.in-Some.place) c.in-Some.ensures)

pub returns-in-None-clause-verdict : goal.returns-in-None-clause-verdict
returns-in-None-clause-verdict c =
    let watches = c.self.inside.groups.items in
    let group : Watch = c.index-hard.result.now in
    let some = some_group _ _ _ _ _ _ _ _ _ _ c.self.invariant in
    let at : group ≡ watch_at watches 0 = c.index-hard.ensures ∙ get_or_default watches 0 group _ some in
    subst (λ (ran : Ran). Valid ≡ ground_verdict ran.task ran.plan) c.self.view_is
    (goal_holds _ _ _ _ _ _ _ _ _ _ c.self.invariant (sym c.eval.ensures ∙ c.if-not-eval.false) group at None c.in-None.ensures)
