use Rattle.p3_numbers.proofs.ScopeLemmas.{enter-more}
use Rattle.p3_numbers.proofs.scope.Scope.enter.Goals as goal

pub loop-k-preserved : goal.loop-k-preserved
loop-k-preserved c =
    enter-more _ c.loop-k.self _ c.args.variables.now c.loop-k.k _ c.loop-k-test.true c.loop-k.invariant c.in_ok-push.ensures.ok c.index-variables-variables.is
