use Rattle.std.proofs.Common.{sym, subst}
use Rattle.std.proofs.lemmas.List.Elements.{All-push}
use Rattle.p3_hierarchy.specs.Walks.{IsNext}
use Rattle.p3_hierarchy.specs.Nexts.{AreNext}
use Rattle.p3_hierarchy.specs.declared.walk.Next.{Next}
use Rattle.p3_hierarchy.proofs.walk.call.Goals as goal

pub loop-kind-preserved : goal.loop-kind-preserved
loop-kind-preserved c pairs names all before =
    subst (AreNext pairs names) (sym c.in_ok-push.ensures.items)
    (All-push (λ (one : Next). IsNext pairs names one.kind.now one.from) c.loop-kind.next.items _ (c.loop-kind.invariant pairs names all before)
    (all c.loop-kind.kind-index _ c.loop-kind-test.true))
