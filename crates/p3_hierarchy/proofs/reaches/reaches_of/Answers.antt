use Rattle.std.proofs.Common.{◌≡◌, ◌+◌, ◌-◌, subst, arith}
use Rattle.std.specs.Prelude.{filter_map}
use Rattle.p3_task.specs.Types.{pair_of}
use Rattle.p3_hierarchy.specs.Reaches.{AreReached}
use Rattle.p3_hierarchy.proofs.ReachLemmas.{reached-set}
use Rattle.p3_hierarchy.proofs.reaches.reaches_of.Goals as goal

pub loop-place-preserved : goal.loop-place-preserved
loop-place-preserved c =
    let pairs = filter_map pair_of c.args.filed.now.kinds.now in
    let names = c.args.walk.now.names in
    let again : c.loop-place.place ≡ c.loop-place.place - 1 + 1 = omega (arith, c.loop-place-test.true) in
    record {
      within = omega (arith, c.loop-place.invariant.within);
      known = reached-set pairs names (c.loop-place.place - 1) c.loop-place.reaches.items c.reach_of.result (omega (arith, c.loop-place.invariant.within, c.loop-place-test.true))
          (subst (λ place. AreReached pairs names place c.loop-place.reaches.items) again c.loop-place.invariant.known) c.reach_of.ensures;
    }
