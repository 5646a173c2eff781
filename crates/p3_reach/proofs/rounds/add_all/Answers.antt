use Rattle.p3_reach.specs.Closed.{change_keeps}
use Rattle.p3_reach.proofs.GrownLaws.{grown_next}
use Rattle.p3_reach.proofs.rounds.add_all.Goals as goal

pub loop-change-preserved : goal.loop-change-preserved
loop-change-preserved c = grown_next change_keeps c.args.changes.now c.loop-change.change-index c.change-item.result c.args.atoms.now c.loop-change.atoms c.add.new.atoms
    c.loop-change-test.true c.change-item.is c.loop-change.invariant c.in_ok-is_settled.ensures
