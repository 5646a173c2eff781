use Rattle.p3_resolve.specs.Listed.{formula_lists}
use Rattle.p3_resolve.proofs.GatherLemmas.{list-more}
use Rattle.p3_resolve.proofs.gather.Gathered.+formulas.Goals as goal

pub formulas-loop-part-preserved : goal.formulas-loop-part-preserved
formulas-loop-part-preserved t c =
    list-more formula_lists c.args.self.now c.loop-part.self c.formula.new.self c.args.parts.now c.loop-part.part-index c.part-item.result
    c.loop-part-test.true c.part-item.is c.loop-part.invariant c.in_ok-formula.ensures
