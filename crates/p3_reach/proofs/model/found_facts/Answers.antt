use Rattle.std.proofs.Common.{◌+◌, sym, subst}
use Rattle.p3_reach.specs.Derived.{IsFactsUpTo}
use Rattle.p3_reach.proofs.DerivedLaws.{facts_not, facts_more}
use Rattle.p3_reach.proofs.model.found_facts.Goals as goal
use Rattle.p3_reach.proofs.model.found_facts.Goals.{then-facts-proposition+in_ok-add, else-facts-proposition}

pub loop-proposition-preserved : goal.loop-proposition-preserved
loop-proposition-preserved c =
    let at = c.loop-proposition.proposition in
    elim c.if-facts-proposition.branch [
      | then-facts-proposition+in_ok-add w ↦ subst (IsFactsUpTo (at + 1) c.args.facts.now) (sym w.found-is)
          (facts_more c.args.facts.now at c.loop-proposition.found c.loop-proposition.invariant c.loop-proposition-test.true w.add.new.self w.if-facts-proposition.true w.in_ok-add.ensures)
      | else-facts-proposition w ↦ subst (IsFactsUpTo (at + 1) c.args.facts.now) (sym w.found-is)
          (facts_not c.args.facts.now at c.loop-proposition.found c.loop-proposition.invariant c.loop-proposition-test.true w.if-facts-proposition.false)
    ]
