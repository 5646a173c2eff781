use Rattle.std.proofs.Common.{◌∙◌, sym, subst}
use Rattle.p3_reach.specs.Closed.{change_keeps}
use Rattle.p3_reach.specs.Grown.{IsGrown}
use Rattle.p3_reach.proofs.GrownLaws.{grown_by_change}
use Rattle.p3_reach.proofs.rounds.grow_by_change.Goals as goal

pub returns-then-may_hold : goal.returns-then-may_hold
returns-then-may_hold c = subst (IsGrown (λ set. change_keeps set c.args.change.now) c.args.atoms.now) (sym c.set.ensures)
    (grown_by_change c.args.atoms.now c.args.change.now c.if-change.true (sym c.may_hold.ensures ∙ c.if-may_hold.true))
