use Rattle.std.proofs.Common.{sym, subst}
use Rattle.p3_regress.specs.Parts.{HasTurning}
use Rattle.p3_regress.specs.Sorted.{lent}
use Rattle.p3_regress.specs.Turned.{may_turn}
use Rattle.p3_regress.proofs.PartLaws.{has_turning}
use Rattle.p3_regress.proofs.turning.may_turn_part.Goals as goal

pub may_turn_at-requires-clause-all : goal.may_turn_at-requires-clause-all
may_turn_at-requires-clause-all c =
    subst (HasTurning (may_turn (lent c.args.changes.now) c.args.up) c.args.parts.now) (sym c.deref.ensures.value)
    (has_turning (lent c.args.changes.now) c.args.up c.args.parts.now c.args.by_atom.now c.in_ok-places.places.items c.requires.parts c.if-not-by_atom.false c.in_ok-places.ensures.read)
