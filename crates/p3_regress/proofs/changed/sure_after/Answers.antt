use Rattle.std.proofs.Common.{◌∙◌, sym}
use Rattle.p3_regress.specs.Sorted.{lent}
use Rattle.p3_regress.proofs.AtomAfter.{sure_added, sure_cleared}
use Rattle.p3_regress.proofs.changed.sure_after.Goals as goal

pub returns-then-is_sure : goal.returns-then-is_sure
returns-then-is_sure c = sym (sure_added (lent c.args.changes.now) c.args.atom (sym c.is_sure.ensures ∙ c.if-is_sure.true))

pub returns-then-is_sure-2 : goal.returns-then-is_sure-2
returns-then-is_sure-2 c =
    sym (sure_cleared (lent c.args.changes.now) c.args.atom (sym c.is_sure-else-is_named.ensures ∙ c.if-is_sure-2.true) (sym c.is_named.ensures ∙ c.if-is_named.false))
