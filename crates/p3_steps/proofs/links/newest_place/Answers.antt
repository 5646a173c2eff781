use Rattle.std.proofs.Common.{◌∙◌, sym}
use Rattle.p3_steps.proofs.LinkLemmas.{newest-is}
use Rattle.p3_steps.proofs.links.newest_place.Goals as goal

pub returns-then-is_newest : goal.returns-then-is_newest
returns-then-is_newest c = newest-is c.args.count c.args.args.now c.loop-place.place _ c.loop-place-test.true (sym c.is_newest.ensures ∙ c.if-is_newest.true)
