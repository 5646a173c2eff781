use Rattle.std.proofs.Common.{◌∙◌, sym}
use Rattle.p3_steps.proofs.LinkLemmas.{older-is}
use Rattle.p3_steps.proofs.links.key_place.Goals as goal

pub returns-then-is_older : goal.returns-then-is_older
returns-then-is_older c = older-is c.args.count c.args.args.now c.loop-place.place _ c.loop-place-test.true (sym c.is_older.ensures ∙ c.if-is_older.true)
