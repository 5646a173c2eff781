use Rattle.std.proofs.Common.{sym}
use Rattle.p3_watch.proofs.LineLemmas.{at_end, at_feed}
use Rattle.p3_watch.proofs.lines.before_line_feed.Goals as goal

pub returns-in-Some : goal.returns-in-Some
returns-in-Some c = at_feed c.args.bytes.now c.in-Some.place (sym c.in-Some.ensures)

pub returns-in-None : goal.returns-in-None
returns-in-None c = at_end c.args.bytes.now (sym c.in-None.ensures)
