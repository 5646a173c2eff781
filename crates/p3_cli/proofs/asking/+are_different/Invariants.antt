use Rattle.std.proofs.Common.{length}
use Rattle.p3_cli.proofs.asking.+are_different.Given as goal

abbrev pub decreases-are_different : goal.decreases-are_different
decreases-are_different l = length l.words.now
