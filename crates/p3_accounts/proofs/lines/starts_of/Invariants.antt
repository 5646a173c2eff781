use Rattle.std.proofs.Common.{◌≡◌}
use Rattle.p3_accounts.specs.Starts.{AreStarts}
use Rattle.p3_accounts.proofs.lines.starts_of.Given as goal

-- the starts of the lines that begin in what was passed
abbrev pub invariant-loop-byte : goal.invariant-loop-byte
invariant-loop-byte l = record {
  behind : l.behind ≡ l.byte-index;
  starts : AreStarts l.text l.byte-index l.starts.items;
}
