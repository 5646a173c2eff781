use Rattle.std.proofs.Common.{◌≡◌, ◌+◌, ◌-◌, ◌≤◌, length}
use Rattle.std.specs.Io.KnownBytes.{Consumes}
use Rattle.p3_base.proofs.real_files.read_all.Given as goal

-- what was read is what is taken in so far, no more than one byte past the limit
abbrev pub invariant-loop-into : goal.invariant-loop-into
invariant-loop-into g l = record {
  within : length l.into.items ≤ l.limit + 1;
  piece : length l.piece.items ≡ 262144;
  taken : Consumes (g.T.Read.remaining l.fn.source) (g.T.Read.remaining l.source) l.into.items;
}

abbrev pub decreases-loop-into : goal.decreases-loop-into
decreases-loop-into g l = l.limit + 1 - length l.into.items
