use Rattle.std.specs.List.{AllZip, range_with_len}
use Rattle.p3_shares.specs.Sharing.{IsShareAt}
use Rattle.p3_shares.proofs.names.name_shares.Given as goal

-- the names before it have their shares
abbrev pub invariant-loop-number : goal.invariant-loop-number
invariant-loop-number l = AllZip (IsShareAt l.run) (range_with_len 0 l.number) l.shares
