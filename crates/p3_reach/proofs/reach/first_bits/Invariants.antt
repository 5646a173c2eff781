use Rattle.std.proofs.Common.{◌≡◌, length, take}
use Rattle.p3_reach.proofs.reach.first_bits.Given as goal

-- the bits passed stand in the copy
abbrev pub invariant-loop-atom : goal.invariant-loop-atom
invariant-loop-atom l = record {
  size : length l.first ≡ l.count;
  front : take l.atom l.first ≡ take l.atom l.bits;
}
