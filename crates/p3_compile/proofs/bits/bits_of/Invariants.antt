use Rattle.std.proofs.Common.{◌≡◌, length, take}
use Rattle.p3_compile.proofs.bits.bits_of.Given as goal

-- the bits passed are set
abbrev pub invariant-loop-place : goal.invariant-loop-place
invariant-loop-place l = record { passed : take l.place l.bits ≡ take l.place l.values; count : length l.bits ≡ length l.values }
