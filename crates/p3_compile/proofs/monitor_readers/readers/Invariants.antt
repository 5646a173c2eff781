use Rattle.std.proofs.Common.{◌≡◌, take}
use Rattle.p3_compile.specs.Readers.{readers_of}
use Rattle.p3_compile.proofs.monitor_readers.readers.Given as goal

-- the atoms of the monitors passed are read
abbrev pub invariant-loop-place : goal.invariant-loop-place
invariant-loop-place l = l.readers.items ≡ readers_of (take l.place l.monitors)
