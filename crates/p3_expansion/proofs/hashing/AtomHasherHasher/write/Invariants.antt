use Rattle.std.proofs.Common.{◌≡◌, take, fold}
use Rattle.p3_expansion.specs.Hashing.{told}
use Rattle.p3_expansion.proofs.hashing.AtomHasherHasher.write.Given as goal

abbrev pub invariant-loop-byte : goal.invariant-loop-byte
invariant-loop-byte l = l.self ≡ fold told l.initial.self (take l.byte-index l.bytes)
