use Rattle.std.proofs.Common.{◌≡◌, ◌++◌, false, length, map, take, drop}
use Rattle.p3_expansion.specs.Statics.{start_bits}
use Rattle.p3_expansion.proofs.start.initial_bits.Given as goal

-- those passed have their bits
abbrev pub invariant-loop-number : goal.invariant-loop-number
invariant-loop-number l = record {
  long : length l.bits ≡ length l.atoms;
  passed : l.bits ≡ start_bits l.statics (take l.number l.atoms) ++ map (λ atom. false) (drop l.number l.atoms);
}
