use Rattle.std.proofs.Common.{refl}
use Rattle.std.specs.Hash.{le_bytes}
use Rattle.p3_expansion.proofs.hashing.AtomHasherHasher.write_u32.Goals as goal

pub returns : goal.returns
unfolding le_bytes
returns c = rw (c.tell-4.ensures, c.tell-3.ensures, c.tell-2.ensures, c.tell.ensures, c.to_le_bytes.ensures) refl
