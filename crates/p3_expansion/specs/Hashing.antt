-- What the hasher of ground atoms computes.
use Rattle.std.specs.Prelude.{ℕ, ◌+◌, ◌*◌, ◌/◌, ◌%◌, ◌^◌, List, bit_xor}
use Rattle.std.specs.List.{fold}
use Rattle.p3_expansion.specs.declared.hashing.AtomHasher.{AtomHasher}

abbrev pub start : AtomHasher
start = record { state = 0 }

-- the state after one byte more
abbrev pub told : AtomHasher → ℕ → AtomHasher
told hasher byte = record { state = (hasher.state * 0x9e37_79b9_7f4a_7c15 % 2 ^ 64 + byte) % 2 ^ 64 }

-- the state after these bytes
abbrev pub told_all : AtomHasher → List ℕ → AtomHasher
told_all hasher bytes = fold told hasher bytes

-- the high half goes into the low one
abbrev pub finished : AtomHasher → ℕ
finished hasher = bit_xor hasher.state (hasher.state / 2 ^ 32)
