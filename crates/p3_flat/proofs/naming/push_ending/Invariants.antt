use Rattle.std.proofs.Common.{◌≡◌, ◌∷◌, ◌++◌, map, take}
use Rattle.p3_flat.specs.Copies.{digit_of}
use Rattle.p3_flat.proofs.naming.push_ending.Given as goal

-- the letter and the digits so far
abbrev pub invariant-loop-holds : goal.invariant-loop-holds
invariant-loop-holds l = l.bytes.items ≡ l.fn.bytes.items ++ (99 ∷ map digit_of (take l.holds-index l.pattern))
