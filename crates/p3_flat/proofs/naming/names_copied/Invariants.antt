use Rattle.std.proofs.Common.{◌≡◌, take}
use Rattle.p3_flat.proofs.naming.names_copied.Given as goal

-- the names passed stand there once more
abbrev pub invariant-loop-name : goal.invariant-loop-name
invariant-loop-name l = l.copies.items ≡ take l.name-index l.names
