use Rattle.std.proofs.Common.{◌≡◌, take}
use Rattle.p3_reach.proofs.reach.theory_of_atoms.Given as goal

-- the atoms passed are propositions
abbrev pub invariant-loop-atom : goal.invariant-loop-atom
invariant-loop-atom l = l.facts ≡ take l.atom l.atoms
