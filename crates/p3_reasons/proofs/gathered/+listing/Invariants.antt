use Rattle.std.proofs.Common.{◌≡◌, take}
use Rattle.std.specs.Prelude.{fold, flat_map}
use Rattle.p3_expansion.specs.Atoms.{with_atom}
use Rattle.p3_reasons.specs.Gathering.{atoms_of}
use Rattle.p3_reasons.proofs.gathered.+listing.Given as goal

-- the atoms of the parts passed are listed
abbrev pub invariant-list_all_atoms-loop-part : goal.invariant-list_all_atoms-loop-part
invariant-list_all_atoms-loop-part l = l.found ≡ fold with_atom l.fn.found (flat_map atoms_of (take l.part-index l.parts))
