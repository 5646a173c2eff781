use Rattle.std.proofs.Common.{◌≡◌, ◌++◌, map, take}
use Rattle.std.specs.List.{flat_map}
use Rattle.p3_formula.specs.AtomLists.{atoms_of}
use Rattle.p3_regress.specs.Readers.{reader}
use Rattle.p3_regress.proofs.readers.+atoms.Given as goal

-- the atoms of the forms passed are read
abbrev pub invariant-push_all_readers-loop-form : goal.invariant-push_all_readers-loop-form
invariant-push_all_readers-loop-form l = l.readers.items ≡ l.fn.readers.items ++ map (reader l.place) (flat_map atoms_of (take l.form-index l.forms))
