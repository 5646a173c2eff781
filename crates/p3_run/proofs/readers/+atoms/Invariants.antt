use Rattle.std.proofs.Common.{◌≡◌, take}
use Rattle.std.specs.List.{flat_map}
use Rattle.p3_formula.specs.AtomLists.{atoms_of}
use Rattle.p3_run.specs.Readers.{filed_all}
use Rattle.p3_run.proofs.readers.+atoms.Given as goal

-- the atoms of the forms passed are read
abbrev pub invariant-push_forms-loop-form : goal.invariant-push_forms-loop-form
invariant-push_forms-loop-form l = l.readers.items ≡ filed_all l.reader l.fn.readers.items (flat_map atoms_of (take l.form-index l.forms))
