use Rattle.std.proofs.Common.{◌∙◌, ◌++◌, map, sym, ap}
use Rattle.std.proofs.lemmas.List.{append-nil}
use Rattle.p3_formula.specs.AtomLists.{atoms_of}
use Rattle.p3_regress.specs.Readers.{reader}
use Rattle.p3_formula.proofs.AtomLists.{atoms_of-True, atoms_of-False}
use Rattle.p3_regress.proofs.readers.+atoms.Goals as goal

pub push_readers-returns-in-True : goal.push_readers-returns-in-True
push_readers-returns-in-True t c = sym (ap (λ atoms. c.args.readers.now.items ++ map (reader c.args.place) atoms) (ap atoms_of c.in-True.is ∙ atoms_of-True) ∙ append-nil c.args.readers.now.items)

pub push_readers-returns-in-False : goal.push_readers-returns-in-False
push_readers-returns-in-False t c = sym (ap (λ atoms. c.args.readers.now.items ++ map (reader c.args.place) atoms) (ap atoms_of c.in-False.is ∙ atoms_of-False) ∙ append-nil c.args.readers.now.items)
