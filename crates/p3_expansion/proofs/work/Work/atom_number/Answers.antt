use Rattle.std.proofs.Common.{◌∙◌, ap}
use Rattle.p3_expansion.specs.Atoms.{with_atom}
use Rattle.p3_expansion.proofs.GrowthLemmas.{grows-atom}
use Rattle.p3_expansion.proofs.work.Work.atom_number.Goals as goal

pub returns-clause-grows : goal.returns-clause-grows
returns-clause-grows c =
    grows-atom c.args.self.now (record { alloc = c.args.self.now.alloc; atoms = c.number_of.new.self; words = c.args.self.now.words }) c.args.self.now.words.items
    (c.in_ok-atom.ensures.atoms ∙ ap (with_atom c.args.self.now.atoms) c.as_slice.ensures.value)
