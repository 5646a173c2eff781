use Rattle.p3_meanings.proofs.GroundLemmas.{atoms_stand}
use Rattle.p3_meanings.proofs.atoms.atoms_over.Goals as goal

pub returns : goal.returns
returns c = atoms_stand c.args.checked.now.task c.args.checked.now.numbered c.args.statics.now c.args.costs.now.places c.expand.new.work.atoms c.in_ok-expanded.expanded c.requires.places c.in_ok-expanded.ensures
