use Rattle.std.proofs.Common.{refl}
use Rattle.p3_formula.specs.declared.form.Form.TheVariants.{Atom}
use Rattle.p3_formula.proofs.TidyLaws.{fits-Atom}
use Rattle.p3_expansion.proofs.ExpansionLemmas.{stands-atom}
use Rattle.p3_expansion.proofs.work.Work.atom_form.Goals as goal

pub returns-clause-stands : goal.returns-clause-stands
returns-clause-stands c = λ N S. stands-atom N S c.atom_number.new.self.atoms c.args.self.now.words.items (Atom c.in_ok-atom.atom) c.in_ok-atom.atom c.in_ok-atom.ensures.stored refl

pub returns-clause-tidy : goal.returns-clause-tidy
returns-clause-tidy c = fits-Atom c.in_ok-atom.atom
