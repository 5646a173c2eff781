-- The parts of the forms of a constraint by the atoms that they read.
use Rattle.p3_formula.specs.GroundModal.{GroundModal}
use Rattle.p3_base.specs.declared.operator.Operator.TheVariants as modal
use Rattle.p3_regress.specs.Parts.{IndexesParts}
use Rattle.p3_monitors.specs.declared.forms.FormsByAtom.{FormsByAtom}

-- those of the first form and of the second, where more than the last state counts
abbrev pub IndexesForms : GroundModal → FormsByAtom → Type 0
IndexesForms (modal.AtEnd f) by_atom = Unit {0}
IndexesForms (modal.Always f) by_atom = IndexesParts f by_atom.first
IndexesForms (modal.Sometime f) by_atom = IndexesParts f by_atom.first
IndexesForms (modal.AtMostOnce f) by_atom = IndexesParts f by_atom.first
IndexesForms (modal.SometimeAfter f g) by_atom = IndexesParts f by_atom.first × IndexesParts g by_atom.second
IndexesForms (modal.SometimeBefore f g) by_atom = IndexesParts f by_atom.first × IndexesParts g by_atom.second
