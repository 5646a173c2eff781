-- Where nothing is listed, that is right for each constraint.
use Rattle.std.proofs.Common.{◌≡◌, ◌∙◌, false, sym, true≢false}
use Rattle.p3_formula.specs.declared.form.Form.{Form}
use Rattle.p3_formula.specs.GroundModal.{GroundModal}
use Rattle.p3_base.specs.declared.operator.Operator.TheVariants as modal
use Rattle.p3_regress.specs.Parts.{IndexesParts}
use Rattle.p3_regress.specs.declared.readers.PartsByAtom.{PartsByAtom}
use Rattle.p3_monitors.specs.FormIndex.{IndexesForms}
use Rattle.p3_monitors.specs.declared.forms.FormsByAtom.{FormsByAtom}

none_listed : (form : Form) (by_atom : PartsByAtom) → by_atom.listed ≡ false → IndexesParts form by_atom
none_listed form by_atom none listed = absurd (true≢false (sym listed ∙ none))

pub none_indexed : (by_atom : FormsByAtom) → by_atom.first.listed ≡ false → by_atom.second.listed ≡ false → (modal : GroundModal) → IndexesForms modal by_atom
none_indexed by_atom first second (modal.AtEnd f) = tt
none_indexed by_atom first second (modal.Always f) = none_listed f by_atom.first first
none_indexed by_atom first second (modal.Sometime f) = none_listed f by_atom.first first
none_indexed by_atom first second (modal.AtMostOnce f) = none_listed f by_atom.first first
none_indexed by_atom first second (modal.SometimeAfter f g) = (none_listed f by_atom.first first, none_listed g by_atom.second second)
none_indexed by_atom first second (modal.SometimeBefore f g) = (none_listed f by_atom.first first, none_listed g by_atom.second second)
