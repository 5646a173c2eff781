use Rattle.std.proofs.Common.{◌∙◌, ap, sym}
use Rattle.p3_formula.specs.Same.{same_form}
use Rattle.p3_formula.proofs.SameLemmas.{same_is, same_itself}
use Rattle.p3_formula.proofs.same.same_form.Goals as goal

pub returns : goal.returns
returns c = (
  λ told. same_is c.args.form.now c.args.other.now (sym c.is_same.ensures ∙ told),
  λ is. c.is_same.ensures ∙ ap (same_form c.args.form.now) (sym is) ∙ same_itself c.args.form.now,
)
