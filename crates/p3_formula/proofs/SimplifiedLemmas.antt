-- Equations of negated forms, and of the parts of conjunctions.
use Rattle.std.proofs.Common.{◌≡◌, List, refl}
use denote.Hole.Carrier.{hidden}
use Rattle.p3_formula.specs.Simplified.{negated, spread}
use Rattle.p3_formula.specs.declared.form.Form.{Form, items_hidden-the_row-Form-1}
use Rattle.p3_formula.specs.declared.form.Form.TheBlock.{hidden-the_row-Form-0}
use Rattle.p3_formula.specs.declared.form.Form.TheVariants.{Not, And}

pub negated-Not : (part : Form) → negated (Not part) ≡ part
unfolding hidden-the_row-Form-0 hidden
negated-Not part = refl

pub spread-And : (parts : List Form) → spread (And parts) ≡ parts
spread-And parts = items_hidden-the_row-Form-1 parts

pub ruleset spread_laws = (spread-And)

pub ruleset negated_laws = (negated-Not)
