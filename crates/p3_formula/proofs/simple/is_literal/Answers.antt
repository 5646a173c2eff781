use Rattle.std.proofs.Common.{◌∙◌, ap}
use Rattle.p3_formula.specs.Settled.{listed}
use Rattle.p3_formula.proofs.TidyLaws.{one_fits}
use Rattle.p3_formula.proofs.simple.is_literal.Goals as goal

pub returns-in-Some : goal.returns-in-Some
returns-in-Some c given = one_fits c.args.form.now c.in-Some.field-0 (c.own_literal.ensures ∙ ap listed c.in-Some.is)
