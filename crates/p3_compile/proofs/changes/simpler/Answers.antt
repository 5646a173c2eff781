use Rattle.std.proofs.Common.{◌∙◌, true, sym, ap}
use Rattle.std.specs.List.{list_all}
use Rattle.p3_formula.specs.Literals.{said_of}
use Rattle.p3_formula.specs.Simplified.{is_value}
use Rattle.p3_formula.specs.declared.form.Change.{Change}
use Rattle.p3_compile.proofs.SimplerChanges.{certain_possible, certain_simpler, certain_tidy, trimmed_conditions, trimmed_possible}
use Rattle.p3_compile.proofs.changes.simpler.Goals as goal

pub returns-then-are_certain-clause-simpler : goal.returns-then-are_certain-clause-simpler
returns-then-are_certain-clause-simpler c = certain_simpler c.args.pre.now c.args.changes

pub returns-then-are_certain-clause-tidy : goal.returns-then-are_certain-clause-tidy
returns-then-are_certain-clause-tidy c = certain_tidy c.args.changes
    (ap (list_all (λ (change : Change). is_value true change.cond)) (sym c.items.ensures) ∙ sym c.are_certain.ensures ∙ c.if-are_certain.true)

pub returns-then-are_certain-clause-possible : goal.returns-then-are_certain-clause-possible
returns-then-are_certain-clause-possible c = certain_possible c.args.changes
    (ap (list_all (λ (change : Change). is_value true change.cond)) (sym c.items.ensures) ∙ sym c.are_certain.ensures ∙ c.if-are_certain.true)

pub returns-clause-possible : goal.returns-clause-possible
returns-clause-possible c = trimmed_possible (said_of c.in_ok-known.known) c.args.changes c.in_ok-trimmed.trimmed c.in_ok-trimmed.ensures.value

pub returns-clause-simpler : goal.returns-clause-simpler
returns-clause-simpler c = record {
  does = λ state holds. c.in_ok-trimmed.ensures.does state (c.in_ok-known.ensures.law state holds);
  fewer = c.in_ok-trimmed.ensures.fewer;
  conditional = trimmed_conditions (said_of c.in_ok-known.known) c.args.changes c.in_ok-trimmed.trimmed c.in_ok-trimmed.ensures.value;
  atoms = c.in_ok-trimmed.ensures.atoms;
}
