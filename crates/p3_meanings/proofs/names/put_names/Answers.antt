use Rattle.std.proofs.Common.{List, ℕ, sym, subst}
use Rattle.std.proofs.lemmas.Result.{on_err_weaker}
use Rattle.p3_formula.specs.declared.task.GroundStep.{GroundStep}
use Rattle.p3_accounts.specs.Vocabularies.{vocabulary}
use Rattle.p3_accounts.proofs.RowLemmas.{first_of_three, second_of_three, third_of_three, lent_partly, lent_put}
use Rattle.p3_reports.proofs.PutLemmas.{on_err}
use Rattle.p3_unmet.specs.Sources.{texts}
use Rattle.p3_meanings.specs.Steps.{step_lines}
use Rattle.p3_meanings.specs.Told.{AreNamed}
use Rattle.p3_meanings.proofs.GroundLemmas.{softs_are_named}
use Rattle.p3_meanings.proofs.names.put_names.Goals as goal

pub put_constraints-requires-clause-named : goal.put_constraints-requires-clause-named
put_constraints-requires-clause-named g c = subst (AreNamed c.args.checked.now.task) (sym c.items-2.ensures) (softs_are_named c.args.checked.now.task c.args.ground.now c.requires.grounding)

pub returns-in_err-put_steps-clause-partly : goal.returns-in_err-put_steps-clause-partly
returns-in_err-put_steps-clause-partly g c =
    let steps : List GroundStep → List ℕ = step_lines (vocabulary c.args.terms.now) (texts c.args.sources.now) c.args.checked.now.task in
    on_err c.from_residual.result (first_of_three _ _ _ _ _ (lent_partly steps c.items.ensures _ _ c.in_err-put_steps.ensures.partly))

pub returns-in_err-put_atoms-clause-partly : goal.returns-in_err-put_atoms-clause-partly
returns-in_err-put_atoms-clause-partly g c =
    let steps : List GroundStep → List ℕ = step_lines (vocabulary c.args.terms.now) (texts c.args.sources.now) c.args.checked.now.task in
    on_err c.from_residual-in_err-put_atoms.result (second_of_three _ _ _ _ _ _ (lent_put steps c.items.ensures _ _ c.in_ok-put_steps.ensures.ok) c.in_err-put_atoms.ensures.partly)

pub returns-clause-partly : goal.returns-clause-partly
returns-clause-partly g c =
    let steps : List GroundStep → List ℕ = step_lines (vocabulary c.args.terms.now) (texts c.args.sources.now) c.args.checked.now.task in
    on_err_weaker c.put_constraints.result (third_of_three _ _ _ _ _ _ _ (lent_put steps c.items.ensures _ _ c.in_ok-put_steps.ensures.ok) c.in_ok-put_atoms.ensures.ok) c.put_constraints.ensures.partly
