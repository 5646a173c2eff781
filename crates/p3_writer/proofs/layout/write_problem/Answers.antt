use Rattle.std.proofs.Common.{◌∙◌, refl, ap, sym}
use Rattle.std.proofs.lemmas.Result.{IfOk-weaker}
use Rattle.p3_writer.specs.Layout.{problem_text}
use Rattle.p3_writer.proofs.layout.write_problem.Goals as goal

pub returns-clause-layout : goal.returns-clause-layout
returns-clause-layout c =
    IfOk-weaker c.write_problem_of.result _ _ (λ text laid. laid ∙ ap (λ names. problem_text names c.args.target.now.initial c.args.target.now.goal) c.items.ensures) c.write_problem_of.ensures.layout

pub returns-clause-text : goal.returns-clause-text
returns-clause-text c =
    c.write_problem_of.ensures.text c.args.target.now (record { predicates = sym c.items.ensures; initial = refl; goal_is = refl })
    (record { sized = c.requires.sized; predicates = c.requires.predicates; actions = c.requires.actions; spelled = c.requires.spelled })
