use Rattle.std.proofs.Common.{◌∙◌, sym}
use Rattle.p3_writer.specs.Layout.{problem_text}
use Rattle.p3_writer.specs.Texts.{HasProblem}
use Rattle.p3_cli.proofs.StreamingLemmas.{are_texts}
use Rattle.p3_cli.proofs.streaming.texts_of.Goals as goal

pub returns : goal.returns
returns g c =
    let domain = c.in_ok-domain.ensures in
    let problem : HasProblem domain.target c.names.result.now c.initial.result.now c.goal.result.now = record {
      predicates = domain.problem.predicates ∙ sym c.names.ensures;
      initial = domain.problem.initial ∙ sym c.initial.ensures;
      goal_is = domain.problem.goal_is ∙ sym c.goal.ensures;
    } in
    are_texts g.task c.args.weights.now c.args.begun.now c.in_ok-domain.domain.items c.in_ok-problem.problem.items domain
    (c.in_ok-problem.ensures.layout ∙ λ i. problem_text (sym problem.predicates i) (sym problem.initial i) (sym problem.goal_is i))
    (c.in_ok-problem.ensures.text domain.target problem domain.can)
