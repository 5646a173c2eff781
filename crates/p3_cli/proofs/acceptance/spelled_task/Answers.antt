use Rattle.std.proofs.Common.{subst}
use Rattle.p3_task.specs.Refusals.First.{HalfText, IsReadable, IsRefusedText}
use Rattle.p3_task.specs.Sides.{InDomain, InProblem}
use Rattle.p3_outline.specs.Texts.{IfRefused}
use Rattle.p3_cli.specs.Texts.{all_texts}
use Rattle.p3_cli.proofs.SpelledLemmas.{domain_refused, problem_refused}
use Rattle.p3_cli.proofs.acceptance.spelled_task.Goals as goal

pub returns-in-Err-clause-err : goal.returns-in-Err-clause-err
returns-in-Err-clause-err c =
    domain_refused c.args.side (all_texts c.args.texts.now) c.in-Err.fail c.not_read.result
    (subst (λ text. IfRefused c.in-Err.fail (IsRefusedText (HalfText c.args.side InDomain text))) c.domain_of.ensures.text c.in-Err.ensures.refused) c.not_read.ensures

pub returns-in-Err-read_problem-clause-err : goal.returns-in-Err-read_problem-clause-err
returns-in-Err-read_problem-clause-err c =
    problem_refused c.args.side (all_texts c.args.texts.now) c.in-Err-read_problem.fail c.not_read-in-Err-read_problem.result
    (subst (λ text. IsReadable (HalfText c.args.side InDomain text)) c.domain_of.ensures.text c.in-Ok.ensures.readable)
    (subst (λ text. IfRefused c.in-Err-read_problem.fail (IsRefusedText (HalfText c.args.side InProblem text))) c.problem_of.ensures.text c.in-Err-read_problem.ensures.refused)
    c.not_read-in-Err-read_problem.ensures
