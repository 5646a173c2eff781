use Rattle.std.proofs.Common.{ap, subst}
use Rattle.p3_cli.specs.Evaluation.{IsRejectedPlan}
use Rattle.p3_cli.specs.Texts.{AllTexts}
use Rattle.p3_cli.proofs.sampling.sample.Goals as goal

pub returns-clause-means : goal.returns-clause-means
returns-clause-means c = record {
  domain = ap (λ (texts : AllTexts). texts.domain) c.in_ok-texts.ensures;
  problem = ap (λ (texts : AllTexts). texts.problem) c.in_ok-texts.ensures;
  plan = ap (λ (texts : AllTexts). texts.plan) c.in_ok-texts.ensures;
  reported = c.in-Ok.ensures.means;
}

pub returns-in-Err-clause-err : goal.returns-in-Err-clause-err
returns-in-Err-clause-err c = subst (λ texts. IsRejectedPlan texts c.in-Err.ending) c.in_ok-texts.ensures c.in-Err.ensures.err
