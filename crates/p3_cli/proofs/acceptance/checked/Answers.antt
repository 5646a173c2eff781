use Rattle.std.proofs.Common.{subst}
use Rattle.p3_types.specs.Checks.{IsFailOf}
use Rattle.p3_cli.specs.Texts.{all_texts}
use Rattle.p3_cli.proofs.SpelledLemmas.{has_texts, offence_refused, short_domain, short_problem}
use Rattle.p3_cli.proofs.acceptance.checked.Goals as goal

pub returns-in-Err-Refused-clause-err : goal.returns-in-Err-Refused-clause-err
returns-in-Err-Refused-clause-err c =
    offence_refused c.args.side (all_texts c.args.texts.now) c.args.task c.in-Err-Refused.refusal c.refused.result c.requires
    (subst (IsFailOf c.args.side c.args.task) c.in-Err-Refused.field-0-is c.in-Err-Refused.ensures.refused)
    c.refused.ensures

pub check-requires : goal.check-requires
check-requires c = record {
  texts = has_texts c.args.side (all_texts c.args.texts.now) c.args.task c.requires (short_domain c.args.side c.args.texts.now) (short_problem c.args.side c.args.texts.now);
}
