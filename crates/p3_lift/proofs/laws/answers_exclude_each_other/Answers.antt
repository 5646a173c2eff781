use Rattle.p3_lift.proofs.AnswerLaws.{not_both, one_lifted, same_told}
use Rattle.p3_lift.proofs.laws.answers_exclude_each_other.Goals as goal

pub returns : goal.returns
returns c = record { lifted = one_lifted; either = not_both; failed = same_told }
