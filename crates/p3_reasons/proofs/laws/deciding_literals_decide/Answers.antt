use Rattle.p3_reasons.proofs.DecidedLaws.{formulas-decided, hard-parts-decided}
use Rattle.p3_reasons.proofs.laws.deciding_literals_decide.Goals as goal

pub returns : goal.returns
returns c = record { formulas = formulas-decided; hard_parts = hard-parts-decided }
