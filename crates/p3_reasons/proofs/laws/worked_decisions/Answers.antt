use Rattle.p3_reasons.proofs.Worked.{parts_that_decide, implications_that_are_decided, quantifiers_that_are_decided}
use Rattle.p3_reasons.proofs.laws.worked_decisions.Goals as goal

pub returns : goal.returns
returns c = record { parts = parts_that_decide; implications = implications_that_are_decided; quantifiers = quantifiers_that_are_decided }
