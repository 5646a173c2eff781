use Rattle.p3_reasons.proofs.TellingLaws.{start-is-told, next-is-told}
use Rattle.p3_reasons.proofs.VisitLaws.{visits-are-told}
use Rattle.p3_reasons.proofs.laws.facts_are_told.Goals as goal

pub returns : goal.returns
returns c = record { start = start-is-told; next = next-is-told; visits = visits-are-told }
