use Rattle.p3_reasons.proofs.EvidenceLaws.{what-is-shown-is-evident}
use Rattle.p3_reasons.proofs.laws.what_is_shown_is_evident.Goals as goal

pub returns : goal.returns
returns c = what-is-shown-is-evident
