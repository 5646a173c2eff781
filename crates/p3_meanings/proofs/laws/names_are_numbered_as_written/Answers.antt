use Rattle.p3_meanings.proofs.NumberedLaws.{names_are_numbered}
use Rattle.p3_meanings.proofs.laws.names_are_numbered_as_written.Goals as goal

pub returns : goal.returns
returns c = names_are_numbered
