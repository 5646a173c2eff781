use Rattle.p3_cli.proofs.FaithfulLaws.{translation_faithful}
use Rattle.p3_cli.proofs.laws.translating_targets_are_faithful.Goals as goal

pub returns : goal.returns
returns c = translation_faithful
