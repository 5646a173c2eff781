use Rattle.p3_cli.proofs.FaithfulLaws.{compiled_faithful}
use Rattle.p3_cli.proofs.laws.compiled_tasks_are_faithful.Goals as goal

pub returns : goal.returns
returns c = compiled_faithful
