use Rattle.p3_cli.proofs.FaithfulLaws.{texts_faithful}
use Rattle.p3_writer.specs.TaskOf.{task_of}
use Rattle.p3_cli.proofs.laws.written_targets_are_faithful_texts.Goals as goal

pub returns : goal.returns
returns c = λ T X domain problem faithful. texts_faithful domain problem T (task_of X) faithful
