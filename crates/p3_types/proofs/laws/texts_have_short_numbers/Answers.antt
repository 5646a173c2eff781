use Rattle.p3_types.proofs.ShortTasks.{short_numbers}
use Rattle.p3_types.proofs.laws.texts_have_short_numbers.Goals as goal

pub returns : goal.returns
returns c = short_numbers
