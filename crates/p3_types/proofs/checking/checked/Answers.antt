use Rattle.p3_types.proofs.CostLemmas.{few_places}
use Rattle.p3_types.proofs.ShortTasks.{short_numbers}
use Rattle.p3_types.proofs.checking.checked.Goals as goal

pub parts_of-requires-clause-short : goal.parts_of-requires-clause-short
parts_of-requires-clause-short c = few_places c.args.side c.args.task (short_numbers c.args.side c.args.task c.requires.texts)
