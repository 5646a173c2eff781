use Rattle.p3_formula.proofs.NameLaws.{copy_lifted, other_not_lifted}
use Rattle.p3_formula.proofs.laws.copies_count_as_their_step.Goals as goal

pub returns-clause-copies : goal.returns-clause-copies
returns-clause-copies c = copy_lifted

pub returns-clause-others : goal.returns-clause-others
returns-clause-others c = other_not_lifted
