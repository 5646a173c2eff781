use Rattle.p3_task.proofs.ConjunctLaws.{formula-conjuncts-hold, goal-conjuncts-hold}
use Rattle.p3_task.proofs.groundwork.conjuncts_hold.Goals as goal

pub returns : goal.returns
returns c = record { formulas = formula-conjuncts-hold; goals = goal-conjuncts-hold }
