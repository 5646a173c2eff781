use Rattle.p3_formula.proofs.LastingLaws.{satisfied_before, broken_after}
use Rattle.p3_formula.proofs.laws.broken_constraints_stay_broken.Goals as goal

pub returns-clause-satisfied : goal.returns-clause-satisfied
returns-clause-satisfied c = satisfied_before

pub returns-clause-broken : goal.returns-clause-broken
returns-clause-broken c = broken_after
