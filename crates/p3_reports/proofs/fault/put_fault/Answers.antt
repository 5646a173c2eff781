use Rattle.p3_reports.proofs.fault.put_fault.Goals as goal

pub returns-in-AtStep-clause-partly : goal.returns-in-AtStep-clause-partly
returns-in-AtStep-clause-partly g c = rw c.in-AtStep.is c.put_pieces.ensures.partly

pub returns-in-AtGoal-clause-ok : goal.returns-in-AtGoal-clause-ok
returns-in-AtGoal-clause-ok g c = rw c.in-AtGoal.is c.put_pieces-in-AtGoal.ensures.ok

pub returns-in-AtGoal-clause-partly : goal.returns-in-AtGoal-clause-partly
returns-in-AtGoal-clause-partly g c = rw c.in-AtGoal.is c.put_pieces-in-AtGoal.ensures.partly

pub returns-in-AtConstraint-clause-ok : goal.returns-in-AtConstraint-clause-ok
returns-in-AtConstraint-clause-ok g c = rw c.in-AtConstraint.is c.put_pieces-in-AtConstraint.ensures.ok

pub returns-in-AtConstraint-clause-partly : goal.returns-in-AtConstraint-clause-partly
returns-in-AtConstraint-clause-partly g c = rw c.in-AtConstraint.is c.put_pieces-in-AtConstraint.ensures.partly
