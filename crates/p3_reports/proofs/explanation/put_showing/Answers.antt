use Rattle.p3_reports.proofs.explanation.put_showing.Goals as goal

pub returns-in-HoldsAt-clause-partly : goal.returns-in-HoldsAt-clause-partly
returns-in-HoldsAt-clause-partly g c = rw c.in-HoldsAt.is c.put_line-in-HoldsAt.ensures.partly

pub returns-in-FailsAt-clause-ok : goal.returns-in-FailsAt-clause-ok
returns-in-FailsAt-clause-ok g c = rw c.in-FailsAt.is c.put_line-in-FailsAt.ensures.ok

pub returns-in-FailsAt-clause-partly : goal.returns-in-FailsAt-clause-partly
returns-in-FailsAt-clause-partly g c = rw c.in-FailsAt.is c.put_line-in-FailsAt.ensures.partly

pub returns-in-Again-clause-ok : goal.returns-in-Again-clause-ok
returns-in-Again-clause-ok g c = rw c.in-Again.is c.put_line-in-Again.ensures.ok

pub returns-in-Again-clause-partly : goal.returns-in-Again-clause-partly
returns-in-Again-clause-partly g c = rw c.in-Again.is c.put_line-in-Again.ensures.partly
