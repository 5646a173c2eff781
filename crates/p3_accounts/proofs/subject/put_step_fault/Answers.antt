use Rattle.p3_accounts.proofs.subject.put_step_fault.Goals as goal

pub returns-in-NoObject-clause-ok : goal.returns-in-NoObject-clause-ok
returns-in-NoObject-clause-ok g c = rw c.in-NoObject.is c.put_items-in-NoObject.ensures.ok

pub returns-in-NoObject-clause-partly : goal.returns-in-NoObject-clause-partly
returns-in-NoObject-clause-partly g c = rw c.in-NoObject.is c.put_items-in-NoObject.ensures.partly

pub returns-in-NoType-clause-ok : goal.returns-in-NoType-clause-ok
returns-in-NoType-clause-ok g c = rw c.in-NoType.is c.put_items-in-NoType.ensures.ok

pub returns-in-NoType-clause-partly : goal.returns-in-NoType-clause-partly
returns-in-NoType-clause-partly g c = rw c.in-NoType.is c.put_items-in-NoType.ensures.partly

pub returns-in-NoValue-clause-ok : goal.returns-in-NoValue-clause-ok
returns-in-NoValue-clause-ok g c = rw c.in-NoValue.is c.put_items-in-NoValue.ensures.ok

pub returns-in-NoValue-clause-partly : goal.returns-in-NoValue-clause-partly
returns-in-NoValue-clause-partly g c = rw c.in-NoValue.is c.put_items-in-NoValue.ensures.partly

pub returns-in-Precondition-clause-ok : goal.returns-in-Precondition-clause-ok
returns-in-Precondition-clause-ok g c = rw c.in-Precondition.is c.put_items-in-Precondition.ensures.ok

pub returns-in-Precondition-clause-partly : goal.returns-in-Precondition-clause-partly
returns-in-Precondition-clause-partly g c = rw c.in-Precondition.is c.put_items-in-Precondition.ensures.partly
