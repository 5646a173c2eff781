use Rattle.p3_accounts.proofs.meaning.put_settling.Goals as goal

pub returns-in-Next-clause-ok : goal.returns-in-Next-clause-ok
returns-in-Next-clause-ok g c = rw c.in-Next.is c.put_items.ensures.ok

pub returns-in-Next-clause-partly : goal.returns-in-Next-clause-partly
returns-in-Next-clause-partly g c = rw c.in-Next.is c.put_items.ensures.partly

pub returns-in-Done-clause-ok : goal.returns-in-Done-clause-ok
returns-in-Done-clause-ok g c = rw c.in-Done.is c.put_items-in-Done.ensures.ok
