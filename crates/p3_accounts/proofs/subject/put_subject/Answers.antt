use Rattle.p3_accounts.proofs.subject.put_subject.Goals as goal

pub returns-in-Constraint-clause-ok : goal.returns-in-Constraint-clause-ok
returns-in-Constraint-clause-ok g c = rw c.in-Constraint.is c.put_items-in-Constraint.ensures.ok

pub returns-in-Constraint-clause-partly : goal.returns-in-Constraint-clause-partly
returns-in-Constraint-clause-partly g c = rw c.in-Constraint.is c.put_items-in-Constraint.ensures.partly

pub returns-in-Preference-clause-ok : goal.returns-in-Preference-clause-ok
returns-in-Preference-clause-ok g c = rw c.in-Preference.is c.put_items-in-Preference.ensures.ok

pub returns-in-Preference-clause-partly : goal.returns-in-Preference-clause-partly
returns-in-Preference-clause-partly g c = rw c.in-Preference.is c.put_items-in-Preference.ensures.partly

pub returns-in-StepPreference-clause-ok : goal.returns-in-StepPreference-clause-ok
returns-in-StepPreference-clause-ok g c = rw c.in-StepPreference.is c.put_items-in-StepPreference.ensures.ok

pub returns-in-StepPreference-clause-partly : goal.returns-in-StepPreference-clause-partly
returns-in-StepPreference-clause-partly g c = rw c.in-StepPreference.is c.put_items-in-StepPreference.ensures.partly
