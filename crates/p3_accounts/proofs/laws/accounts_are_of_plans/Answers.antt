use Rattle.p3_accounts.proofs.ShareLaws.{atoms_are_facts, shares_are_of_plans}
use Rattle.p3_accounts.proofs.laws.accounts_are_of_plans.Goals as goal

pub returns : goal.returns
returns c = record { atoms = atoms_are_facts; shares = shares_are_of_plans }
