use Rattle.p3_inapplicable.proofs.Worked.{faults_of_loads, values_of_drives}
use Rattle.p3_inapplicable.proofs.laws.worked_faults.Goals as goal

pub returns : goal.returns
returns c = record { arguments = faults_of_loads; values = values_of_drives }
