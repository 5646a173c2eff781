use Rattle.p3_reports.proofs.FaultLemmas.{fault_is}
use Rattle.p3_reports.proofs.laws.faults_are_named.Goals as goal

pub returns : goal.returns
returns c = fault_is
