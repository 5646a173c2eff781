-- The worked faults compute.
use Rattle.std.proofs.Common.{refl}
use Rattle.p3_task.specs.Worked.Trucks.{trucks}
use Rattle.p3_task.proofs.Computes.{meaning_computes}
use Rattle.p3_inapplicable.specs.Arguments.{argument_fault, first_other}
use Rattle.p3_inapplicable.specs.Worked.{FaultsOfLoads, ValuesOfDrives}

pub faults_of_loads : FaultsOfLoads
unfolding meaning_computes trucks argument_fault first_other
faults_of_loads = record { none = refl; few = refl; no_object = refl; no_type = refl; last = refl }

pub values_of_drives : ValuesOfDrives
unfolding meaning_computes trucks
values_of_drives = record { given = refl; missing = refl }
