-- The fault that the code names for one of the definitions is that one.
use Rattle.std.proofs.Common.{◌≡◌, ap, refl}
use Rattle.p3_task.specs.Validity as validity
use Rattle.p3_reports.specs.Faults.{fault_named, fault_of, misfit_named, misfit_of}

pub misfit_is : (kind : validity.Misfit) → misfit_of (misfit_named kind) ≡ kind
misfit_is validity.UnknownAction = refl
misfit_is validity.Arguments = refl
misfit_is validity.Precondition = refl
misfit_is validity.NoCost = refl

pub fault_is : (fault : validity.Fault) → fault_of (fault_named fault) ≡ fault
fault_is (validity.AtStep number kind) = ap (validity.AtStep number) (misfit_is kind)
fault_is validity.AtGoal = refl
fault_is (validity.AtConstraint number) = refl
