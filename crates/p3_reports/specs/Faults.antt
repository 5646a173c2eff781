-- The faults of plans that the code names, as those of the definitions, and back.
use Rattle.p3_task.specs.Validity as validity
use Rattle.p3_reports.specs.declared.fault.Fault.{Fault}
use Rattle.p3_reports.specs.declared.fault.Fault.TheVariants as fault
use Rattle.p3_reports.specs.declared.fault.Misfit.{Misfit}
use Rattle.p3_reports.specs.declared.fault.Misfit.TheVariants as misfit

abbrev pub misfit_of : Misfit → validity.Misfit
misfit_of misfit.UnknownAction = validity.UnknownAction
misfit_of misfit.Arguments = validity.Arguments
misfit_of misfit.Precondition = validity.Precondition
misfit_of misfit.NoCost = validity.NoCost

abbrev pub fault_of : Fault → validity.Fault
fault_of (fault.AtStep number kind) = validity.AtStep number (misfit_of kind)
fault_of fault.AtGoal = validity.AtGoal
fault_of (fault.AtConstraint number) = validity.AtConstraint number

-- ---- and back

abbrev pub misfit_named : validity.Misfit → Misfit
misfit_named validity.UnknownAction = misfit.UnknownAction
misfit_named validity.Arguments = misfit.Arguments
misfit_named validity.Precondition = misfit.Precondition
misfit_named validity.NoCost = misfit.NoCost

abbrev pub fault_named : validity.Fault → Fault
fault_named (validity.AtStep number kind) = fault.AtStep number (misfit_named kind)
fault_named validity.AtGoal = fault.AtGoal
fault_named (validity.AtConstraint number) = fault.AtConstraint number
