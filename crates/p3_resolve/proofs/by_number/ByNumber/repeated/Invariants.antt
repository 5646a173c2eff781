use Rattle.std.proofs.Common.{◌≡◌, map, take}
use Rattle.p3_task.specs.Types.{declared_objects}
use Rattle.p3_resolve.specs.ByNumber.{repeated_in}
use Rattle.p3_resolve.proofs.ByNumberLemmas.{declared_in}
use Rattle.p3_resolve.proofs.by_number.ByNumber.repeated.Given as goal

abbrev pub invariant-loop-one : goal.invariant-loop-one
invariant-loop-one l = map (λ item. item.now) l.repeated.items ≡ repeated_in (declared_objects l.self.task.now) (declared_in (take l.one-index l.one-items))
