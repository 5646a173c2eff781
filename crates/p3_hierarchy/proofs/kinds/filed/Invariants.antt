use Rattle.std.proofs.Common.{take}
use Rattle.std.specs.Prelude.{bytes_eq}
use Rattle.std.specs.HashMap.{get}
use Rattle.p3_hierarchy.specs.Kinds.{AreFiled}
use Rattle.p3_hierarchy.proofs.kinds.filed.Given as goal

abbrev pub invariant-loop-kind : goal.invariant-loop-kind
invariant-loop-kind l = AreFiled (take l.kind-index l.kinds) (get (λ x y. bytes_eq x.now y.now) l.lows)
