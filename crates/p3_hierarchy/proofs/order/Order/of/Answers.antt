use Prim.{∣◌∣₁}
use Rattle.std.proofs.Common.{sym, subst}
use Rattle.std.specs.Prelude.{filter_map}
use Rattle.p3_task.specs.Types.{pair_of}
use Rattle.p3_hierarchy.specs.Reaches.{AreReached}
use Rattle.p3_hierarchy.proofs.order.Order.of.Goals as goal

pub invariant_of-result : goal.invariant_of-result
invariant_of-result c =
    let pairs = filter_map pair_of c.args.filed.now.kinds.now in
    record {
      spanned = ∣ c.in_ok-spans.ensures pairs c.in_ok-walk.walk.names
          (subst (AreReached pairs c.in_ok-walk.walk.names 0) (sym c.deref.ensures.value) c.in_ok-reaches.ensures) ∣₁;
    }
