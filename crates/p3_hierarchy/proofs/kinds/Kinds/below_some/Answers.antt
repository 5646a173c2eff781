use Rattle.std.proofs.Common.{◌∙◌, sym, ap, subst}
use Rattle.std.proofs.Math.Bool.{Bool-set}
use Rattle.std.proofs.Math.Logic.{∥∥₁_elim}
use Rattle.std.specs.Prelude.{filter_map}
use Rattle.p3_task.specs.Types.{pair_of}
use Rattle.p3_hierarchy.specs.Spans.{AreSpans, is_found}
use Rattle.p3_hierarchy.specs.declared.order.Order.{Order}
use Rattle.p3_hierarchy.proofs.SpanLemmas.{below-listed}
use Rattle.p3_hierarchy.proofs.kinds.Kinds.below_some.Goals as goal

pub invariant_of-result : goal.invariant_of-result
invariant_of-result c =
    let order = c.args.self.now.order.value in
    let down = c.in_ok-found.field-0 in
    record {
      told = λ name. ap (λ (copy : Order). is_found copy.names down.found down.spans.items name) c.in_ok-order.ensures.cases
          ∙ ∥∥₁_elim order.spanned (Bool-set _ _) (λ exact. below-listed c.args.self.now.task.now c.args.types.now order.names down.found down.spans.items name
          (sym c.has_object.ensures ∙ c.if-has_object.false)
          (c.in_ok-found.ensures (subst (λ kinds. AreSpans (filter_map pair_of kinds) order.names order.spans.items) c.args.self.now.ordered exact)));
    }
