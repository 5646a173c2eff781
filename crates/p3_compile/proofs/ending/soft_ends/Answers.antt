use Rattle.std.proofs.Common.{◌∙◌, ◌++◌, ◌<◌, ◌≤◌, ◌+◌, length, take, drop, get_or, sym, ap, subst}
use Rattle.p3_compile.specs.Ending.{accepting, soft_ends}
use Rattle.p3_compile.proofs.EndLists.{enough, left_next, ends_next}
use Rattle.p3_simulation.specs.Monitoring.{modals}
use Rattle.p3_compile.proofs.ending.soft_ends.Goals as goal

pub split_at-requires : goal.split_at-requires
split_at-requires c =
    let within = subst (λ softs. c.loop-one.one-index < length softs) c.items-one-items.ensures c.loop-one-test.true in
    let at = c.one-item.is ∙ ap (λ softs. get_or softs c.loop-one.one-index c.one-item.result) c.items-one-items.ensures in
    subst (λ n. n ≤ length c.loop-one.rest.now) (sym c.len.ensures) (enough c.args.soft.now c.loop-one.one-index c.one-item.result within at c.loop-one.rest.now c.loop-one.invariant.left)

pub loop-one-preserved : goal.loop-one-preserved
loop-one-preserved c =
    let within = subst (λ softs. c.loop-one.one-index < length softs) c.items-one-items.ensures c.loop-one-test.true in
    let at = c.one-item.is ∙ ap (λ softs. get_or softs c.loop-one.one-index c.one-item.result) c.items-one-items.ensures in
    let rest = c.loop-one.rest.now in
    let back = c.split_at.ensures.back ∙ ap (λ n. drop n rest) c.len.ensures in
    let accepts = c.in_ok-accepting.ensures ∙ (λ i. accepting (c.in_ok-with_capacity.ensures i) ((c.split_at.ensures.front ∙ ap (λ n. take n rest) c.len.ensures) i)) in
    record {
      whole = ap (λ list. list ++ soft_ends c.args.by_name.now (drop (c.loop-one.one-index + 1) c.args.soft.now) c.split_at.result.1.now) c.in_ok-push.ensures.ok
          ∙ ends_next c.args.soft.now c.loop-one.one-index c.one-item.result within at c.args.by_name.now rest c.split_at.result.1.now c.loop-one.ends c.in_ok-accepting.field-0 c.named_weight.result back accepts c.named_weight.ensures
          ∙ c.loop-one.invariant.whole;
      left = ap modals back ∙ left_next c.args.soft.now c.loop-one.one-index c.one-item.result within at rest c.loop-one.invariant.left;
    }
