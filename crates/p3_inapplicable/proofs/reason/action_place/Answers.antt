use Rattle.std.proofs.Common.{◌≡◌, ◌∙◌, true, sym, ap}
use Rattle.p3_task.specs.Names.{same_name}
use Rattle.p3_task.specs.declared.task.Action.{Action}
use Rattle.p3_inapplicable.proofs.ReasonLemmas.{found-here}
use Rattle.p3_inapplicable.proofs.reason.action_place.Goals as goal

pub returns-then-eq-clause-found : goal.returns-then-eq-clause-found
returns-then-eq-clause-found c =
    let item = c.index-actions-place.result in
    let name : item.name.name ≡ c.bytes.result.now = ap (λ (one : Action). one.name.name) c.index-actions-place.is ∙ sym c.bytes.ensures.bytes in
    let same : same_name item.name.name c.args.name.now ≡ true = (λ i. same_name (name i) (sym c.bytes-in-loop-place.ensures.bytes i)) ∙ sym c.eq.ensures ∙ c.if-eq.true in
    found-here c.args.actions.now c.args.name.now c.loop-place.place item c.loop-place-test.true c.index-actions-place.is same c.loop-place.invariant
