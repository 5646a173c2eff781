use Rattle.p3_expansion.proofs.OperatorLemmas.{pushes-operator}
use Rattle.p3_expansion.proofs.constraint.push_operator.Goals as goal

pub returns : goal.returns
returns c =
    pushes-operator c.args.numbers.now c.args.statics.now c.args.work.now c.ground_operator.new.work (record { modal = c.args.modal.now; slots = c.args.slots.now }) c.args.made.now c.push.new.self c.in_ok-operator.operator c.in_ok-operator.ensures c.in_ok-push.ensures.ok
