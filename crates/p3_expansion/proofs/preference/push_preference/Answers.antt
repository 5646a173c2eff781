use Rattle.std.proofs.Common.{refl}
use Rattle.p3_expansion.proofs.PreferenceLemmas.{pushes-preference}
use Rattle.p3_expansion.proofs.preference.push_preference.Goals as goal

pub returns : goal.returns
returns c =
    pushes-preference c.args.numbers.now c.args.slots.now c.args.statics.now c.args.work.now c.condition_form.new.work c.args.preference.now c.args.made.now c.push.new.self (record { name = c.args.preference.now.name; body = c.in_ok-body.body })
    c.in_ok-body.ensures refl c.in_ok-push.ensures.ok
