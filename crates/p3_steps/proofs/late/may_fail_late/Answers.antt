use Rattle.std.proofs.Common.{sym, subst}
use Rattle.p3_steps.specs.Late.{MayAlwaysBegin}
use Rattle.p3_steps.proofs.LateLemmas.{always-Each, on-not}
use Rattle.p3_steps.proofs.late.may_fail_late.Goals as goal

pub returns-in-Each : goal.returns-in-Each
returns-in-Each c =
    let N = c.args.numbers.now in
    let S = c.args.statics.now in
    on-not c.may_always_begin.result
    (λ always slots yet. subst (MayAlwaysBegin N S) (sym c.in-Each.is) (always-Each N S c.in-Each.field-0 c.in-Each.body (subst (MayAlwaysBegin N S) c.get.ensures always)) slots) c.may_always_begin.ensures
