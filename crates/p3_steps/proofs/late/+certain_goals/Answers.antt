use Rattle.std.proofs.Common.{sym, subst}
use Rattle.std.specs.List.{All}
use Rattle.p3_steps.specs.Late.{MayAlwaysBegin}
use Rattle.p3_steps.proofs.LateLemmas.{always-Both, always-Each, on-true}
use Rattle.p3_steps.proofs.late.+certain_goals.Goals as goal

pub may_always_begin-returns-in-Both : goal.may_always_begin-returns-in-Both
may_always_begin-returns-in-Both t c =
    let N = c.args.numbers.now in
    let S = c.args.statics.now in
    on-true c.all_may_always_begin.result
    (λ always. subst (MayAlwaysBegin N S) (sym c.in-Both.is) (always-Both N S c.in-Both.parts (subst (All (MayAlwaysBegin N S)) c.items.ensures always))) c.all_may_always_begin.ensures

pub may_always_begin-returns-in-Each : goal.may_always_begin-returns-in-Each
may_always_begin-returns-in-Each t c =
    let N = c.args.numbers.now in
    let S = c.args.statics.now in
    on-true c.may_always_begin.result
    (λ always. subst (MayAlwaysBegin N S) (sym c.in-Each.is) (always-Each N S c.in-Each.field-0 c.in-Each.body (subst (MayAlwaysBegin N S) c.get.ensures always))) c.may_always_begin.ensures
