use Rattle.std.proofs.Common.{not, sym, subst}
use Rattle.p3_steps.specs.Late.{MayAlways, PartsMayAlways}
use Rattle.p3_steps.specs.Possible.{may_be}
use Rattle.p3_steps.proofs.EachLemmas.{always-passed, same-is}
use Rattle.p3_steps.proofs.LateLemmas.{always-And, always-Or, body-at-each, body-at-some, on-true, where-true}
use Rattle.p3_steps.proofs.late.+certain.Goals as goal

pub may_always-returns-in-And : goal.may_always-returns-in-And
may_always-returns-in-And t c =
    let N = c.args.numbers.now in
    let S = c.args.statics.now in
    on-true c.parts_may_always.result
    (λ always. subst (λ one. MayAlways N S one c.args.wish) (sym c.in-And.is) (always-And N S c.in-And.parts c.args.wish (subst (λ parts. PartsMayAlways N S c.args.wish parts c.args.wish) c.items.ensures always)))
    c.parts_may_always.ensures

pub may_always-returns-in-Or : goal.may_always-returns-in-Or
may_always-returns-in-Or t c =
    let N = c.args.numbers.now in
    let S = c.args.statics.now in
    on-true c.parts_may_always-in-Or.result
    (λ always. subst (λ one. MayAlways N S one c.args.wish) (sym c.in-Or.is) (always-Or N S c.in-Or.parts c.args.wish (subst (λ parts. PartsMayAlways N S (not c.args.wish) parts c.args.wish) c.items-in-Or.ensures always)))
    c.parts_may_always-in-Or.ensures

pub body_may_always-returns-then-every : goal.body_may_always-returns-then-every
body_may_always-returns-then-every t c =
    on-true c.may_always.result (body-at-each c.args.numbers.now c.args.statics.now c.args.ranges.now c.args.body.now c.args.every c.args.wish c.if-every.true) c.may_always.ensures

pub body_may_always-returns : goal.body_may_always-returns
body_may_always-returns t c =
    on-true c.may_always-2.result
    (body-at-some c.args.numbers.now c.args.statics.now c.args.ranges.now c.args.body.now c.args.every c.args.wish c.if-not-has_choice.ensures) c.may_always-2.ensures

pub parts_may_always-loop-part-preserved : goal.parts_may_always-loop-part-preserved
parts_may_always-loop-part-preserved t c rest =
    c.loop-part.invariant
    (always-passed (λ slots part. may_be c.args.numbers.now c.args.statics.now slots part c.args.wish) c.args.parts.now c.loop-part.part-index c.part-item.result c.loop-part-test.true c.part-item.is c.args.every c.may_always.result
    (λ is. where-true c.may_always.result c.may_always.ensures is) (same-is c.may_always.result c.args.every c.if-may_always-every.false) rest)
