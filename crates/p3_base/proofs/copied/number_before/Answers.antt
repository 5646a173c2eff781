use Rattle.p3_base.proofs.CopiedLaws.{in_front, no_mark_at_all}
use Rattle.p3_base.proofs.copied.number_before.Goals as goal

pub returns-in-Some-clause-some : goal.returns-in-Some-clause-some
returns-in-Some-clause-some c =
    (in_front c.args.mark c.requires.no_digit c.args.bytes.now c.in-Some.place c.in-Some.ensures.some c.number_of.result c.number_of.ensures.some c.number_of.ensures.none).0

pub returns-in-Some-clause-none : goal.returns-in-Some-clause-none
returns-in-Some-clause-none c =
    (in_front c.args.mark c.requires.no_digit c.args.bytes.now c.in-Some.place c.in-Some.ensures.some c.number_of.result c.number_of.ensures.some c.number_of.ensures.none).1

pub returns-in-None-clause-none : goal.returns-in-None-clause-none
returns-in-None-clause-none c = no_mark_at_all c.args.mark c.requires.no_digit c.args.bytes.now c.in-None.ensures.none
