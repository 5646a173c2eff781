use Rattle.std.proofs.Common.{arith}
use Rattle.p3_cli.proofs.NumberLemmas.{no_number, number_is, other_number}
use Rattle.p3_cli.proofs.sample_number.sample_number.Goals as goal

pub returns-in-Some : goal.returns-in-Some
returns-in-Some c = number_is c.args.word.now c.in-Some.number c.if-number-ge1.true c.if-number-le-LAST.true c.in-Some.ensures.some

pub returns-in_default : goal.returns-in_default
returns-in_default c =
    other_number c.args.word.now c.in-Some.number (omega arith) c.in-Some.ensures.some (λ low high. omega (arith, high, c.if-number-le-LAST.false))

pub returns-in_default-2 : goal.returns-in_default-2
returns-in_default-2 c =
    other_number c.args.word.now c.in-Some.number (omega arith) c.in-Some.ensures.some (λ low high. omega (arith, low, c.if-number-ge1.false))

pub returns-in_default-3 : goal.returns-in_default-3
returns-in_default-3 c = no_number c.args.word.now (λ number low high is. c.in_default.ensures.none number (omega (arith, high)) is)
