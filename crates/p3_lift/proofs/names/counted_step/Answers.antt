use Rattle.std.proofs.Common.{◌≡◌, arith, subst, true}
use Rattle.p3_base.specs.Copies.{is_copy_of}
use Rattle.p3_base.specs.Words.{Name}
use Rattle.p3_base.specs.Copied.{IsNoCopy}
use Rattle.p3_lift.proofs.NameLaws.{no_arguments, of_copy, of_no_copy, of_other_copy, some_arguments, with_arguments}
use Rattle.p3_lift.proofs.names.counted_step.Goals as goal

pub returns-then-not-is_empty-clause-counts : goal.returns-then-not-is_empty-clause-counts
returns-then-not-is_empty-clause-counts c =
    with_arguments c.args.task.now.task c.args.written.now (some_arguments c.args.written.now.args c.is_empty.result c.is_empty.ensures c.if-not-is_empty.true)

pub returns-in-Some-clause-counts : goal.returns-in-Some-clause-counts
returns-in-Some-clause-counts c =
    of_copy c.args.task.now.task c.args.written.now (omega (arith, c.requires.few)) c.in-Some.number c.in-Some.ensures.small
    (subst (λ (name : Name). is_copy_of c.in-Some.number name ≡ true) c.bytes.ensures.bytes c.in-Some.ensures.some)
    (no_arguments c.args.written.now.args c.is_empty.result c.is_empty.ensures c.if-not-is_empty.false)
    (omega (arith, c.if-number-step_count.true, c.step_count-step_count.ensures, c.requires.few))

pub returns-in_default-clause-counts : goal.returns-in_default-clause-counts
returns-in_default-clause-counts c =
    of_other_copy c.args.task.now.task c.args.written.now (omega (arith, c.requires.few)) c.in-Some.number c.in-Some.ensures.small
    (subst (λ (name : Name). is_copy_of c.in-Some.number name ≡ true) c.bytes.ensures.bytes c.in-Some.ensures.some)
    (λ within. omega (arith, within, c.if-number-step_count.false, c.step_count-step_count.ensures, c.requires.few))

pub returns-in_default-2-clause-counts : goal.returns-in_default-2-clause-counts
returns-in_default-2-clause-counts c =
    of_no_copy c.args.task.now.task c.args.written.now (omega (arith, c.requires.few)) (subst IsNoCopy c.bytes.ensures.bytes c.in_default.ensures.none)
