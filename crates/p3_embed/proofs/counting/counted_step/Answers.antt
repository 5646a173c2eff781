use Rattle.std.proofs.Common.{arith}
use Rattle.p3_embed.proofs.CountingLaws.{counts, counts_not, no_copy_counts}
use Rattle.p3_embed.proofs.counting.counted_step.Goals as goal

pub returns-in-Some : goal.returns-in-Some
returns-in-Some c = counts c.args.task.now (omega arith) c.args.name.now c.in-Some.number c.in-Some.ensures.some (omega arith)

pub returns-in_default : goal.returns-in_default
returns-in_default c = counts_not c.args.task.now (omega arith) c.args.name.now c.in-Some.number c.in-Some.ensures.small c.in-Some.ensures.some (λ h. omega (arith, h))

pub returns-in_default-2 : goal.returns-in_default-2
returns-in_default-2 c = no_copy_counts c.args.task.now (omega arith) c.args.name.now c.in_default.ensures.none
