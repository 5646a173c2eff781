use Rattle.std.proofs.Common.{◌∙◌, sym}
use Rattle.p3_compile.proofs.StepLists.{costless}
use Rattle.p3_compile.proofs.stepping.taken_parts.Goals as goal

pub returns : goal.returns
returns c = costless c.args.frame.now c.args.weights.now c.args.step.now c.args.current.now c.new.result c.new.ensures (sym c.is_some.ensures ∙ c.if-is_some.false)
