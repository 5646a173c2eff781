use Rattle.std.proofs.Common.{◌∙◌, length, ap, arith}
use Rattle.p3_numbers.specs.declared.task.NumberedTask.{NumberedTask}
use Rattle.p3_limits.proofs.IncreaseLaws.{none-greatest}
use Rattle.p3_limits.proofs.increases.greatest_at.Goals as goal

pub returns-else-function-len : goal.returns-else-function-len
returns-else-function-len c =
    let functions = c.args.task.now.numbered.numbers.functions in
    let count = c.len.ensures ∙ ap (λ (X : NumberedTask). length X.numbers.functions) c.numbered.ensures.task in
    none-greatest c.args.task.now.task functions c.args.function (omega (arith, c.if-function-len.false, count))
