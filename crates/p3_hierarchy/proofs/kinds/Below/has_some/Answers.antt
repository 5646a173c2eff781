use Rattle.std.proofs.Common.{◌∙◌}
use Rattle.p3_task.specs.Types.{is_below_some}
use Rattle.p3_hierarchy.proofs.SearchLemmas.{some-top, some-named}
use Rattle.p3_hierarchy.proofs.kinds.Below.has_some.Goals as goal

pub returns-then-types-eq0 : goal.returns-then-types-eq0
returns-then-types-eq0 c = c.has_word.ensures ∙ some-top (is_below_some c.args.self.now.task.now c.args.self.now.types.now) c.args.types.now c.if-types-eq0.true

pub returns : goal.returns
returns c = c.has_some_named.ensures ∙ some-named (is_below_some c.args.self.now.task.now c.args.self.now.types.now) c.args.types.now c.if-types-eq0.false
