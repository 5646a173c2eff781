use Rattle.std.proofs.Common.{sym}
use Rattle.p3_hierarchy.proofs.SearchLemmas.{below-top}
use Rattle.p3_hierarchy.proofs.kinds.all_types.Goals as goal

pub invariant_of-result : goal.invariant_of-result
invariant_of-result c = record { told = λ name. sym (below-top c.args.task.now c.args.types.now name c.requires) }
