use Rattle.std.proofs.Common.{◌≡◌, take}
use Rattle.std.specs.Prelude.{flat_map}
use Rattle.p3_task.specs.PreferenceNames.{named_in_constraint}
use Rattle.p3_resolve.specs.Listed.{more, constraint_lists}
use Rattle.p3_resolve.proofs.gather.Gathered.+constraints.Given as goal

abbrev pub invariant-constraints-loop-part : goal.invariant-constraints-loop-part
invariant-constraints-loop-part l = l.self ≡ more (flat_map constraint_lists (take l.part-index l.parts)) (flat_map named_in_constraint (take l.part-index l.parts)) l.fn.self
