use Rattle.std.proofs.Common.{◌≡◌, map, drop}
use Rattle.p3_task.specs.Grammar.Halves.{sections_named}
use Rattle.p3_syntax.specs.Actions.{the_part}
use Rattle.p3_syntax.proofs.tree.actions.at_most_one.Given as goal

-- those left have all that there are
abbrev pub invariant-loop-part : goal.invariant-loop-part
invariant-loop-part l = sections_named l.keyword (map the_part (drop l.part-index l.parts)) ≡ sections_named l.keyword (map the_part l.parts)
