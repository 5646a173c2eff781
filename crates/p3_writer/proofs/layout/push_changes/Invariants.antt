use Rattle.std.proofs.Common.{◌≡◌, ◌++◌, map, take}
use Rattle.p3_writer.specs.Layout as layout
use Rattle.p3_writer.proofs.layout.push_changes.Given as goal

-- the changes passed stand written
abbrev pub invariant-loop-change : goal.invariant-loop-change
invariant-loop-change l = l.out.items ≡ l.fn.out.items ++ layout.spaced (map (layout.change_text l.atoms) (take l.change-index l.changes))
