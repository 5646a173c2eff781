use Rattle.std.proofs.Common.{◌≡◌, map, length}
use Rattle.p3_task.specs.Grammar.Words.{each_at}
use Rattle.p3_task.specs.Grammar.Halves.{section_place}
use Rattle.p3_outline.specs.Nodes.{expressions_of}
use Rattle.p3_syntax.specs.Sections.{the_section}
use Rattle.p3_syntax.proofs.Loops.{behind}
use Rattle.p3_syntax.proofs.tree.sections.each_section.Given as goal

-- the sections so far come before those left
abbrev pub invariant-loop-view : goal.invariant-loop-view
invariant-loop-view l = behind (map the_section l.found.items) (each_at section_place (expressions_of l.left)) ≡ each_at section_place (expressions_of l.fn.parts)

abbrev pub decreases-loop-view : goal.decreases-loop-view
decreases-loop-view l = length l.left.nodes.now
