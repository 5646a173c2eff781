use Rattle.std.proofs.Common.{◌≡◌, map, drop}
use Rattle.p3_task.specs.Grammar.Halves.{sections_named}
use Rattle.p3_syntax.specs.Sections.{the_section}
use Rattle.p3_syntax.proofs.tree.sections.at_most_one.Given as goal

-- those left have all that there are
abbrev pub invariant-loop-section : goal.invariant-loop-section
invariant-loop-section l = sections_named l.keyword (map the_section (drop l.section-index l.sections)) ≡ sections_named l.keyword (map the_section l.sections)
