use Rattle.std.proofs.Common.{◌≡◌, map, drop}
use Rattle.p3_syntax.specs.Sections.{the_section}
use Rattle.p3_syntax.specs.Domains.{actions_among}
use Rattle.p3_syntax.proofs.Loops.{behind}
use Rattle.p3_syntax.proofs.tree.domains.actions.Given as goal

-- the actions so far come before those left
abbrev pub invariant-loop-section : goal.invariant-loop-section
invariant-loop-section l = behind l.found (actions_among (map the_section (drop l.section-index l.sections))) ≡ actions_among (map the_section l.sections)
