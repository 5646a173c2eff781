use Rattle.std.proofs.Common.{not, ◌||◌, take}
use Rattle.std.specs.List.{list_all}
use Rattle.p3_formula.specs.Forms.{is_set}
use Rattle.p3_reach.specs.Closed.{change_keeps}
use Rattle.p3_reach.specs.Models.{Says}
use Rattle.p3_reach.proofs.leading.lead_changes.Given as goal

-- it is said of the changes passed
abbrev pub invariant-loop-change : goal.invariant-loop-change
invariant-loop-change l = Says (λ set. not (is_set set l.fits) || list_all (change_keeps set) (take l.change-index l.changes)) l.fn.theory l.theory
