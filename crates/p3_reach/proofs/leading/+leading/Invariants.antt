use Rattle.std.proofs.Common.{◌&&◌, take}
use Rattle.std.specs.List.{list_any, list_all}
use Rattle.p3_formula.specs.Forms.{is_set}
use Rattle.p3_reach.specs.May.{may_be}
use Rattle.p3_reach.specs.Models.{Says, Names, leads}
use Rattle.p3_reach.proofs.leading.+leading.Given as goal

-- a proposition stands for the parts passed
abbrev pub invariant-lead_by_all-loop-part : goal.invariant-lead_by_all-loop-part
invariant-lead_by_all-loop-part l = Names l.reached (λ set. is_set set l.given && list_all (may_be l.holds set) (take l.part-index l.parts)) l.fn.theory l.theory

-- it is said of the parts passed
abbrev pub invariant-lead_by_some-loop-part : goal.invariant-lead_by_some-loop-part
invariant-lead_by_some-loop-part l = Says (leads l.given (λ set. list_any (may_be l.holds set) (take l.part-index l.parts)) l.gives) l.fn.theory l.theory
