use Rattle.std.proofs.Common.{◌≡◌, ◌+◌, ◌*◌, ◌<◌, All, length, map, take}
use Rattle.p3_formula.specs.Nodes.{form_of}
use Rattle.p3_regress.specs.Memory.{GoesOn}
use Rattle.p3_regress.specs.Regressed as made
use Rattle.p3_regress.specs.Sorted.{lent}
use Rattle.p3_regress.proofs.regression.+before.Given as goal

abbrev pub decreases-before : goal.decreases-before
decreases-before l = 4 * l.number + 3

abbrev pub decreases-answered : goal.decreases-answered
decreases-answered l = 4 * l.number + 2

abbrev pub decreases-node_before : goal.decreases-node_before
decreases-node_before l = 4 * l.count + 1

abbrev pub decreases-all_before : goal.decreases-all_before
decreases-all_before l = 4 * l.count

-- the numbers passed have their answers
abbrev pub invariant-all_before-loop-number : goal.invariant-all_before-loop-number
invariant-all_before-loop-number l = record {
  goes_on : GoesOn (lent l.changes) l.fn.memory.table l.memory.table l.fn.memory.answers.items l.memory.answers.items;
  below : All (λ before. before < length l.memory.table) l.befores;
  stand : map (form_of l.memory.table) l.befores ≡ map (made.regressed (lent l.changes)) (map (form_of l.fn.memory.table) (take l.number-index l.numbers));
}
