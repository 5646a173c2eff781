use Rattle.std.proofs.Common.{◌≡◌, ◌+◌, ◌*◌, map, drop}
use Rattle.std.specs.List.{list_any, list_all}
use Rattle.p3_formula.specs.Forms.{truth}
use Rattle.p3_formula.specs.Nodes.{form_of}
use Rattle.p3_formula.proofs.table.Table.+truth.Given as goal

abbrev pub decreases-truth : goal.decreases-truth
decreases-truth l = 3 * l.number + 2

abbrev pub decreases-node_truth : goal.decreases-node_truth
decreases-node_truth l = 3 * l.count + 1

abbrev pub decreases-all_hold : goal.decreases-all_hold
decreases-all_hold l = 3 * l.count

abbrev pub decreases-some_holds : goal.decreases-some_holds
decreases-some_holds l = 3 * l.count

-- the numbers that are left decide
abbrev pub invariant-all_hold-loop-number : goal.invariant-all_hold-loop-number
invariant-all_hold-loop-number l = list_all (truth l.state) (map (form_of l.self) (drop l.number-index l.numbers)) ≡ list_all (truth l.state) (map (form_of l.self) l.numbers)

abbrev pub invariant-some_holds-loop-number : goal.invariant-some_holds-loop-number
invariant-some_holds-loop-number l = list_any (truth l.state) (map (form_of l.self) (drop l.number-index l.numbers)) ≡ list_any (truth l.state) (map (form_of l.self) l.numbers)
