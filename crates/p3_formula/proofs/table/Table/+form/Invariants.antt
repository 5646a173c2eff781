use Rattle.std.proofs.Common.{◌≡◌, ◌+◌, ◌*◌, map, take}
use Rattle.p3_formula.specs.Nodes.{form_of}
use Rattle.p3_formula.proofs.table.Table.+form.Given as goal

abbrev pub decreases-form : goal.decreases-form
decreases-form l = 3 * l.number + 2

abbrev pub decreases-node_form : goal.decreases-node_form
decreases-node_form l = 3 * l.count + 1

abbrev pub decreases-all_forms : goal.decreases-all_forms
decreases-all_forms l = 3 * l.count

-- the numbers passed have their forms
abbrev pub invariant-all_forms-loop-number : goal.invariant-all_forms-loop-number
invariant-all_forms-loop-number l = l.forms.items ≡ map (form_of l.self) (take l.number-index l.numbers)
