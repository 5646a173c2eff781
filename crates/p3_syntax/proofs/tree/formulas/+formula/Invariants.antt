use Rattle.std.proofs.Common.{◌≡◌, length, ◌+◌, ◌*◌, ◌≤◌, ◌++◌, Some}
use Rattle.p3_task.specs.Grammar.Words.{◌>>=◌, each_at}
use Rattle.p3_task.specs.Grammar.Formulas.{formula_place}
use Rattle.p3_outline.specs.Nodes.{expressions_of}
use Rattle.p3_syntax.proofs.tree.formulas.+formula.Given as goal

abbrev pub decreases-formula_by : goal.decreases-formula_by
decreases-formula_by l = 3 * length l.behind.nodes.now + 2

abbrev pub decreases-exists_form : goal.decreases-exists_form
decreases-exists_form l = 3 * length l.behind.nodes.now + 1

abbrev pub decreases-forall_form : goal.decreases-forall_form
decreases-forall_form l = 3 * length l.behind.nodes.now + 1

abbrev pub decreases-formula : goal.decreases-formula
decreases-formula l = 3 * length l.view.below.now + 3

abbrev pub decreases-formulas : goal.decreases-formulas
decreases-formulas l = 3 * length l.parts.nodes.now + 1

abbrev pub decreases-imply_form : goal.decreases-imply_form
decreases-imply_form l = 3 * length l.behind.nodes.now + 1

abbrev pub decreases-not_form : goal.decreases-not_form
decreases-not_form l = 3 * length l.behind.nodes.now + 1

-- what is found and what is left make up the whole
abbrev pub invariant-formulas-loop-view : goal.invariant-formulas-loop-view
invariant-formulas-loop-view l = record {
  less : length l.left.nodes.now ≤ length l.fn.parts.nodes.now;
  whole : (each_at formula_place (expressions_of l.left) >>= λ rest. Some (l.found ++ rest)) ≡ each_at formula_place (expressions_of l.fn.parts);
}

abbrev pub decreases-formulas-loop-view : goal.decreases-formulas-loop-view
decreases-formulas-loop-view l = length l.left.nodes.now
