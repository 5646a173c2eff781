use Rattle.std.proofs.Common.{◌≡◌, length, ◌+◌, ◌*◌, ◌≤◌, ◌++◌, Some}
use Rattle.p3_task.specs.Grammar.Words.{◌>>=◌}
use Rattle.p3_outline.specs.Nodes.{expressions_of}
use Rattle.p3_syntax.specs.Trees.{listed}
use Rattle.p3_syntax.specs.Effects.{effect_found, trees_of}
use Rattle.p3_syntax.proofs.tree.effects.+effect.Given as goal

abbrev pub decreases-effect_at : goal.decreases-effect_at
decreases-effect_at l = 4 * length l.view.below.now + 4

abbrev pub decreases-by_word : goal.decreases-by_word
decreases-by_word l = 4 * length l.behind.nodes.now + 3

abbrev pub decreases-each_form : goal.decreases-each_form
decreases-each_form l = 4 * length l.behind.nodes.now + 2

abbrev pub decreases-when_form : goal.decreases-when_form
decreases-when_form l = 4 * length l.behind.nodes.now + 2

abbrev pub decreases-effects : goal.decreases-effects
decreases-effects l = 4 * length l.parts.nodes.now + 1

-- what is found and what is left make up the whole
abbrev pub invariant-effects-loop-view : goal.invariant-effects-loop-view
invariant-effects-loop-view l = record {
  less : length l.left.nodes.now ≤ length l.fn.parts.nodes.now;
  whole : (trees_of (listed effect_found (expressions_of l.left)) l.free >>= λ rest. Some (l.found ++ rest)) ≡ trees_of (listed effect_found (expressions_of l.fn.parts)) l.free;
}

abbrev pub decreases-effects-loop-view : goal.decreases-effects-loop-view
decreases-effects-loop-view l = length l.left.nodes.now
