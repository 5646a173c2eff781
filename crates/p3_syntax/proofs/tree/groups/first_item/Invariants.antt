use Rattle.std.proofs.Common.{◌≡◌, ◌+◌, ◌≤◌, ◌<◌, ◌∷◌, length, take, drop}
use Rattle.p3_outline.specs.Nodes.{expression_of, expressions_of}
use Rattle.p3_syntax.specs.Groups.{all_grouped}
use Rattle.p3_syntax.proofs.GroupLemmas.{scan}
use Rattle.p3_syntax.proofs.tree.groups.first_item.Given as goal

-- the items passed wait for their type
abbrev pub invariant-group : goal.invariant-group
invariant-group l = record {
  whole : scan (expression_of l.first ∷ take l.count (expressions_of l.left)) (expressions_of l.ahead) ≡ all_grouped (expressions_of l.fn.parts);
  here : expressions_of l.ahead ≡ drop l.count (expressions_of l.left);
  nodes : l.count + length l.ahead.nodes.now ≤ length l.left.nodes.now;
  less : length l.left.nodes.now < length l.fn.parts.nodes.now;
}

abbrev pub decreases-group : goal.decreases-group
decreases-group l = length l.ahead.nodes.now
