use Rattle.std.proofs.Common.{◌≡◌, drop}
use Rattle.std.specs.List.{list_all}
use Rattle.p3_outline.specs.Constructs.{is_dull_node}
use Rattle.p3_outline.proofs.constructs.are_dull.Given as goal

-- no node passed is anything else
abbrev pub invariant-loop-node : goal.invariant-loop-node
invariant-loop-node l = list_all (is_dull_node l.text) l.nodes ≡ list_all (is_dull_node l.text) (drop l.node-index l.nodes)
