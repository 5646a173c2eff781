use Rattle.std.proofs.Common.{◌∙◌, ap, take, drop, length, ◌-◌, slice_index_or}
use Rattle.p3_outline.specs.declared.view.Node.TheVariants as node
use Rattle.p3_outline.specs.Nodes.{below_of}
use Rattle.p3_outline.proofs.NodeLemmas.{first_node, no_nodes, rest_same}
use Rattle.p3_outline.proofs.view.first_view.Goals as goal

pub returns-in-empty-clause-parts : goal.returns-in-empty-clause-parts
returns-in-empty-clause-parts c = no_nodes c.args.text.now c.args.nodes.now c.in-empty.len_below

pub returns-in-len1-up-clause-parts : goal.returns-in-len1-up-clause-parts
returns-in-len1-up-clause-parts c =
    first_node c.args.text.now (node.Word 0 0) c.args.nodes.now c.split.result.0.now c.split.result.1.now c.in-len1-up.len_at_least
    (c.split.ensures.front ∙ ap (λ n. take n (take (length c.args.nodes.now - 1) (drop 1 c.args.nodes.now))) c.count_below.ensures ∙ ap (λ l. take (below_of (slice_index_or c.args.nodes.now 0 (node.Word 0 0))) l) (rest_same c.args.nodes.now))
    (c.split.ensures.later ∙ ap (λ n. drop n (take (length c.args.nodes.now - 1) (drop 1 c.args.nodes.now))) c.count_below.ensures ∙ ap (λ l. drop (below_of (slice_index_or c.args.nodes.now 0 (node.Word 0 0))) l) (rest_same c.args.nodes.now))
