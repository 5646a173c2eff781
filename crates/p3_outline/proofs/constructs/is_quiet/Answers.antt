use Rattle.std.proofs.Common.{◌∙◌, sym, ap}
use Rattle.std.specs.List.{list_all}
use Rattle.p3_outline.specs.Constructs.{is_dull_node}
use Rattle.p3_outline.proofs.QuietLemmas.{dull_quiet}
use Rattle.p3_outline.proofs.constructs.is_quiet.Goals as goal

pub returns-then-nodes-le-SHORT : goal.returns-then-nodes-le-SHORT
returns-then-nodes-le-SHORT c = λ dull.
    let list = c.args.list in
    let nodes = c.nodes_below-nodes.result.now in
    let of_text = ap (λ text. list_all (is_dull_node text) nodes) c.text.ensures in
    let of_nodes = ap (list_all (is_dull_node list.text.now)) c.nodes_below-nodes.ensures in
    dull_quiet c.args.around list.text.now list.node list.below.now c.if-around.false (sym of_nodes ∙ sym of_text ∙ sym c.are_dull.ensures ∙ dull)
