use Rattle.std.proofs.Common.{subst}
use Rattle.std.specs.Prelude.{◌≡◌, IfSome}
use Rattle.p3_formula.specs.Nodes.{form_of, node_form}
use Rattle.p3_formula.proofs.NodeLemmas.{node-stands}
use Rattle.p3_formula.proofs.table.Table.node.Goals as goal

pub returns-clause-stands : goal.returns-clause-stands
returns-clause-stands c =
    subst (λ nodes. IfSome c.get_index.result (λ node. form_of nodes c.args.number ≡ node_form (form_of nodes) node.now)) c.self.view_is
    (node-stands c.self.inside.nodes.keys c.args.number c.get_index.result c.self.invariant c.get_index.ensures.key)
