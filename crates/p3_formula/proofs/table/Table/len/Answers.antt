use Rattle.std.proofs.Common.{rules, subst}
use Rattle.std.proofs.lemmas.Map.Made.{AllPairs-from_IsDistinct}
use Rattle.p3_formula.specs.Nodes.{AreDistinct}
use Rattle.p3_formula.proofs.NodeLemmas.{one-number}
use Rattle.p3_formula.proofs.table.Table.len.Goals as goal

pub returns-clause-distinct : goal.returns-clause-distinct
returns-clause-distinct c = subst AreDistinct c.self.view_is (one-number c.self.inside.nodes.keys (AllPairs-from_IsDistinct (λ a b. search rules) c.self.inside.nodes.keys c.len.ensures.unique))
