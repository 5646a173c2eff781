use Rattle.std.proofs.Common.{rules}
use Rattle.std.proofs.lemmas.Map.Made.{AllPairs-from_IsDistinct}
use Rattle.p3_formula.proofs.NodeLemmas.{one-number}
use Rattle.p3_formula.proofs.table.Table.insert.Goals as goal

pub returns-clause-distinct : goal.returns-clause-distinct
returns-clause-distinct c = one-number c.insert_full.new.self.keys (AllPairs-from_IsDistinct (λ a b. search rules) c.insert_full.new.self.keys c.in_ok-number.ensures.unique)
