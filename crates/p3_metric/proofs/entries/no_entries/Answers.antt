use Rattle.p3_metric.proofs.EntryLemmas.{number_at_none}
use Rattle.p3_metric.proofs.entries.no_entries.Goals as goal

pub returns : goal.returns
returns c = λ name. number_at_none c.with_hasher.result c.with_hasher.ensures.empty name
