use Rattle.std.proofs.Common.{◌∙◌, ap, take}
use Rattle.std.proofs.lemmas.List.{take_min}
use Rattle.p3_reports.proofs.placed.first.Goals as goal

pub returns-clause-bytes : goal.returns-clause-bytes
returns-clause-bytes c = ap (λ n. take n c.args.bytes.now) c.min.ensures ∙ take_min c.args.len c.args.bytes.now
