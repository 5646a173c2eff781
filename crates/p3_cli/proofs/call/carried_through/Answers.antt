use Rattle.std.proofs.Common.{ap, rules}
use Rattle.p3_cli.specs.Ending.{ending_of}
use Rattle.p3_cli.proofs.RunLemmas.{ends_so}
use Rattle.p3_cli.proofs.call.carried_through.Goals as goal

pub returns-in-Err-clause-ending : goal.returns-in-Err-clause-ending
returns-in-Err-clause-ending g c =
    let refused = c.in-Err.ensures in
    ends_so (g.S.Sink.seen c.carried_out.new.out) (ending_of c.in-Err.ending) (search rules) (ap g.S.Sink.seen refused.unput) refused.comes refused.leaves (search rules)
