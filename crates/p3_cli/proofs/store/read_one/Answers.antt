use Rattle.std.proofs.Common.{Err, ap}
use Rattle.p3_cli.specs.Asked.{asked_input}
use Rattle.p3_cli.proofs.StoreLemmas.{unread_first}
use Rattle.p3_cli.proofs.store.read_one.Goals as goal

pub returns-in-Err-Failed-clause-err : goal.returns-in-Err-Failed-clause-err
returns-in-Err-Failed-clause-err g c =
    (unread_first (g.F.Files.seen c.args.files.now).held (asked_input c.args.input.now), c.in-Err-Failed.ensures.failed (ap Err c.in-Err-Failed.field-0-is))
