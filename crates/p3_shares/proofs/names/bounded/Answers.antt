use Rattle.p3_run.proofs.TallyLaws.{small_items}
use Rattle.p3_shares.proofs.names.bounded.Goals as goal

pub returns-clause-small : goal.returns-clause-small
returns-clause-small c = small_items c.args.by_name.now c.type_inv.by_name
