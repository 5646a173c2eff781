use Rattle.p3_flat.proofs.FlatLaws.{flattened_from}
use Rattle.p3_flat.proofs.flattening.flatten.Goals as goal

pub returns-clause-flat : goal.returns-clause-flat
returns-clause-flat c = flattened_from c.args.target.now c.in_ok-with_actions.field-0 c.in_ok-actions.actions c.requires c.in_ok-with_actions.ensures c.in_ok-actions.ensures.flat
