use Rattle.p3_types.proofs.TableLemmas.{well_formed_from}
use Rattle.p3_types.proofs.checked.Checked.task.Goals as goal

pub returns-clause-well_formed : goal.returns-clause-well_formed
returns-clause-well_formed c = well_formed_from _ c.args.self.now.well_formed
