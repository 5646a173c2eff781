use Rattle.std.proofs.Common.{◌∙◌, ap}
use Rattle.p3_task.specs.Names.{has_name}
use Rattle.p3_task.specs.Offences.{declared_types}
use Rattle.p3_resolve.proofs.TableLemmas.{looked}
use Rattle.p3_resolve.proofs.tables.Tables.is_type.Goals as goal

pub returns : goal.returns
returns c = c.has.ensures ∙ ap (has_name c.args.self.now.types) c.bytes.ensures.bytes ∙ looked _ (declared_types c.args.self.now.task.now) c.args.name.now c.args.self.now.types_told
