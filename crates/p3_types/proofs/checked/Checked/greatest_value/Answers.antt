use Rattle.std.proofs.Common.{◌∙◌}
use Rattle.p3_types.proofs.TableLemmas.{greatest_at}
use Rattle.p3_types.proofs.checked.Checked.greatest_value.Goals as goal

pub returns : goal.returns
returns c = c.index.ensures ∙ greatest_at c.args.self.now.task c.args.self.now.numbered.numbers.functions c.args.self.now.greatest.items c.args.function _ c.args.self.now.values c.requires
