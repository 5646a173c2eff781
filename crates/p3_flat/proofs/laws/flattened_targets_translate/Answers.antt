use Rattle.p3_flat.proofs.FlatLaws.{flat_translates}
use Rattle.p3_flat.proofs.laws.flattened_targets_translate.Goals as goal

pub returns : goal.returns
returns c = λ G weights X Y names known flat. flat_translates X Y flat names G weights known
