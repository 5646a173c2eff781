use Rattle.std.proofs.Common.{refl}
use Rattle.p3_ground.proofs.WholeLaws.{whole-is}
use Rattle.p3_ground.proofs.whole.together.Goals as goal

pub returns : goal.returns
returns c = λ wanted parts.
    whole-is c.args.task.now.task c.args.task.now.numbered c.args.statics.now c.args.costs.now.places c.args.atoms.now wanted c.args.parts _ c.requires.few c.requires.places parts
    refl c.requires.initial c.requires.cost c.step_count.ensures refl refl refl refl c.names.ensures
