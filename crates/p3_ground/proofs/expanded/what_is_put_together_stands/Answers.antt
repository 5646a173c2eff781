use Rattle.p3_ground.proofs.PutTogether.{what-is-put-together-stands}
use Rattle.p3_ground.proofs.expanded.what_is_put_together_stands.Goals as goal

pub returns : goal.returns
returns c = what-is-put-together-stands
