use Rattle.p3_reach.proofs.ModelLaws.{says_rule}
use Rattle.std.proofs.Common.{refl}
use Rattle.p3_reach.proofs.rules.Theory.add.Goals as goal

pub returns : goal.returns
returns c = says_rule c.args.self.now _ c.args.rule refl refl c.in_ok-push.ensures.ok
