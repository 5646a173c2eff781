use Rattle.std.proofs.lemmas.Result.{on_ok_weaker}
use Rattle.p3_reach.proofs.LeadLaws.{says_link}
use Rattle.p3_reach.proofs.leading.link.Goals as goal

pub returns : goal.returns
returns c = on_ok_weaker c.add.result (says_link c.args.given c.args.gives c.args.theory.now c.add.new.self) c.add.ensures
