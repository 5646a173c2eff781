use Rattle.p3_compile.proofs.CopyLists.{is_copied}
use Rattle.p3_compile.proofs.narrow.target_copy.Goals as goal

pub returns : goal.returns
returns c = is_copied c.args.effects c.args.copy c.in_ok-effects.effects c.requires c.in_ok-effects.ensures.simpler c.in_ok-effects.ensures.tidy c.in_ok-effects.ensures.possible
