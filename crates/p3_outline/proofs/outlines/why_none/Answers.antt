use Rattle.std.proofs.Common.{◌∙◌, sym}
use Rattle.p3_outline.proofs.SoundLemmas.{never}
use Rattle.p3_outline.proofs.outlines.why_none.Goals as goal

-- where no refusal was found, there are nodes
pub returns-in-None : goal.returns-in-None
returns-in-None c = absurd (never c.args.role c.args.limit c.args.text.now (sym c.first_refusal.ensures ∙ c.in-None.is) c.requires.none)
