use Rattle.std.proofs.Common.{None}
use Rattle.p3_embed.specs.Actions.{NoneFitsWithin}
use Rattle.p3_embed.proofs.fitting.fitting_within.Given as goal

-- none of those passed fits
abbrev pub invariant-loop-place : goal.invariant-loop-place
invariant-loop-place l = NoneFitsWithin l.actions.counts.items l.target l.state None l.from l.place
