use Rattle.std.proofs.Common.{◌≡◌, take}
use Rattle.p3_embed.specs.Actions.{counted_from}
use Rattle.p3_embed.proofs.actions.copies_of.Given as goal

-- the copies among the actions passed are there
abbrev pub invariant-loop-place : goal.invariant-loop-place
invariant-loop-place l = l.copies.items ≡ counted_from 0 (take l.place l.counts)
