use Rattle.p3_embed.specs.Sought.{IsWalkFor}
use Rattle.p3_embed.proofs.embedding.embed_numbers.Given as goal

-- the steps passed are taken
abbrev pub invariant-loop-at : goal.invariant-loop-at
invariant-loop-at l = IsWalkFor l.sought l.at l.walk
