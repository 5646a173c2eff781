use Rattle.std.proofs.Common.{bytes_eq, take}
use Rattle.std.specs.HashMap.{get}
use Rattle.p3_resolve.specs.Tables.{FindsFirst}
use Rattle.p3_resolve.proofs.firsts.firsts_of.Given as goal

abbrev pub invariant-loop-place : goal.invariant-loop-place
invariant-loop-place g l = FindsFirst g.T.Worded.word_of (take l.place l.items) (get (λ x y. bytes_eq x.now y.now) l.first)
