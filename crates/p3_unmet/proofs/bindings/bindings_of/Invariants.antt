use Rattle.std.proofs.Common.{◌≡◌, take}
use Rattle.p3_scenes.specs.Lent.{lent_words}
use Rattle.p3_unmet.specs.Bindings.{paired_with}
use Rattle.p3_unmet.proofs.bindings.bindings_of.Given as goal

-- the pairs passed are there
abbrev pub invariant-loop-place : goal.invariant-loop-place
invariant-loop-place l = l.list ≡ paired_with (lent_words (take l.place l.variables)) (take l.place l.objects)
