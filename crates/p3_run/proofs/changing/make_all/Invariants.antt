use Rattle.std.proofs.Common.{◌≡◌, length, map, take}
use Rattle.p3_formula.specs.Forms.{State}
use Rattle.p3_formula.specs.Next.{changed_all}
use Rattle.p3_run.specs.Changing.{found_in}
use Rattle.p3_run.proofs.changing.make_all.Given as goal

abbrev pub invariant-loop-place : goal.invariant-loop-place
invariant-loop-place l = (before : State) → take (length l.effects) l.all ≡ map (found_in before) l.effects → l.state ≡ changed_all l.add before l.fn.state (take l.place l.effects)
