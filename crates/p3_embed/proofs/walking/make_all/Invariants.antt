use Rattle.std.proofs.Common.{◌≡◌, map, take}
use Rattle.p3_formula.specs.Forms.{State, truth}
use Rattle.p3_formula.specs.Next.{changed_all}
use Rattle.p3_formula.specs.declared.form.Change.{Change}
use Rattle.p3_embed.proofs.walking.make_all.Given as goal

-- the changes passed are made
abbrev pub invariant-loop-place : goal.invariant-loop-place
invariant-loop-place l = (before : State) → l.holding ≡ map (λ (change : Change). truth before change.cond) l.changes → l.state ≡ changed_all l.add before l.fn.state (take l.place l.changes)
