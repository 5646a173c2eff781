use Rattle.std.proofs.Common.{◌≡◌, map, take}
use Rattle.p3_formula.specs.Forms.{truth}
use Rattle.p3_formula.specs.declared.form.Change.{Change}
use Rattle.p3_embed.proofs.walking.conditions.Given as goal

-- the conditions of the changes passed are read
abbrev pub invariant-loop-change : goal.invariant-loop-change
invariant-loop-change l = l.holding.items ≡ map (λ (change : Change). truth l.state change.cond) (take l.change-index l.changes)
