use Rattle.std.proofs.Common.{◌≡◌, ◌∷◌, [], map, take}
use Rattle.p3_task.specs.States.{meanings}
use Rattle.p3_resolve.proofs.given.key_of.Given as goal

abbrev pub invariant-loop-term : goal.invariant-loop-term
invariant-loop-term l = map (λ word. word.now) l.key.items ≡ l.function.name ∷ meanings [] (take l.term-index l.args)
