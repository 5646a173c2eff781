use Rattle.std.proofs.Common.{◌≡◌, ◌++◌, take}
use Rattle.p3_task.specs.Slots.{words_of}
use Rattle.p3_scenes.specs.Lent.{lent_words}
use Rattle.p3_scenes.proofs.bindings.scope_with.Given as goal

abbrev pub invariant-loop-variable : goal.invariant-loop-variable
invariant-loop-variable l = lent_words l.inner.items ≡ lent_words l.scope ++ words_of (take l.variable-index l.variables)
