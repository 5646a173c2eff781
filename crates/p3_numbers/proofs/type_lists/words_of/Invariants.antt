use Rattle.std.proofs.Common.{◌≡◌, map, take}
use Rattle.p3_task.specs.Types.{names_of}
use Rattle.p3_numbers.proofs.type_lists.words_of.Given as goal

abbrev pub invariant-loop-kind : goal.invariant-loop-kind
invariant-loop-kind l = map (λ word. word.now) l.words.items ≡ names_of (take l.kind-index l.types)
