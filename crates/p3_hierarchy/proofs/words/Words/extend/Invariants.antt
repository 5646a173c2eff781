use Rattle.std.proofs.Common.{◌≡◌, map, take}
use Rattle.p3_numbers.specs.Names.{with_names}
use Rattle.p3_hierarchy.proofs.words.Words.extend.Given as goal

abbrev pub invariant-loop-word : goal.invariant-loop-word
invariant-loop-word l = l.self ≡ with_names l.fn.self (map (λ word. word.now) (take l.word-index l.words))
