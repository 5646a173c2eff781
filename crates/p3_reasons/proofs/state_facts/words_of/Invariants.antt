use Rattle.std.proofs.Common.{◌≡◌, ◌∷◌, take}
use Rattle.p3_reasons.proofs.state_facts.words_of.Given as goal

abbrev pub invariant-loop-object : goal.invariant-loop-object
invariant-loop-object l = l.words.items ≡ l.fact.predicate ∷ take l.object-index l.fact.objects
