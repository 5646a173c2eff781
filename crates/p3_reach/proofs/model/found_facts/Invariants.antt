use Rattle.p3_reach.specs.Derived.{IsFactsUpTo}
use Rattle.p3_reach.proofs.model.found_facts.Given as goal

-- the facts passed are found
abbrev pub invariant-loop-proposition : goal.invariant-loop-proposition
invariant-loop-proposition l = IsFactsUpTo l.proposition l.facts l.found
