use Rattle.std.proofs.Common.{◌≡◌, ℕ, List, take}
use Rattle.p3_reasons.specs.Effects.{noted, truth_of}
use Rattle.p3_reasons.proofs.state_facts.StateFacts.note_all.Given as goal

-- the literals passed are noted
abbrev pub invariant-loop-literal : goal.invariant-loop-literal
invariant-loop-literal l = (atom : List ℕ) → truth_of l.self atom ≡ noted l.holds (truth_of l.fn.self) (take l.literal-index l.literals) atom
