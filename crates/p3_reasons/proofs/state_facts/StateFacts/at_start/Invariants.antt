use Rattle.std.proofs.Common.{◌≡◌, ℕ, List, map, take}
use Rattle.std.specs.Prelude.{bytes_eq}
use Rattle.std.specs.List.{list_any}
use Rattle.p3_expansion.specs.Statics.{atom_of}
use Rattle.p3_reasons.specs.Effects.{truth_of}
use Rattle.p3_reasons.proofs.state_facts.StateFacts.at_start.Given as goal

-- the atoms passed are true, and no others
abbrev pub invariant-loop-fact : goal.invariant-loop-fact
invariant-loop-fact l = (atom : List ℕ) → truth_of l.facts atom ≡ list_any (bytes_eq atom) (map atom_of (take l.fact-index l.start))
