use Rattle.std.proofs.Common.{◌≡◌, ℕ, List, take}
use Rattle.p3_reasons.specs.Effects.{truth_of}
use Rattle.p3_reasons.specs.Visits.{test_after}
use Rattle.p3_reasons.proofs.state_facts.StateFacts.after.Given as goal

-- the steps passed are done
abbrev pub invariant-loop-placed : goal.invariant-loop-placed
invariant-loop-placed l = (atom : List ℕ) → truth_of l.facts atom ≡ test_after l.task (take l.placed-index l.steps) atom
