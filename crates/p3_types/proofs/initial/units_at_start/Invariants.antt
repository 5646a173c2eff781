use Rattle.std.proofs.Common.{◌≡◌, drop}
use Rattle.p3_types.proofs.InitialLemmas.{given_in}
use Rattle.p3_types.proofs.initial.units_at_start.Given as goal

-- what is left gives the same
abbrev pub invariant-loop-entry : goal.invariant-loop-entry
invariant-loop-entry l = given_in l.task (drop l.entry-index l.entry-items) ≡ given_in l.task l.entry-items
