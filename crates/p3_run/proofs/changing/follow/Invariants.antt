use Rattle.std.proofs.Common.{◌≡◌, length, map, take}
use Rattle.p3_formula.specs.Forms.{State}
use Rattle.p3_run.specs.Changing.{found_in, touched}
use Rattle.p3_run.specs.Groups.{CanRenew, renewed_all}
use Rattle.p3_run.specs.Pending.{AreTakenOf}
use Rattle.p3_run.proofs.changing.follow.Given as goal

abbrev pub invariant-loop-place : goal.invariant-loop-place
invariant-loop-place l = record {
  groups : (before : State) → take (length l.effects) l.all ≡ map (found_in before) l.effects
      → l.groups.items ≡ renewed_all l.task l.state l.fn.groups.items (touched l.readers before l.state (take l.place l.effects));
  can : CanRenew l.task l.by_name l.state l.groups.items l.tally;
  taken : AreTakenOf l.effects l.place l.pending;
}
