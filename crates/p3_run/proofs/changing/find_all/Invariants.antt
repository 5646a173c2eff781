use Rattle.std.proofs.Common.{◌≡◌, length, map, take}
use Rattle.p3_run.specs.Changing.{found_in}
use Rattle.p3_run.proofs.changing.find_all.Given as goal

abbrev pub invariant-loop-place : goal.invariant-loop-place
invariant-loop-place l = record {
  found : take l.place l.all.items ≡ map (found_in l.state) (take l.place l.effects);
  room : length l.all.items ≡ length l.fn.all.items;
}
