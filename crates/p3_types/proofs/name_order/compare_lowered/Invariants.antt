use Rattle.std.proofs.Common.{◌≡◌, drop}
use Rattle.std.specs.Str.{str_to_ascii_lowercase}
use Rattle.p3_types.specs.NameOrders.{compare}
use Rattle.p3_types.proofs.name_order.compare_lowered.Given as goal

abbrev pub invariant-loop-place : goal.invariant-loop-place
invariant-loop-place l = compare l.name (str_to_ascii_lowercase l.word) ≡ compare (drop l.place l.name) (drop l.place (str_to_ascii_lowercase l.word))
