use Rattle.std.proofs.Common.{◌≡◌, ◌+◌, ◌++◌}
use Rattle.arrayvec.specs.ArrayString.{array_string_len}
use Rattle.p3_reports.specs.Zeros.{zeros}
use Rattle.p3_reports.proofs.quantity.push_zeros.Given as goal

abbrev pub invariant-loop-place : goal.invariant-loop-place
invariant-loop-place l = record { bytes : l.text.bytes ≡ l.fn.text.bytes ++ zeros l.place; len : array_string_len l.text ≡ array_string_len l.fn.text + l.place }
