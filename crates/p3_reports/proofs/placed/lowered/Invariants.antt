use Rattle.std.proofs.Common.{◌≡◌, take}
use Rattle.std.specs.Str.{str_to_ascii_lowercase}
use Rattle.arrayvec.specs.ArrayVec.{array_vec_len}
use Rattle.p3_reports.proofs.placed.lowered.Given as goal

abbrev pub invariant-loop-byte : goal.invariant-loop-byte
invariant-loop-byte l = record { items : l.shown.items ≡ str_to_ascii_lowercase (take l.byte-index l.word); len : array_vec_len l.shown ≡ l.byte-index }
