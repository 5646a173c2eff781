use Rattle.std.proofs.Common.{◌≡◌, ◌+◌, take}
use Rattle.std.specs.Prelude.{count_by, not}
use Rattle.std.specs.List.{suffix_len}
use Rattle.p3_base.specs.Place.{is_line_feed}
use Rattle.p3_base.proofs.place.line_column.Given as goal

-- so far the line and the column are those of the bytes passed
abbrev pub invariant-loop-byte : goal.invariant-loop-byte
invariant-loop-byte l = record {
  line : l.line ≡ count_by is_line_feed (take l.byte-index l.byte-items) + 1;
  column : l.column ≡ suffix_len (λ byte. not (is_line_feed byte)) (take l.byte-index l.byte-items) + 1;
}
