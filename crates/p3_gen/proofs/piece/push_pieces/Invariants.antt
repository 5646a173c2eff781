use Rattle.std.proofs.Common.{◌≡◌, ◌-◌, ◌++◌}
use Rattle.std.specs.Prelude.{string_bytes}
use Rattle.std.specs.List.{range_with_len}
use Rattle.p3_gen.specs.Pieces.{pieces_text}
use Rattle.p3_gen.proofs.piece.push_pieces.Given as goal

-- the numbers passed are written
abbrev pub invariant-loop-number : goal.invariant-loop-number
invariant-loop-number l = string_bytes l.text ≡ string_bytes l.fn.text ++ pieces_text l.piece (range_with_len l.first (l.number - l.first))
