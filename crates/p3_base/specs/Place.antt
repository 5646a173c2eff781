-- Where an offset of a text stands, as an editor shows it: lines and columns are counted from 1.
use Rattle.std.specs.Prelude.{ℕ, ◌+◌, ◌==◌, Bool, List, length, take, count_by}
use Rattle.std.specs.List.{after_last}

-- a line feed ends a line
abbrev pub is_line_feed : ℕ → Bool
is_line_feed byte = byte == 10

-- 1 and the number of line feeds before the offset
abbrev pub line_of : List ℕ → ℕ → ℕ
line_of text offset = count_by is_line_feed (take offset text) + 1

-- 1 and the number of bytes since the line's start
abbrev pub column_of : List ℕ → ℕ → ℕ
column_of text offset = length (after_last is_line_feed (take offset text)) + 1
