-- The offsets at which the lines of a text begin, as they are kept.
use Rattle.std.specs.Prelude.{◌≡◌, ℕ, ◌+◌, ◌<◌, ◌≤◌, not, List, length, take, slice_index_or, count_by}
use Rattle.std.specs.List.{suffix_len}
use Rattle.p3_base.specs.Place.{is_line_feed}

-- how many line feeds stand before the offset, and how many bytes of its line do
abbrev pub feeds : List ℕ → ℕ → ℕ
feeds text offset = count_by is_line_feed (take offset text)

abbrev pub bytes_before : List ℕ → ℕ → ℕ
bytes_before text offset = suffix_len (λ byte. not (is_line_feed byte)) (take offset text)

-- of the lines that begin in the text up to the end
pub record AreStarts (text : List ℕ) (end : ℕ) (starts : List ℕ) : Type 0 where
  pub count : length starts ≡ feeds text end + 1
  pub within : (offset : ℕ) → offset ≤ end → feeds text offset < length starts
  -- the line of an offset begins so many bytes before it
  pub begin : (offset : ℕ) → offset ≤ end → slice_index_or starts (feeds text offset) 0 + bytes_before text offset ≡ offset
  -- the lines that begin before an offset or there are its line and those before that
  pub past : (offset place : ℕ) → offset ≤ end → place < length starts → slice_index_or starts place 0 ≤ offset → place ≤ feeds text offset
  pub reached : (offset place : ℕ) → offset ≤ end → place ≤ feeds text offset → slice_index_or starts place 0 ≤ offset
