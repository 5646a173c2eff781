-- The lines of a text, one after another.
use Rattle.std.proofs.Common.{◌≡◌, ◌∙◌, ℕ, suc, ◌+◌, ◌<◌, Bool, true, false, cond, List, [], ◌∷◌, length, take, drop, refl, sym, ap, subst, arith, ltb-false}
use Rattle.std.specs.Prelude.{nat_lt, not, position, Some, None}
use Rattle.std.proofs.lemmas.List.Sums.{prefix_len-le-length}
use Rattle.p3_base.specs.Place.{is_line_feed}
use Rattle.p3_task.specs.Watching.{Piece, lines_from, piece_before}
use Rattle.p3_watch.specs.Lines.{line_len}

-- the pieces are one of so many bytes, and those behind it
abbrev Splits : ℕ → List ℕ → List Piece → ℕ → Type 0
Splits at bytes pieces len = pieces ≡ record { at = at; bytes = take len bytes } ∷ lines_from (at + len + 1) (drop (len + 1) bytes)

-- one more byte that is no line feed
one_more : (at byte : ℕ) (bytes : List ℕ) (pieces : List Piece) (n len : ℕ) → len ≡ suc n → Splits (at + 1) bytes pieces n → Splits at (byte ∷ bytes) (piece_before false at byte pieces) len
one_more at byte bytes pieces n len is splits =
    let place : at + 1 + n + 1 ≡ at + suc n + 1 = omega arith in
    let count : suc (n + 1) ≡ suc n + 1 = omega arith in
    subst (Splits at (byte ∷ bytes) (piece_before false at byte pieces)) (sym is)
    (ap (piece_before false at byte) splits
    ∙ (λ i. record { at = at; bytes = byte ∷ take n bytes } ∷ lines_from (place i) (drop (count i) (byte ∷ bytes))))

pub line_ahead : (at : ℕ) (bytes : List ℕ) → 0 < length bytes → Splits at bytes (lines_from at bytes) (line_len bytes)
unfolding lines_from
line_ahead at [] some = absurd (omega (arith, some))
line_ahead at (byte ∷ []) some = by (is_line_feed byte) where
  by : (b : Bool) → Splits at (byte ∷ []) (piece_before b at byte []) (cond (not b) (1 + 0) 0)
  by true = refl
  by false = refl
line_ahead at (byte ∷ next ∷ bytes) some = by (is_line_feed byte) (line_ahead (at + 1) (next ∷ bytes) (omega arith)) where
  by : (b : Bool) → Splits (at + 1) (next ∷ bytes) (lines_from (at + 1) (next ∷ bytes)) (line_len (next ∷ bytes))
      → Splits at (byte ∷ next ∷ bytes) (piece_before b at byte (lines_from (at + 1) (next ∷ bytes))) (cond (not b) (1 + line_len (next ∷ bytes)) 0)
  by true splits = let place : at + 1 ≡ at + 0 + 1 = omega arith in λ i. record { at = at; bytes = [] } ∷ lines_from (place i) (next ∷ bytes)
  by false splits = one_more at byte (next ∷ bytes) (lines_from (at + 1) (next ∷ bytes)) (line_len (next ∷ bytes)) (1 + line_len (next ∷ bytes)) (omega arith) splits

-- ---- the first line feed

feed_by : (b : Bool) (n place : ℕ) → cond b (Some n) None ≡ Some place → place ≡ n
feed_by true n place e = cc
feed_by false n place e = absurd (cc)

pub at_feed : (bytes : List ℕ) (place : ℕ) → position is_line_feed bytes ≡ Some place → place ≡ line_len bytes
at_feed bytes place e = feed_by (nat_lt (line_len bytes) (length bytes)) (line_len bytes) place e

end_by : (b : Bool) (bytes : List ℕ) → nat_lt (line_len bytes) (length bytes) ≡ b → cond b (Some (line_len bytes)) None ≡ None → length bytes ≡ line_len bytes
end_by true bytes is e = absurd (cc)
end_by false bytes is e = omega (arith, ltb-false (line_len bytes) (length bytes) is, prefix_len-le-length (λ byte. not (is_line_feed byte)) bytes)

pub at_end : (bytes : List ℕ) → position is_line_feed bytes ≡ None → length bytes ≡ line_len bytes
at_end bytes e = end_by (nat_lt (line_len bytes) (length bytes)) bytes refl e
