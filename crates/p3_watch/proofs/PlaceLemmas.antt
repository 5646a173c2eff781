-- Where the bytes of a line stand in the text.
use Rattle.std.proofs.Common.{◌≡◌, ◌∙◌, ℕ, zero, suc, ◌+◌, ◌-◌, ◌<◌, ◌≤◌, Bool, true, false, List, length, get_or, take, drop, refl, sym, ap, subst, arith, add-zero, length-drop, ltb-false, ltb-true, true≢false}
use Rattle.std.specs.Prelude.{IsTrue, count_by, min, nat_lt, not}
use Rattle.std.specs.List.{after_last, suffix_len}
use Rattle.std.proofs.lemmas.List.{get_or-drop}
use Rattle.std.proofs.lemmas.List.Sums.{count_by_more_no, count_by_more_yes, fails_before_first, passes_at_first, prefix_len-le-length, suffix_len-le-length, suffix_len-take_no, suffix_len-take_yes}
use Rattle.p3_base.specs.Place.{is_line_feed, line_of, column_of}
use Rattle.p3_base.specs.declared.refusal.Refusal.{Refusal}
use Rattle.p3_watch.specs.Lines.{Begins, IsInLine, IsStart, IsToldThere, line_len}
use Rattle.p3_watch.specs.Watching.{IsWithin}
use Rattle.p3_watch.specs.declared.watch.Line.{Line}
use Rattle.p3_watch.specs.declared.watch.Line.TheVariants as line
use Rattle.p3_watch.specs.declared.lines.LineStart.{LineStart}

abbrev stays : ℕ → Bool
stays byte = not (is_line_feed byte)

-- how many bytes before the offset stand in its line
abbrev behind_feed : List ℕ → ℕ → ℕ
behind_feed text offset = suffix_len stays (take offset text)

length-after_last : (xs : List ℕ) → length (after_last is_line_feed xs) ≡ suffix_len stays xs
length-after_last xs = omega (arith, length-drop {A = ℕ}, suffix_len-le-length stays xs)

column_is : (text : List ℕ) (offset : ℕ) → column_of text offset ≡ behind_feed text offset + 1
column_is text offset = ap (λ n. n + 1) (length-after_last (take offset text))

module _ (text : List ℕ) (start : ℕ) (within : start ≤ length text) where
  pub line_fits : start + line_len (drop start text) ≤ length text
  line_fits = omega (arith, prefix_len-le-length stays (drop start text), length-drop start text, within)

  none_at : (d : ℕ) → d < line_len (drop start text) → is_line_feed (get_or text (start + d) 0) ≡ false
  none_at d low = subst (λ byte. is_line_feed byte ≡ false) (get_or-drop start text d 0) (fails_before_first is_line_feed (drop start text) d 0 low)

  -- as far as the line goes
  record Along (d : ℕ) : Type 0 where
    row : count_by is_line_feed (take (start + d) text) ≡ count_by is_line_feed (take start text)
    column : behind_feed text (start + d) ≡ d

  module _ (begins : column_of text start ≡ 1) where
    none_behind : behind_feed text start ≡ 0
    none_behind = let column = sym (column_is text start) ∙ begins in omega (arith, column)

    along : (d : ℕ) → d ≤ line_len (drop start text) → Along d
    along zero low =
        let same : start + 0 ≡ start = add-zero start in
        record {
          row = ap (λ n. count_by is_line_feed (take n text)) same;
          column = ap (behind_feed text) same ∙ none_behind;
        }
    along (suc d) low =
        let before = along d (omega (arith, low)) in
        let next : start + suc d ≡ start + d + 1 = omega arith in
        let back : start + d + 1 - 1 ≡ start + d = omega arith in
        let inside : start + d < length text = omega (arith, low, line_fits) in
        let some : 0 < start + d + 1 = omega arith in
        let enough : start + d + 1 ≤ length text = omega (arith, inside) in
        let own : is_line_feed (get_or text (start + d) 0) ≡ false = none_at d (omega (arith, low)) in
        record {
          row = ap (λ n. count_by is_line_feed (take n text)) next ∙ count_by_more_no is_line_feed text (start + d) 0 inside own ∙ before.row;
          column = ap (behind_feed text) next
              ∙ suffix_len-take_yes stays text (start + d + 1) 0 some enough (ap (λ n. not (is_line_feed (get_or text n 0))) back ∙ ap not own)
              ∙ ap (λ n. 1 + behind_feed text n) back ∙ ap (λ n. 1 + n) before.column ∙ add-one-left d;
        } where
          add-one-left : (n : ℕ) → 1 + n ≡ suc n
          add-one-left n = omega arith

    -- behind the line feed of the line
    module _ (ends : line_len (drop start text) < length (drop start text)) where
      abbrev feed : ℕ
      feed = start + line_len (drop start text)

      feed_at : is_line_feed (get_or text feed 0) ≡ true
      feed_at = subst (λ byte. is_line_feed byte ≡ true) (get_or-drop start text (line_len (drop start text)) 0) (passes_at_first is_line_feed (drop start text) 0 ends)

      feed_within : feed < length text
      feed_within = omega (arith, ends, length-drop start text, within)

      last : Along (line_len (drop start text))
      last = along (line_len (drop start text)) (omega arith)

      pub next_row : line_of text (feed + 1) ≡ line_of text start + 1
      next_row = ap (λ n. n + 1) (count_by_more_yes is_line_feed text feed 0 feed_within feed_at ∙ ap (λ n. n + 1) last.row)

      pub next_column : column_of text (feed + 1) ≡ 1
      next_column =
          let back : feed + 1 - 1 ≡ feed = omega arith in
          let some : 0 < feed + 1 = omega arith in
          let enough : feed + 1 ≤ length text = omega (arith, feed_within) in
          column_is text (feed + 1) ∙ ap (λ n. n + 1) (suffix_len-take_no stays text (feed + 1) 0 some enough (ap (λ n. not (is_line_feed (get_or text n 0))) back ∙ ap not feed_at))

-- a refusal within a line that begins there stands in it
pub in_line : (text : List ℕ) (start : LineStart) (refusal : Refusal) → start.offset ≤ length text → Begins text start → refusal.pos.offset ≤ line_len (drop start.offset text) → IsInLine text start refusal
in_line text start refusal within begins low =
    let so = along text start.offset within begins.column refusal.pos.offset low in
    let most = line_fits text start.offset within in
    record {
      within = omega (arith, low, most);
      row = begins.row ∙ ap (λ n. n + 1) (sym so.row);
      column = ap (λ n. n + 1) (sym so.column) ∙ sym (column_is text (start.offset + refusal.pos.offset));
    }

-- the place behind a line and its line feed, or the end of the text
pub starts_behind : (text : List ℕ) (start new : LineStart) (len : ℕ) → IsStart text start → start.offset < length text → len ≡ line_len (drop start.offset text)
    → new.row ≡ start.row + 1 → new.offset ≡ min (length text) (start.offset + len + 1) → IsStart text new
starts_behind text start new len is some long row at = record {
  within = omega (arith, at);
  begins = λ low.
      let place : new.offset ≡ start.offset + line_len (drop start.offset text) + 1 = omega (arith, at, low, long) in
      let more : line_len (drop start.offset text) < length (drop start.offset text) = omega (arith, place, low, length-drop start.offset text) in
      let begins : Begins text start = is.begins some in
      record {
        row = row ∙ ap (λ n. n + 1) begins.row ∙ sym (next_row text start.offset is.within begins.column more) ∙ ap (line_of text) (sym place);
        column = ap (column_of text) place ∙ next_column text start.offset is.within begins.column more;
      };
}

-- the start of a text
pub text_starts : (text : List ℕ) (start : LineStart) → start.offset ≡ 0 → start.row ≡ 1 → IsStart text start
text_starts text start first row = record {
  within = omega (arith, first);
  begins = λ some. record {
    row = row ∙ ap (line_of text) (sym first);
    column = ap (column_of text) first;
  };
}

pub is_inside : (size at : ℕ) → (size ≤ at → IsTrue false) → at < size
is_inside size at more = by (nat_lt at size) refl where
  by : (b : Bool) → nat_lt at size ≡ b → at < size
  by true e = ltb-true at size e
  by false e = absurd (true≢false (sym (more (ltb-false at size e))))

-- what a line comes to stands in that line
pub told_there : (text : List ℕ) (start : LineStart) (size : ℕ) (told : Line) → IsStart text start → start.offset < length text → size ≡ line_len (drop start.offset text) → IsWithin size told → IsToldThere text start told
told_there text start size line.Blank is low long within = tt
told_there text start size line.Done is low long within = tt
told_there text start size (line.Invalid fault) is low long within = tt
told_there text start size (line.Refused refusal) is low long within = in_line text start refusal is.within (is.begins low) (subst (λ n. refusal.pos.offset ≤ n) long within)
