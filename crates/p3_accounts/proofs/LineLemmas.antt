-- Where the lines of a text begin, byte by byte.
use Rattle.std.proofs.Common.{◌≡◌, ◌∙◌, ◌+◌, ◌-◌, ◌<◌, ◌≤◌, ℕ, zero, suc, List, [], ◌∷◌, ◌++◌, length, get_or, take, length-drop, refl, sym, ap, subst, arith}
use Rattle.std.specs.Prelude.{true, false, not, nat_le, min, count_by}
use Rattle.std.specs.List.{suffix_len}
use Rattle.std.specs.List.Sorted.{IsPartitionPoint, IsPartitionedBy}
use Rattle.std.proofs.lemmas.Bool.{cases_lt, leb-true, leb-false, le-leb}
use Rattle.std.proofs.lemmas.List.{get_or_default, take_min}
use Rattle.std.proofs.lemmas.List.Sums.{count_by_more_yes, count_by_more_no, suffix_len-take_yes, suffix_len-take_no, suffix_len-le-length}
use mathlib.Core.Logic.{◌⊎◌, inl, inr}
use Rattle.p3_base.specs.Place.{is_line_feed, line_of, column_of}
use Rattle.p3_accounts.specs.Starts.{AreStarts, bytes_before, feeds}

-- ---- an item behind others, and those

at_end : (xs : List ℕ) (x : ℕ) → get_or (xs ++ x ∷ []) (length xs) 0 ≡ x
at_end [] x = refl
at_end (y ∷ xs) x = at_end xs x

before_end : (xs : List ℕ) (x k : ℕ) → k < length xs → get_or (xs ++ x ∷ []) k 0 ≡ get_or xs k 0
before_end [] x k low = absurd (omega (arith, low))
before_end (y ∷ xs) x zero low = refl
before_end (y ∷ xs) x (suc k) low = before_end xs x k (omega (arith, low))

longer : (xs : List ℕ) (x : ℕ) → length (xs ++ x ∷ []) ≡ length xs + 1
longer [] x = refl
longer (y ∷ xs) x = let h = longer xs x in omega (arith, h)

-- ---- offsets up to the next one

before_next : (end : ℕ) → (end + 1) - 1 ≡ end
before_next end = omega arith

up_to : (P : ℕ → Type 0) (end : ℕ) → ((offset : ℕ) → offset ≤ end → P offset) → P (end + 1) → (offset : ℕ) → offset ≤ end + 1 → P offset
up_to P end before at offset low = by (cases_lt end offset) where
  by : (end < offset) ⊎ (offset ≤ end) → P offset
  by (inl past) = subst P (let is : end + 1 ≡ offset = omega (arith, past, low) in is) at
  by (inr within) = before offset within

-- ---- the start of a text

-- ---- one byte more

module _ (text : List ℕ) (end : ℕ) (starts : List ℕ) (byte : ℕ) (low : end < length text) where
  pub no_feed : is_line_feed (get_or text end byte) ≡ false → AreStarts text end starts → AreStarts text (end + 1) starts
  no_feed other are = record {
    count = are.count ∙ ap (λ n. n + 1) (sym same);
    within = up_to (λ offset. feeds text offset < length starts) end are.within (let h = are.within end (omega arith) in omega (arith, h, same));
    begin = up_to (λ offset. get_or starts (feeds text offset) 0 + bytes_before text offset ≡ offset) end are.begin begin_there;
    past = λ offset place up there is. past_by place there offset up is;
    reached = λ offset place up is. reached_by place offset up is;
  } where
    same : feeds text (end + 1) ≡ feeds text end
    same = count_by_more_no is_line_feed text end byte low other

    more : bytes_before text (end + 1) ≡ 1 + bytes_before text end
    more =
        suffix_len-take_yes (λ one. not (is_line_feed one)) text (end + 1) byte (omega arith) (omega (arith, low)) (ap (λ k. not (is_line_feed (get_or text k byte))) (before_next end) ∙ ap not other)
        ∙ ap (λ k. 1 + bytes_before text k) (before_next end)

    begin_there : get_or starts (feeds text (end + 1)) 0 + bytes_before text (end + 1) ≡ end + 1
    begin_there =
        let h = are.begin end (omega arith) in
        let at : get_or starts (feeds text (end + 1)) 0 ≡ get_or starts (feeds text end) 0 = ap (λ n. get_or starts n 0) same in
        omega (arith, h, at, more)

    past_by : (place : ℕ) → place < length starts → (offset : ℕ) → offset ≤ end + 1 → get_or starts place 0 ≤ offset → place ≤ feeds text offset
    past_by place there = up_to (λ offset. get_or starts place 0 ≤ offset → place ≤ feeds text offset) end (λ offset up is. are.past offset place up there is)
        (λ is. let h = are.count in omega (arith, there, h, same))

    reached_by : (place offset : ℕ) → offset ≤ end + 1 → place ≤ feeds text offset → get_or starts place 0 ≤ offset
    reached_by place = up_to (λ offset. place ≤ feeds text offset → get_or starts place 0 ≤ offset) end (λ offset up is. are.reached offset place up is)
        (λ is. let h = are.reached end place (omega arith) (omega (arith, is, same)) in omega (arith, h))

  pub line_feed : is_line_feed (get_or text end byte) ≡ true → AreStarts text end starts → AreStarts text (end + 1) (starts ++ (end + 1) ∷ [])
  line_feed is_feed are = record {
    count = let h = are.count in omega (arith, h, more, len);
    within = λ offset up. within_by offset up;
    begin = up_to (λ offset. get_or all (feeds text offset) 0 + bytes_before text offset ≡ offset) end begin_before begin_there;
    past = λ offset place up there is. past_by (cases_lt place (length starts)) offset up there is;
    reached = λ offset place up is. reached_by place offset up is;
  } where
    all : List ℕ
    all = starts ++ (end + 1) ∷ []

    len : length all ≡ length starts + 1
    len = longer starts (end + 1)

    more : feeds text (end + 1) ≡ feeds text end + 1
    more = count_by_more_yes is_line_feed text end byte low is_feed

    none : bytes_before text (end + 1) ≡ 0
    none = suffix_len-take_no (λ one. not (is_line_feed one)) text (end + 1) byte (omega arith) (omega (arith, low)) (ap (λ k. not (is_line_feed (get_or text k byte))) (before_next end) ∙ ap not is_feed)

    -- the new start, and those before it
    new_start : (place : ℕ) → place ≡ length starts → get_or all place 0 ≡ end + 1
    new_start place is = ap (λ n. get_or all n 0) is ∙ at_end starts (end + 1)

    old_start : (place : ℕ) → place < length starts → get_or all place 0 ≡ get_or starts place 0
    old_start place there = before_end starts (end + 1) place there

    within_by : (offset : ℕ) → offset ≤ end + 1 → feeds text offset < length all
    within_by = up_to (λ offset. feeds text offset < length all) end (λ offset up. let h = are.within offset up in omega (arith, h, len))
        (let h = are.count in omega (arith, h, more, len))

    begin_before : (offset : ℕ) → offset ≤ end → get_or all (feeds text offset) 0 + bytes_before text offset ≡ offset
    begin_before offset up =
        let h = are.begin offset up in
        let at = old_start (feeds text offset) (are.within offset up) in
        omega (arith, h, at)

    begin_there : get_or all (feeds text (end + 1)) 0 + bytes_before text (end + 1) ≡ end + 1
    begin_there =
        let h = are.count in
        let at = new_start (feeds text (end + 1)) (omega (arith, h, more)) in
        omega (arith, at, none)

    past_by : {place : ℕ} → (place < length starts) ⊎ (length starts ≤ place) → (offset : ℕ) → offset ≤ end + 1 → place < length all → get_or all place 0 ≤ offset → place ≤ feeds text offset
    past_by {place} (inl there) offset up short is = up_to (λ offset. get_or all place 0 ≤ offset → place ≤ feeds text offset) end
        (λ offset up is. let at = old_start place there in are.past offset place up there (omega (arith, at, is)))
        (λ is. let h = are.count in omega (arith, there, h, more)) offset up is
    past_by {place} (inr beyond) offset up short is =
        let last : place ≡ length starts = omega (arith, beyond, short, len) in
        let at = new_start place last in
        let h = are.count in
        let there : offset ≡ end + 1 = omega (arith, at, is, up) in
        let feeds_there : feeds text offset ≡ feeds text (end + 1) = ap (feeds text) there in
        omega (arith, last, h, more, feeds_there)

    reached_there : {place : ℕ} → (place < length starts) ⊎ (length starts ≤ place) → place ≤ feeds text (end + 1) → get_or all place 0 ≤ end + 1
    reached_there {place} (inl there) is =
        let at = old_start place there in
        let c = are.count in
        let h = are.reached end place (omega arith) (omega (arith, there, c)) in
        omega (arith, at, h)
    reached_there {place} (inr beyond) is =
        let c = are.count in
        let at = new_start place (omega (arith, beyond, is, c, more)) in
        omega (arith, at)

    reached_by : (place offset : ℕ) → offset ≤ end + 1 → place ≤ feeds text offset → get_or all place 0 ≤ offset
    reached_by place = up_to (λ offset. place ≤ feeds text offset → get_or all place 0 ≤ offset) end
        (λ offset up is.
        let at = old_start place (let h = are.within offset up in omega (arith, h, is)) in
        let h = are.reached offset place up is in omega (arith, at, h))
        (λ is. reached_there (cases_lt place (length starts)) is)

-- ---- the line of an offset

module _ (text : List ℕ) (starts : List ℕ) (are : AreStarts text (length text) starts) (offset : ℕ) (within : offset ≤ length text) where
  -- the lines that begin before the offset or there stand first
  pub parted : IsPartitionedBy (λ start. nat_le start offset) starts
  parted i j d le low passes =
      let at : get_or starts j d ≡ get_or starts j 0 = get_or_default starts j d 0 low in
      let here : get_or starts i d ≡ get_or starts i 0 = get_or_default starts i d 0 (omega (arith, le, low)) in
      let h = leb-true (get_or starts j d) offset passes in
      let up = are.past offset j within low (omega (arith, h, at)) in
      let down = are.reached offset i within (omega (arith, le, up)) in
      le-leb (get_or starts i d) offset (omega (arith, here, down))

  -- behind them the number of its line
  pub line_is : (line : ℕ) → line ≤ length starts → IsPartitionPoint (λ start. nat_le start offset ≡ true) (λ start. nat_le start offset ≡ false) starts line → line ≡ feeds text offset + 1
  line_is line bound (before, behind) = by (cases_lt (feeds text offset) line) (cases_lt (feeds text offset + 1) line) where
    there : feeds text offset < length starts
    there = are.within offset within

    by : (feeds text offset < line) ⊎ (line ≤ feeds text offset) → (feeds text offset + 1 < line) ⊎ (line ≤ feeds text offset + 1) → line ≡ feeds text offset + 1
    by (inl low) (inr up) = omega (arith, low, up)
    by (inl low) (inl beyond) =
        let h = leb-true (get_or starts (feeds text offset + 1) 0) offset (before (feeds text offset + 1) 0 (omega arith) beyond) in
        let up = are.past offset (feeds text offset + 1) within (omega (arith, beyond, bound)) h in
        absurd (omega (arith, up))
    by (inr short) other =
        let h = leb-false (get_or starts (feeds text offset) 0) offset (behind (feeds text offset) 0 short there) in
        let at = are.reached offset (feeds text offset) within (omega arith) in
        absurd (omega (arith, h, at))

-- ---- as an editor shows it

column_is : (text : List ℕ) (offset : ℕ) → column_of text offset ≡ bytes_before text offset + 1
column_is text offset = omega (arith, length-drop {A = ℕ}, suffix_len-le-length (λ byte. not (is_line_feed byte)) (take offset text))

-- an offset beyond the end is that of the end
pub same_line : (text : List ℕ) (offset : ℕ) → line_of text (min offset (length text)) ≡ line_of text offset
same_line text offset = ap (λ passed. count_by is_line_feed passed + 1) (take_min offset text)

pub same_column : (text : List ℕ) (offset : ℕ) → bytes_before text (min offset (length text)) + 1 ≡ column_of text offset
same_column text offset = ap (λ passed. suffix_len (λ byte. not (is_line_feed byte)) passed + 1) (take_min offset text) ∙ sym (column_is text offset)
