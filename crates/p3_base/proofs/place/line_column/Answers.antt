use Rattle.std.proofs.Common.{◌≡◌, ◌+◌, ◌≤◌, ◌∙◌, ℕ, Bool, List, length, take, arith, length-drop, sym, ap}
use Rattle.std.specs.Prelude.{not}
use Rattle.std.specs.List.{after_last, suffix_len}
use Rattle.std.proofs.lemmas.List.Sums.{suffix_len-le-length}
use Rattle.std.proofs.lemmas.List.{take_all, length-take}
use Rattle.p3_base.specs.Place.{is_line_feed}
use Rattle.p3_base.proofs.place.line_column.Goals as goal

length-after_last : (p : ℕ → Bool) (xs : List ℕ) → length (after_last p xs) ≡ suffix_len (λ x. not (p x)) xs
length-after_last p xs = omega (arith, length-drop {A = ℕ}, suffix_len-le-length (λ x. not (p x)) xs)

-- a line is no longer than what was read
short : (p : ℕ → Bool) (xs : List ℕ) (i : ℕ) → suffix_len p (take i xs) ≤ i
short p xs i = omega (arith, suffix_len-le-length p (take i xs), length-take i xs)

pub overflow_add-column : goal.overflow_add-column
overflow_add-column c =
    let all = take c.args.offset c.args.text.now in
    let fits : length all ≤ length c.args.text.now = omega (arith, length-take c.args.offset c.args.text.now) in
    omega (arith, fits, c.loop-byte-test.true, short (λ x. not (is_line_feed x)) all c.loop-byte.byte-index)

pub returns-clause-column : goal.returns-clause-column
returns-clause-column c =
    let all = take c.args.offset c.args.text.now in
    let passed : take c.loop-byte.byte-index all ≡ all = take_all _ all c.loop-byte-test.false in
    c.loop-byte.invariant.column ∙ ap (λ seen. suffix_len (λ x. not (is_line_feed x)) seen + 1) passed
    ∙ ap (λ n. n + 1) (sym (length-after_last is_line_feed all))
