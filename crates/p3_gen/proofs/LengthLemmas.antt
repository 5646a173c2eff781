-- How long the texts of a sample are at most.
use Rattle.std.proofs.Common.{ℕ, zero, suc, ◌+◌, ◌-◌, ◌*◌, ◌/◌, ◌%◌, ◌≤◌, Bool, true, false, List, [], ◌∷◌, length, sym, subst, length-append, arith}
use Rattle.std.specs.Prelude.{◌==◌, codes, if◌then◌else◌}
use Rattle.std.specs.Fmt.{decimal, digits, digits_onto, digit_glyph}
use Rattle.std.specs.List.{flat_map, range_with_len}
use Rattle.std.proofs.lemmas.List.FromFn.{length-range_with_len}
use Rattle.p3_tree.specs.Reports.Lines.{line}
use Rattle.p3_task.specs.Sides.{byte_limit, plan_byte_limit}
use Rattle.p3_base.specs.declared.refusal.Side.TheVariants.{Source}
use Rattle.p3_tree.specs.Samples.{place, parcel, listed, up_to, sample_problem, sample_plan}
use Rattle.p3_gen.specs.declared.piece.Piece.{Piece}
use Rattle.p3_gen.specs.declared.piece.Piece.TheVariants.{Place, Parcel, Start, Destination, Roads, Load, Stage}
use Rattle.p3_gen.specs.Pieces.{objects_line, start_line, piece_text, pieces_text}
use Rattle.p3_gen.proofs.PieceLemmas.{objects_are, start_is}

either_short : (test : Bool) (text other : List ℕ) (most : ℕ) → length text ≤ most → length other ≤ most → length (if test then text else other) ≤ most
either_short true text other most first second = first
either_short false text other most first second = second

-- ---- numbers

digits_short : (count n : ℕ) (behind : List ℕ) → length (digits_onto count 10 false n behind) ≤ count + length behind
digits_short zero n behind = omega arith
digits_short (suc count) n behind =
    let more : List ℕ = digit_glyph false (n % 10) ∷ behind in
    either_short (n / 10 == 0) more (digits_onto count 10 false (n / 10) more) (suc count + length behind)
    (omega arith) (omega (arith, digits_short count (n / 10) more))

decimal_short : (n : ℕ) → length (decimal n) ≤ 64
unfolding digits
decimal_short n = digits_short 64 n []

-- ---- pieces one after another

unloading_short : (k : ℕ) → length (line (listed (codes "unload" ∷ parcel k ∷ place k ∷ []))) ≤ 256
unloading_short k = simp length-append (omega (arith, decimal_short k))

piece_short : (piece : Piece) (k : ℕ) → length (piece_text piece k) ≤ 512
piece_short Place k = omega (arith, decimal_short k)
piece_short Parcel k = omega (arith, decimal_short k)
piece_short Start k = simp length-append (omega (arith, decimal_short k))
piece_short Destination k = simp length-append (omega (arith, decimal_short k))
piece_short Roads k = simp length-append (omega (arith, decimal_short (k - 1), decimal_short k, decimal_short (k % 5 + 1)))
piece_short Load k = simp length-append (omega (arith, decimal_short k))
piece_short Stage k =
    let unloading : List ℕ = line (listed (codes "unload" ∷ parcel k ∷ place k ∷ [])) in
    let second = either_short (k % 2 == 1) unloading [] 256 (unloading_short k) (omega arith) in
    simp length-append (omega (arith, decimal_short (k - 1), decimal_short k, second))

parts_short : {X : Type 0} (part : X → List ℕ) (most : ℕ) → ((x : X) → length (part x) ≤ most) → (xs : List X) → length (flat_map part xs) ≤ length xs * most
parts_short part most short [] = omega arith
parts_short part most short (x ∷ xs) = omega (arith, length-append (part x) (flat_map part xs), short x, parts_short part most short xs)

pieces_short : (piece : Piece) (first count : ℕ) → length (pieces_text piece (range_with_len first count)) ≤ count * 512
pieces_short piece first count =
    omega (arith, length-range_with_len first count, parts_short (piece_text piece) 512 (piece_short piece) (range_with_len first count))

-- ---- lines

objects_short : (n : ℕ) → length (objects_line n) ≤ n * 1024 + 1024
objects_short n = subst (λ text. length text ≤ n * 1024 + 1024) (sym (objects_are n))
    (simp length-append (omega (arith, pieces_short Place 0 (n + 1), pieces_short Parcel 1 n)))

start_short : (n : ℕ) → length (start_line n) ≤ n * 1536 + 1024
start_short n = subst (λ text. length text ≤ n * 1536 + 1024) (sym (start_is n))
    (simp length-append (omega (arith, pieces_short Start 1 n, pieces_short Destination 1 n, pieces_short Roads 1 n)))

-- ---- the texts

pub problem_short : (n : ℕ) → n ≤ 200 → length (sample_problem n) ≤ byte_limit Source
problem_short n few = simp length-append (omega (arith, few, simp length-append at (objects_short n), simp length-append at (start_short n), decimal_short n))

pub plan_short : (n : ℕ) → n ≤ 200 → length (sample_plan n) ≤ plan_byte_limit
plan_short n few = omega (arith, few, length-append (pieces_text Load (up_to n)) (pieces_text Stage (up_to n)), pieces_short Load 1 n, pieces_short Stage 1 n)
