-- Pieces one after another, and the lines that are made of them.
use Rattle.std.proofs.Common.{◌≡◌, ◌∙◌, ℕ, zero, suc, ◌+◌, ◌-◌, ◌%◌, ◌≤◌, List, [], ◌∷◌, ◌++◌, map, refl, sym, ap, append_assoc, add-zero, arith}
use Rattle.std.specs.Prelude.{codes}
use Rattle.std.specs.Fmt.{decimal}
use Rattle.std.specs.List.{flat_map, range_with_len}
use Rattle.std.proofs.lemmas.List.{append-nil, flat_map_more}
use Rattle.std.proofs.lemmas.List.Concat.{flat_map-append}
use Rattle.std.proofs.lemmas.List.Folds.{flat_map-map}
use Rattle.p3_tree.specs.Reports.Lines.{line}
use Rattle.p3_tree.specs.Samples.{spaced, place, parcel, up_to, start, road, roads}
use Rattle.p3_gen.specs.declared.piece.Piece.TheVariants.{Place, Parcel, Start, Destination, Roads}
use Rattle.p3_gen.specs.Pieces.{behind_a_space, constraints_line, objects_line, start_line, pieces_text, roads_text, start_of, destination_of}

-- ---- one number more

range_more : (first count : ℕ) → range_with_len first (suc count) ≡ range_with_len first count ++ (first + count) ∷ []
range_more first zero = ap (λ n. n ∷ []) (sym (add-zero first))
range_more first (suc count) =
    let moved : first + 1 + count ≡ first + suc count = omega arith in
    ap (λ numbers. first ∷ numbers) (range_more (first + 1) count ∙ ap (λ n. range_with_len (first + 1) count ++ n ∷ []) moved)

pub piece_more : (piece : ℕ → List ℕ) (base : List ℕ) (first number : ℕ) → first ≤ number
    → (base ++ flat_map piece (range_with_len first (number - first))) ++ piece number ≡ base ++ flat_map piece (range_with_len first (number + 1 - first))
piece_more piece base first number low =
    let here : number ≡ first + (number - first) = omega arith in
    let more : suc (number - first) ≡ number + 1 - first = omega arith in
    flat_map_more piece base (range_with_len first (number - first)) number
    ∙ ap (λ n. base ++ flat_map piece (range_with_len first (number - first) ++ n ∷ [])) here
    ∙ ap (λ numbers. base ++ flat_map piece numbers) (sym (range_more first (number - first)) ∙ ap (range_with_len first) more)

-- ---- lines

-- each part but the first is behind a space
spaced_parts : (head : List ℕ) (parts : List (List ℕ)) → spaced (head ∷ parts) ≡ head ++ flat_map behind_a_space parts
spaced_parts head [] = sym (append-nil head)
spaced_parts head (part ∷ parts) = append_assoc head (codes " ") (spaced (part ∷ parts)) ∙ ap (λ rest. head ++ 32 ∷ rest) (spaced_parts part parts)

-- the same of pieces
behind_spaces : (piece : ℕ → List ℕ) (numbers : List ℕ) → flat_map behind_a_space (map piece numbers) ≡ flat_map (λ k. behind_a_space (piece k)) numbers
behind_spaces piece numbers = flat_map-map behind_a_space piece numbers

pub objects_are : (n : ℕ) → objects_line n ≡ codes "(:objects" ++ (pieces_text Place (range_with_len 0 (n + 1)) ++ (codes " - place" ++ (pieces_text Parcel (up_to n) ++ codes " - package)\n")))
objects_are n =
    ap (λ text. line (codes "(" ++ text ++ codes ")")) (spaced_parts (codes ":objects") (map place (range_with_len 0 (n + 1)) ++ codes "- place" ∷ map parcel (up_to n) ++ codes "- package" ∷ []))
    ∙ simp (flat_map-append, flat_map-map, append_assoc)

-- roads behind one another
each_road : (numbers : List ℕ) → flat_map behind_a_space (flat_map roads numbers) ≡ pieces_text Roads numbers
each_road [] = refl
each_road (k ∷ numbers) = flat_map-append behind_a_space (roads k) (flat_map roads numbers) ∙ ap (λ rest. flat_map behind_a_space (roads k) ++ rest) (each_road numbers)

parts_of_start : (n : ℕ) → flat_map behind_a_space (start n) ≡ codes " (truck-at l0)" ++ (pieces_text Start (up_to n) ++ (pieces_text Destination (up_to n) ++ (codes " (= (total-cost) 0)" ++ pieces_text Roads (up_to n))))
parts_of_start n =
    let starts = map start_of (up_to n) in
    let ends = map destination_of (up_to n) in
    ap (λ text. codes " (truck-at l0)" ++ text)
    (flat_map-append behind_a_space (starts ++ ends) (codes "(= (total-cost) 0)" ∷ flat_map roads (up_to n))
    ∙ (λ i. (flat_map-append behind_a_space starts ends i) ++ (codes " (= (total-cost) 0)" ++ each_road (up_to n) i))
    ∙ (λ i. (behind_spaces start_of (up_to n) i ++ behind_spaces destination_of (up_to n) i) ++ (codes " (= (total-cost) 0)" ++ pieces_text Roads (up_to n)))
    ∙ append_assoc (pieces_text Start (up_to n)) (pieces_text Destination (up_to n)) (codes " (= (total-cost) 0)" ++ pieces_text Roads (up_to n)))

pub start_is : (n : ℕ) → start_line n ≡ codes "(:init (truck-at l0)" ++ (pieces_text Start (up_to n) ++ (pieces_text Destination (up_to n) ++ (codes " (= (total-cost) 0)" ++ (pieces_text Roads (up_to n) ++ codes ")\n"))))
start_is n =
    ap (λ text. line (codes "(" ++ text ++ codes ")")) (spaced_parts (codes ":init") (start n))
    ∙ ap (λ text. line (codes "(" ++ (codes ":init" ++ text) ++ codes ")")) (parts_of_start n)
    ∙ simp append_assoc

-- texts joined one after another
in_a_row : (a b c d e f g : List ℕ) → a ++ b ++ c ++ d ++ e ++ f ++ g ≡ a ++ (b ++ (c ++ (d ++ (e ++ (f ++ g)))))
in_a_row a b c d e f g = simp append_assoc

pub constraints_are : (n : ℕ) → constraints_line n ≡ codes "(:constraints (and (sometime-after (carrying) (truck-at l" ++ (decimal n ++ (codes ")) (preference tour (sometime-before (truck-at l" ++ (decimal n ++ codes ") (carrying))) (preference rest (at-most-once (carrying)))))\n")))
constraints_are n = in_a_row [] (codes "(:constraints (and (sometime-after (carrying) (truck-at ") (place n) (codes ")) (preference tour (sometime-before (truck-at ") (place n) (codes ") (carrying))) (preference rest (at-most-once (carrying)))))") (codes "\n")

pub road_is : (from to length : ℕ) → behind_a_space (road from to length) ≡ codes " (= (road l" ++ (decimal from ++ (codes " l" ++ (decimal to ++ (codes ") " ++ (decimal length ++ codes ")")))))
road_is from to length = ap (λ text. codes " (= (road l" ++ text) (in_a_row (decimal from) (codes " ") (place to) (codes ")") (codes " ") (decimal length) (codes ")"))

pub roads_are : (base : List ℕ) (to : ℕ) → (base ++ behind_a_space (road (to - 1) to (to % 5 + 1))) ++ behind_a_space (road to (to - 1) (to % 5 + 1)) ≡ base ++ roads_text to
roads_are base to =
    let forth = behind_a_space (road (to - 1) to (to % 5 + 1)) in
    let back = behind_a_space (road to (to - 1) (to % 5 + 1)) in
    append_assoc base forth back ∙ ap (λ text. base ++ (forth ++ text)) (sym (append-nil back))
