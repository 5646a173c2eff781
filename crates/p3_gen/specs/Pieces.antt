-- What a sample has once for each number, and the lines that are made of such pieces.
use Rattle.std.specs.Prelude.{ℕ, ◌+◌, List, [], ◌∷◌, ◌++◌, map, flat_map, codes}
use Rattle.std.specs.List.{range_with_len}
use Rattle.p3_tree.specs.Reports.Lines.{line}
use Rattle.p3_tree.specs.Samples.{up_to, place, parcel, listed, roads, start, loading, stage}
use Rattle.p3_gen.specs.declared.piece.Piece.{Piece}
use Rattle.p3_gen.specs.declared.piece.Piece.TheVariants.{Place, Parcel, Start, Destination, Roads, Load, Stage}

abbrev pub behind_a_space : List ℕ → List ℕ
behind_a_space part = 32 ∷ part

-- where a package is at the start
abbrev pub start_of : ℕ → List ℕ
start_of k = listed (codes "at" ∷ parcel k ∷ codes "l0" ∷ [])

-- where a package is to be brought
abbrev pub destination_of : ℕ → List ℕ
destination_of k = listed (codes "dest" ∷ parcel k ∷ place k ∷ [])

abbrev pub roads_text : ℕ → List ℕ
roads_text k = flat_map behind_a_space (roads k)

abbrev pub piece_text : Piece → ℕ → List ℕ
piece_text Place k = behind_a_space (place k)
piece_text Parcel k = behind_a_space (parcel k)
piece_text Start k = behind_a_space (start_of k)
piece_text Destination k = behind_a_space (destination_of k)
piece_text Roads k = roads_text k
piece_text Load k = loading k
piece_text Stage k = stage k

abbrev pub pieces_text : Piece → List ℕ → List ℕ
pieces_text piece numbers = flat_map (piece_text piece) numbers

-- ---- lines

abbrev pub objects_line : ℕ → List ℕ
objects_line n = line (listed (codes ":objects" ∷ map place (range_with_len 0 (n + 1)) ++ codes "- place" ∷ map parcel (up_to n) ++ codes "- package" ∷ []))

abbrev pub start_line : ℕ → List ℕ
start_line n = line (listed (codes ":init" ∷ start n))

abbrev pub constraints_line : ℕ → List ℕ
constraints_line n = line (codes "(:constraints (and (sometime-after (carrying) (truck-at " ++ place n ++ codes ")) (preference tour (sometime-before (truck-at " ++ place n ++ codes ") (carrying))) (preference rest (at-most-once (carrying)))))")

abbrev pub goal_line : ℕ → List ℕ
goal_line n = line (codes "(:goal (and (truck-at " ++ place n ++ codes ") (forall (?p - package) (preference home (exists (?l - place) (and (dest ?p ?l) (at ?p ?l)))))))")
