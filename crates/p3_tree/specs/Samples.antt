-- The three texts of a sample: n packages are brought to places in a row.
use Rattle.std.specs.Prelude.{ℕ, ◌+◌, ◌-◌, ◌%◌, ◌==◌, List, [], ◌∷◌, ◌++◌, map, flat_map, codes, if◌then◌else◌}
use Rattle.std.specs.List.{range_with_len}
use Rattle.std.specs.Fmt.{decimal}
use Rattle.p3_tree.specs.Reports.Lines.{line}

-- the numbers from 1 up to n
abbrev pub up_to : ℕ → List ℕ
up_to n = range_with_len 1 n

abbrev pub place : ℕ → List ℕ
place k = codes "l" ++ decimal k

abbrev pub parcel : ℕ → List ℕ
parcel k = codes "p" ++ decimal k

-- with single spaces between the parts
abbrev pub spaced : List (List ℕ) → List ℕ
spaced [] = []
spaced (part ∷ []) = part
spaced (part ∷ other ∷ parts) = part ++ codes " " ++ spaced (other ∷ parts)

-- in parentheses
abbrev pub listed : List (List ℕ) → List ℕ
listed parts = codes "(" ++ spaced parts ++ codes ")"

-- ---- the domain, the same of every sample

abbrev pub sample_domain : List ℕ
sample_domain = flat_map (λ text. line (codes text)) (
    "(define (domain delivery)"
    ∷ "(:requirements :adl :preferences :constraints :action-costs)"
    ∷ "(:types place package)"
    ∷ "(:predicates (truck-at ?l - place) (at ?p - package ?l - place) (in ?p - package) (dest ?p - package ?l - place) (carrying))"
    ∷ "(:functions (total-cost) - number (road ?a ?b - place) - number)"
    ∷ "(:action drive :parameters (?a ?b - place) :precondition (truck-at ?a) :effect (and (not (truck-at ?a)) (truck-at ?b) (increase (total-cost) (road ?a ?b))))"
    ∷ "(:action load :parameters (?p - package ?l - place) :precondition (and (truck-at ?l) (at ?p ?l) (preference calm (not (carrying)))) :effect (and (not (at ?p ?l)) (in ?p) (carrying) (increase (total-cost) 1)))"
    ∷ "(:action unload :parameters (?p - package ?l - place) :precondition (and (truck-at ?l) (in ?p)) :effect (and (not (in ?p)) (at ?p ?l) (not (carrying)) (increase (total-cost) 1)))"
    ∷ ")" ∷ [])

-- ---- the problem

-- the way from one place to another
abbrev pub road : ℕ → ℕ → ℕ → List ℕ
road from to length = listed (codes "=" ∷ listed (codes "road" ∷ place from ∷ place to ∷ []) ∷ decimal length ∷ [])

-- from the place before to this one, and back
abbrev pub roads : ℕ → List (List ℕ)
roads k = road (k - 1) k (k % 5 + 1) ∷ road k (k - 1) (k % 5 + 1) ∷ []

abbrev pub start : ℕ → List (List ℕ)
start n =
    codes "(truck-at l0)" ∷ map (λ k. listed (codes "at" ∷ parcel k ∷ codes "l0" ∷ [])) (up_to n)
    ++ map (λ k. listed (codes "dest" ∷ parcel k ∷ place k ∷ [])) (up_to n) ++ codes "(= (total-cost) 0)" ∷ flat_map roads (up_to n)

abbrev pub sample_problem : ℕ → List ℕ
sample_problem n =
    line (codes "(define (problem delivery-" ++ decimal n ++ codes ")") ++ line (codes "(:domain delivery)")
    ++ line (listed (codes ":objects" ∷ map place (range_with_len 0 (n + 1)) ++ codes "- place" ∷ map parcel (up_to n) ++ codes "- package" ∷ []))
    ++ line (listed (codes ":init" ∷ start n))
    ++ line (codes "(:constraints (and (sometime-after (carrying) (truck-at " ++ place n ++ codes ")) (preference tour (sometime-before (truck-at " ++ place n ++ codes ") (carrying))) (preference rest (at-most-once (carrying)))))")
    ++ line (codes "(:goal (and (truck-at " ++ place n ++ codes ") (forall (?p - package) (preference home (exists (?l - place) (and (dest ?p ?l) (at ?p ?l)))))))")
    ++ line (codes "(:metric minimize (+ (total-cost) (* 3 (is-violated calm)) (* 10 (is-violated home)) (* 4 (is-violated tour)) (* 2 (is-violated rest)))))")

-- ---- the plan

abbrev pub loading : ℕ → List ℕ
loading k = line (listed (codes "load" ∷ parcel k ∷ codes "l0" ∷ []))

-- to the next place, where each second package stays
abbrev pub stage : ℕ → List ℕ
stage k = line (listed (codes "drive" ∷ place (k - 1) ∷ place k ∷ [])) ++ (if k % 2 == 1 then line (listed (codes "unload" ∷ parcel k ∷ place k ∷ [])) else [])

abbrev pub sample_plan : ℕ → List ℕ
sample_plan n = flat_map loading (up_to n) ++ flat_map stage (up_to n)
