-- Parts that come to something one after another, while their atoms are gathered.
use Rattle.std.proofs.Common.{◌≡◌, ◌∙◌, ℕ, ◌+◌, ◌<◌, ◌≤◌, Bool, true, false, List, [], ◌∷◌, ◌++◌, map, length, take, drop, get_or, slice_get, refl, sym, ap, subst, add-one, zero, suc}
use Rattle.std.specs.Prelude.{flat_map, find, Some, None, unwrap_or}
use Rattle.std.specs.Option.{option_or}
use Rattle.std.proofs.Math.Seq.{drop-cons}
use Rattle.std.proofs.lemmas.Grind.{flat_map-append}
use Rattle.std.proofs.lemmas.List.{map-append, take-append-drop, take_all}
use Rattle.std.proofs.lemmas.List.Folds.{find-append}
use mathlib.Core.Former.{Count}
use Rattle.p3_formula.proofs.NodeLemmas.{take-next}
use Rattle.p3_expansion.specs.Atoms.{GroundAtom}
use Rattle.p3_reasons.specs.Outcomes.{Outcome, settles, joined}
use Rattle.p3_reasons.specs.Gathering.{atoms_of, atoms_of_all, outcome_of}
use Rattle.p3_reasons.specs.declared.gathered.Finding.{Finding}
use Rattle.p3_reasons.specs.declared.gathered.Gathered.{Gathered, Row_of-Gathered, end_of-Gathered, more_of-Gathered, items-the_row-Gathered, items_hidden-the_row-Gathered-0}
use Rattle.p3_reasons.specs.declared.gathered.Gathered.TheBlock.{hidden-the_row-Gathered-0}
use Rattle.p3_reasons.specs.declared.gathered.Gathered.TheVariants.{One, All}

-- ---- what is gathered

pub atoms-One : (atom : GroundAtom) → atoms_of (One atom) ≡ atom ∷ []
unfolding atoms_of
atoms-One atom = refl

atoms-row : {n : Count} (row : Row_of-Gathered n) → atoms_of_all row ≡ flat_map atoms_of (items-the_row-Gathered n row)
unfolding atoms_of
atoms-row end_of-Gathered = refl
atoms-row (more_of-Gathered part rest) = ap (λ atoms. atoms_of part ++ atoms) (atoms-row rest)

pub atoms-All : (parts : List Gathered) → atoms_of (All parts) ≡ flat_map atoms_of parts
unfolding atoms_of
atoms-All parts = atoms-row (hidden-the_row-Gathered-0 parts) ∙ ap (flat_map atoms_of) (items_hidden-the_row-Gathered-0 parts)

pub ruleset atoms_laws = (atoms-One, atoms-All)

-- ---- parts of which none has decided yet

abbrev settling : Bool → Outcome → Bool
settling every part = settles every part.holds

pub record Begun (every : Bool) (passed : List Outcome) (gathered : List Gathered) : Type 0 where
  pub none : find (settling every) passed ≡ None
  pub atoms : flat_map atoms_of gathered ≡ flat_map (λ (part : Outcome). part.atoms) passed

found-none : (every holds : Bool) (part : Outcome) → part.holds ≡ holds → settles every holds ≡ false → find (settling every) (part ∷ []) ≡ None
found-none true true part is unsettled = rw is refl
found-none true false part is unsettled = absurd (cc)
found-none false true part is unsettled = absurd (cc)
found-none false false part is unsettled = rw is refl

found-here : (every holds : Bool) (part : Outcome) (rest : List Outcome) → part.holds ≡ holds → settles every holds ≡ true → find (settling every) (part ∷ rest) ≡ Some part
found-here true true part rest is settled = absurd (cc)
found-here true false part rest is settled = rw is refl
found-here false true part rest is settled = rw is refl
found-here false false part rest is settled = absurd (cc)

module _ (every : Bool) {A : Type 0} (come : A → Outcome) (parts : List A) where
  -- one part more that does not decide alone
  pub begun-more : (i : ℕ) (part : A) (gathered : List Gathered) (finding : Finding) → i < length parts → part ≡ get_or parts i part → Begun every (map come (take i parts)) gathered
      → outcome_of finding ≡ come part → settles every finding.holds ≡ false → Begun every (map come (take (i + 1) parts)) (gathered ++ finding.atoms ∷ [])
  begun-more i part gathered finding within here begun is unsettled = subst (λ passed. Begun every (map come passed) (gathered ++ finding.atoms ∷ [])) (take-next parts i part part within here) (record {
    none =
        ap (find (settling every)) (map-append come (take i parts) (part ∷ []))
        ∙ find-append (settling every) (map come (take i parts)) (come part ∷ [])
        ∙ ap (λ found. option_or found (find (settling every) (come part ∷ []))) begun.none
        ∙ found-none every finding.holds (come part) (ap (λ (one : Outcome). one.holds) (sym is)) unsettled;
    atoms =
        flat_map-append atoms_of gathered (finding.atoms ∷ [])
        ∙ (λ j. begun.atoms j ++ (ap (λ (one : Outcome). one.atoms) is j ++ []))
        ∙ sym (flat_map-append (λ (part : Outcome). part.atoms) (map come (take i parts)) (come part ∷ []))
        ∙ ap (flat_map (λ (part : Outcome). part.atoms)) (sym (map-append come (take i parts) (part ∷ [])));
  })

  -- one part that decides alone
  pub begun-settled : (i : ℕ) (part : A) (gathered : List Gathered) (finding : Finding) → i < length parts → part ≡ get_or parts i part → Begun every (map come (take i parts)) gathered
      → outcome_of finding ≡ come part → settles every finding.holds ≡ true → outcome_of finding ≡ joined every (map come parts)
  begun-settled i part gathered finding within here begun is settled =
      is ∙ sym (ap (λ found. unwrap_or found (record { holds = every; atoms = flat_map (λ (part : Outcome). part.atoms) (map come parts) })) found)
    where
      whole : parts ≡ take i parts ++ part ∷ drop (i + 1) parts
      whole = sym (take-append-drop i parts) ∙ ap (λ rest. take i parts ++ rest) (drop-cons parts i part within ∙ (λ j. sym here j ∷ drop (sym (add-one i) j) parts))

      found : find (settling every) (map come parts) ≡ Some (come part)
      found =
          ap (λ all. find (settling every) (map come all)) whole
          ∙ ap (find (settling every)) (map-append come (take i parts) (part ∷ drop (i + 1) parts))
          ∙ find-append (settling every) (map come (take i parts)) (come part ∷ map come (drop (i + 1) parts))
          ∙ ap (λ found. option_or found (find (settling every) (come part ∷ map come (drop (i + 1) parts)))) begun.none
          ∙ found-here every finding.holds (come part) (map come (drop (i + 1) parts)) (ap (λ (one : Outcome). one.holds) (sym is)) settled

  -- no part decides alone
  pub begun-all : (i : ℕ) (gathered : List Gathered) → length parts ≤ i → Begun every (map come (take i parts)) gathered
      → ◌≡◌ {A = Outcome} (record { holds = every; atoms = atoms_of (All gathered) }) (joined every (map come parts))
  begun-all i gathered past begun =
      (λ j. record { holds = every; atoms = (atoms-All gathered ∙ begun.atoms) j })
      ∙ sym (ap (λ found. unwrap_or found (record { holds = every; atoms = flat_map (λ (part : Outcome). part.atoms) (map come (take i parts)) })) begun.none)
      ∙ ap (λ passed. joined every (map come passed)) (take_all i parts past)

-- ---- one of two

-- the first decides alone whether one of them holds
pub first-joined : (first second : Outcome) → first.holds ≡ true → first ≡ joined false (first ∷ second ∷ [])
first-joined first second holds = (λ i. record { holds = holds i; atoms = first.atoms }) ∙ sym (λ i. joined false (record { holds = holds i; atoms = first.atoms } ∷ second ∷ []))

-- the second does
pub second-joined : (first second : Outcome) → first.holds ≡ false → second.holds ≡ true → second ≡ joined false (first ∷ second ∷ [])
second-joined first second fails holds =
    (λ i. record { holds = holds i; atoms = second.atoms })
    ∙ sym (λ i. joined false (record { holds = fails i; atoms = first.atoms } ∷ record { holds = holds i; atoms = second.atoms } ∷ []))

-- neither does
pub neither-joined : (first second : Outcome) → first.holds ≡ false → second.holds ≡ false → joined false (first ∷ second ∷ []) ≡ record { holds = false; atoms = first.atoms ++ (second.atoms ++ []) }
neither-joined first second fails both = λ i. joined false (record { holds = fails i; atoms = first.atoms } ∷ record { holds = both i; atoms = second.atoms } ∷ [])

-- ---- lists that become others

become-suc : {A B : Type 0} (become : A → B) (items : List A) (n : ℕ) (item : A) → slice_get items n ≡ Some item → map become (take (suc n) items) ≡ map become (take n items) ++ become item ∷ []
become-suc become [] n item here = absurd (cc)
become-suc become (first ∷ items) zero item here = let is : first ≡ item = cc in ap (λ one. become one ∷ []) is
become-suc become (first ∷ items) (suc n) item here = ap (λ rest. become first ∷ rest) (become-suc become items n item here)

-- one item more
pub become-more : {A B : Type 0} (become : A → B) (items : List A) (n : ℕ) (item : A) → slice_get items n ≡ Some item → map become (take (n + 1) items) ≡ map become (take n items) ++ become item ∷ []
become-more become items n item here = ap (λ count. map become (take count items)) (add-one n) ∙ become-suc become items n item here
