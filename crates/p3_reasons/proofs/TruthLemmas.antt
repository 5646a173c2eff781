-- Atoms with their truth, one after another.
use Rattle.std.proofs.Common.{◌≡◌, ◌∙◌, ℕ, ◌+◌, ◌<◌, length, get_or, not, Bool, true, false, ◌&&◌, ◌||◌, if◌then◌else◌, cond, List, [], ◌∷◌, map, take, refl, sym, ap}
use Rattle.std.specs.Prelude.{bytes_eq, Some, None, unwrap_or}
use Rattle.std.specs.Bool.{one_answer}
use Rattle.std.specs.List.{list_any}
use Rattle.std.specs.Map.{lookup}
use Rattle.std.proofs.lemmas.List.{map-append}
use Rattle.std.proofs.lemmas.List.Folds.{list_any-append}
use Rattle.p3_formula.proofs.NodeLemmas.{take-next}
use Rattle.std.proofs.lemmas.Slice.Eq.{bytes_eq-Decides}
use Rattle.indexmap.specs.IndexMap.{insert_entry}
use Rattle.p3_numbers.specs.declared.task.NumberedFact.{NumberedFact}
use Rattle.p3_expansion.specs.Atoms.{GroundAtom}
use Rattle.p3_expansion.specs.Statics.{atom_of}
use Rattle.p3_reasons.specs.Effects.{Truths, truth_of, with_truth, says, noted}
use Rattle.p3_reasons.specs.Outcomes.{Test}
use Rattle.p3_reasons.specs.declared.decision.Literal.{Literal}

-- ---- keys that hold atoms

module _ {A : Type 0} (items : A → GroundAtom) where
  abbrev pub plain : A × Bool → GroundAtom × Bool
  plain entry = (items entry.0, entry.1)

  pub lookup-plain : (entries : List (A × Bool)) (atom : GroundAtom) → lookup (λ key. bytes_eq atom (items key)) entries ≡ lookup (bytes_eq atom) (map plain entries)
  lookup-plain [] atom = refl
  lookup-plain (entry ∷ entries) atom = ap (λ rest. cond (bytes_eq atom (items entry.0)) (Some entry.1) rest) (lookup-plain entries atom)

  pub insert-plain : (entries : List (A × Bool)) (key : A) (holds : Bool) → map plain (insert_entry (λ x y. bytes_eq (items x) (items y)) entries key holds) ≡ with_truth (map plain entries) (items key) holds
  insert-plain [] key holds = refl
  insert-plain (entry ∷ entries) key holds = by (bytes_eq (items key) (items entry.0)) (insert-plain entries key holds)
    where
      by : (same : Bool) → map plain (insert_entry (λ x y. bytes_eq (items x) (items y)) entries key holds) ≡ with_truth (map plain entries) (items key) holds
          → map plain (if same then (entry.0, holds) ∷ entries else entry ∷ insert_entry (λ x y. bytes_eq (items x) (items y)) entries key holds)
          ≡ (if same then (items entry.0, holds) ∷ map plain entries else plain entry ∷ with_truth (map plain entries) (items key) holds)
      by true rest = refl
      by false rest = ap (λ others. plain entry ∷ others) rest

-- ---- one atom more

same-either : (first second : GroundAtom) → bytes_eq first second ≡ bytes_eq second first
same-either first second = one_answer (bytes_eq first second) (bytes_eq second first) (bytes_eq-Decides first second) ((λ same. sym ((bytes_eq-Decides second first).0 same)), (λ same. (bytes_eq-Decides second first).1 (sym same)))

found-with : (truths : Truths) (atom : GroundAtom) (holds : Bool) (other : GroundAtom) → lookup (bytes_eq other) (with_truth truths atom holds) ≡ (if bytes_eq other atom then Some holds else lookup (bytes_eq other) truths)
found-with [] atom holds other = by (bytes_eq other atom)
  where
    by : (same : Bool) → cond same (Some holds) None ≡ (if same then Some holds else None)
    by true = refl
    by false = refl
found-with (entry ∷ truths) atom holds other = by (bytes_eq atom entry.0) refl (bytes_eq other entry.0) refl (found-with truths atom holds other)
  where
    by : (here : Bool) → bytes_eq atom entry.0 ≡ here → (there : Bool) → bytes_eq other entry.0 ≡ there → lookup (bytes_eq other) (with_truth truths atom holds) ≡ (if bytes_eq other atom then Some holds else lookup (bytes_eq other) truths)
        → lookup (bytes_eq other) (if here then (entry.0, holds) ∷ truths else entry ∷ with_truth truths atom holds) ≡ (if bytes_eq other atom then Some holds else cond there (Some entry.1) (lookup (bytes_eq other) truths))
    by true same there is rest =
        let one : atom ≡ entry.0 = (bytes_eq-Decides atom entry.0).0 same in
        ap (λ b. cond b (Some holds) (lookup (bytes_eq other) truths)) is ∙ placed there
        ∙ sym (ap (λ b. if b then Some holds else cond there (Some entry.1) (lookup (bytes_eq other) truths)) (ap (bytes_eq other) one ∙ is))
      where
        placed : (there : Bool) → cond there (Some holds) (lookup (bytes_eq other) truths) ≡ (if there then Some holds else cond there (Some entry.1) (lookup (bytes_eq other) truths))
        placed true = refl
        placed false = refl
    by false apart true is rest =
        let one : other ≡ entry.0 = (bytes_eq-Decides other entry.0).0 is in
        let differ : bytes_eq other atom ≡ false = same-either other atom ∙ ap (bytes_eq atom) one ∙ apart in
        ap (λ b. cond b (Some entry.1) (lookup (bytes_eq other) (with_truth truths atom holds))) is ∙ sym (ap (λ b. if b then Some holds else Some entry.1) differ)
    by false apart false is rest = ap (λ b. cond b (Some entry.1) (lookup (bytes_eq other) (with_truth truths atom holds))) is ∙ rest

pub truth-with : (truths : Truths) (atom : GroundAtom) (holds : Bool) (other : GroundAtom) → truth_of (with_truth truths atom holds) other ≡ (if bytes_eq other atom then holds else truth_of truths other)
truth-with truths atom holds other = ap (λ found. unwrap_or found false) (found-with truths atom holds other) ∙ by (bytes_eq other atom)
  where
    by : (same : Bool) → unwrap_or (if same then Some holds else lookup (bytes_eq other) truths) false ≡ (if same then holds else truth_of truths other)
    by true = refl
    by false = refl

-- ---- literals that are noted

found-last : (first second : Bool) (holds before : Bool) → (if second then holds else (if first then holds else before)) ≡ (if first || (second || false) then holds else before)
found-last true true holds before = refl
found-last true false holds before = refl
found-last false true holds before = refl
found-last false false holds before = refl

any-more : (passes : Literal → Bool) (literals : List Literal) (i : ℕ) (literal : Literal) → i < length literals → literal ≡ get_or literals i literal
    → list_any passes (take (i + 1) literals) ≡ (list_any passes (take i literals) || (passes literal || false))
any-more passes literals i literal within here = ap (list_any passes) (sym (take-next literals i literal literal within here)) ∙ list_any-append passes (take i literals) (literal ∷ [])

-- a literal that says so is noted
pub noted-more : (holds : Bool) (test before after : Test) (literals : List Literal) (i : ℕ) (literal : Literal) (atom : GroundAtom) → i < length literals → literal ≡ get_or literals i literal
    → before atom ≡ noted holds test (take i literals) atom → after atom ≡ (if says holds atom literal then holds else before atom) → after atom ≡ noted holds test (take (i + 1) literals) atom
noted-more holds test before after literals i literal atom within here is more =
    more ∙ ap (λ old. if says holds atom literal then holds else old) is
    ∙ found-last (list_any (says holds atom) (take i literals)) (says holds atom literal) holds (test atom)
    ∙ sym (ap (λ one. if one then holds else test atom) (any-more (says holds atom) literals i literal within here))

pub says-same : (holds is : Bool) (atom : GroundAtom) (literal : Literal) → is ≡ (if holds then literal.holds else not literal.holds) → (is && bytes_eq atom literal.atom) ≡ says holds atom literal
says-same true is atom literal so = ap (λ one. one && bytes_eq atom literal.atom) so
says-same false is atom literal so = ap (λ one. one && bytes_eq atom literal.atom) so

-- ---- the facts of a start

either : (first second : Bool) → (if second then true else first) ≡ (first || (second || false))
either true true = refl
either true false = refl
either false true = refl
either false false = refl

-- one fact more
pub start-more : (start : List NumberedFact) (i : ℕ) (fact : NumberedFact) (before after : Test) (atom : GroundAtom) → i < length start → fact ≡ get_or start i fact
    → before atom ≡ list_any (bytes_eq atom) (map atom_of (take i start)) → after atom ≡ (if bytes_eq atom (atom_of fact) then true else before atom) → after atom ≡ list_any (bytes_eq atom) (map atom_of (take (i + 1) start))
start-more start i fact before after atom within here is more =
    more ∙ ap (λ old. if bytes_eq atom (atom_of fact) then true else old) is
    ∙ either (list_any (bytes_eq atom) (map atom_of (take i start))) (bytes_eq atom (atom_of fact))
    ∙ sym (list_any-append (bytes_eq atom) (map atom_of (take i start)) (atom_of fact ∷ []))
    ∙ ap (list_any (bytes_eq atom)) (sym (map-append atom_of (take i start) (fact ∷ [])) ∙ ap (map atom_of) (take-next start i fact fact within here))
