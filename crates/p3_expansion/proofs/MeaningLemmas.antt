-- What a condition means that is built of given parts.
use Rattle.std.proofs.Common.{◌≡◌, ◌∙◌, ℕ, ◌+◌, ◌<◌, ◌==◌, Bool, true, false, not, ◌||◌, List, [], ◌∷◌, ◌++◌, map, length, take, get_or, refl, sym, ap, arith, zero, suc}
use Rattle.std.specs.Prelude.{flat_map}
use Rattle.std.specs.List.{list_any, list_all}
use Rattle.std.proofs.Math.Bool.{or-false}
use Rattle.std.proofs.lemmas.Bool.{and_parts}
use Rattle.std.proofs.lemmas.List.{append-nil}
use Rattle.std.proofs.lemmas.List.Concat.{flat_map-append, flat_map_single}
use Rattle.std.proofs.lemmas.List.Folds.{list_all-append, list_all-map, flat_map-map}
use mathlib.Core.Former.{Count}
use denote.Hole.Carrier.{hidden}
use Rattle.p3_base.specs.Connectives.{◌implies◌}
use Rattle.p3_task.specs.States.{State}
use Rattle.p3_numbers.specs.Conditions.{met}
use Rattle.p3_numbers.specs.Folds.{fold_condition, fold_conditions}
use Rattle.p3_numbers.specs.Slots.{Slots, value_of, bound}
use Rattle.p3_numbers.specs.declared.condition.NumberedArgument.{NumberedArgument}
use Rattle.p3_numbers.specs.declared.condition.NumberedCondition.{NumberedCondition, NumberedCondition-F, Row_of-NumberedCondition, end_of-NumberedCondition, more_of-NumberedCondition, items-the_row-NumberedCondition, items_hidden-the_row-NumberedCondition-0}
use Rattle.p3_numbers.specs.declared.condition.NumberedCondition.TheBlock.{hidden-the_row-NumberedCondition-0, hidden-the_row-NumberedCondition-1}
use Rattle.p3_numbers.specs.declared.condition.NumberedCondition.TheVariants.{Atom, Equal, And, Or, Not, Imply, Exists, Forall}
use Rattle.p3_numbers.specs.declared.numbers.Numbers.{Numbers}
use Rattle.p3_numbers.proofs.ConditionLemmas.{met-And, met-Or, met-Not, met-Imply, met-Exists, met-Forall}
use Rattle.p3_formula.proofs.FormLemmas.{list_any-map}
use Rattle.p3_expansion.specs.Atoms.{GroundAtom, atom_at}
use Rattle.p3_expansion.specs.Meanings.{Meaning, each_or_some, joined, opposite, reads_of, atom_meaning, atoms_layer, condition_atoms, condition_meaning, parts_meanings}
use Rattle.p3_expansion.proofs.GrowthLemmas.{Covers}

-- ---- meanings of parts

module _ {A : Type 0} (meaning : A → Meaning) where
  each-part : (every : Bool) (test : Meaning → Bool) (parts : List A) → each_or_some every test (parts_meanings meaning parts) ≡ each_or_some every (λ part. test (meaning part)) parts
  each-part true test parts = ap (list_all test) (flat_map_single meaning parts) ∙ list_all-map test meaning parts
  each-part false test parts = ap (list_any test) (flat_map_single meaning parts) ∙ list_any-map test meaning parts

  reads-part : (parts : List A) → reads_of (parts_meanings meaning parts) ≡ flat_map (λ part. (meaning part).reads) parts
  reads-part parts = ap reads_of (flat_map_single meaning parts) ∙ flat_map-map (λ (one : Meaning). one.reads) meaning parts

  pub joined-parts : (every : Bool) (parts : List A) (test : State → Bool) (reads : List GroundAtom)
      → ((s : State) → test s ≡ each_or_some every (λ part. (meaning part).test s) parts) → reads ≡ flat_map (λ part. (meaning part).reads) parts
      → ◌≡◌ {A = Meaning} (record { test = test; reads = reads }) (joined every (parts_meanings meaning parts))
  joined-parts every parts test reads holds are = λ i. record {
    test = λ s. (holds s ∙ sym (each-part every (λ one. one.test s) parts)) i;
    reads = (are ∙ sym (reads-part parts)) i;
  }

  -- one part more
  pub parts-more : (parts : List A) (i : ℕ) (part : A) → take (i + 1) parts ≡ take i parts ++ part ∷ [] → parts_meanings meaning (take (i + 1) parts) ≡ parts_meanings meaning (take i parts) ++ meaning part ∷ []
  parts-more parts i part is = ap (parts_meanings meaning) is ∙ flat_map-append (λ one. meaning one ∷ []) (take i parts) (part ∷ [])

  pub covers-part : (parts : List A) (i : ℕ) (part : A) → i < length parts → part ≡ get_or parts i part → Covers (reads_of (parts_meanings meaning parts)) (meaning part).reads
  covers-part [] i part within is passes all = absurd (omega arith)
  covers-part (other ∷ parts) zero part within is passes all =
      ap (λ one. list_all passes (meaning one).reads) is ∙ (and_parts (list_all passes (meaning other).reads) _ (sym (list_all-append passes (meaning other).reads (reads_of (parts_meanings meaning parts))) ∙ all)).0
  covers-part (other ∷ parts) (suc i) part within is passes all =
      covers-part parts i part (omega arith) is passes (and_parts (list_all passes (meaning other).reads) _ (sym (list_all-append passes (meaning other).reads (reads_of (parts_meanings meaning parts))) ∙ all)).1

pub covers-front : (meanings rest : List Meaning) → Covers (reads_of (meanings ++ rest)) (reads_of meanings)
covers-front meanings rest passes all =
    (and_parts (list_all passes (reads_of meanings)) _ (sym (list_all-append passes (reads_of meanings) (reads_of rest)) ∙ sym (ap (list_all passes) (flat_map-append (λ (one : Meaning). one.reads) meanings rest)) ∙ all)).0

pub covers-last : (meanings : List Meaning) (meaning : Meaning) → Covers (reads_of (meanings ++ meaning ∷ [])) meaning.reads
covers-last meanings meaning passes all =
    sym (ap (list_all passes) (append-nil meaning.reads))
    ∙ (and_parts (list_all passes (reads_of meanings)) _ (sym (list_all-append passes (reads_of meanings) (meaning.reads ++ [])) ∙ sym (ap (list_all passes) (flat_map-append (λ (one : Meaning). one.reads) meanings (meaning ∷ []))) ∙ all)).1

-- ---- conditions

module _ {A : Type 0} (layer : NumberedCondition-F A → A) where
  row_conditions : {n : Count} (row : Row_of-NumberedCondition n) → fold_conditions layer row ≡ map (fold_condition layer) (items-the_row-NumberedCondition n row)
  row_conditions end_of-NumberedCondition = refl
  row_conditions (more_of-NumberedCondition part rest) = λ i. fold_condition layer part ∷ row_conditions rest i

  pub hidden_conditions : (parts : List NumberedCondition) → fold_conditions layer (hidden-the_row-NumberedCondition-0 parts) ≡ map (fold_condition layer) parts
  hidden_conditions parts = row_conditions (hidden-the_row-NumberedCondition-0 parts) ∙ ap (map (fold_condition layer)) (items_hidden-the_row-NumberedCondition-0 parts)

module _ (N : Numbers) (slots : Slots) where
  pub meaning-Atom : (predicate : ℕ) (args : List NumberedArgument) → condition_meaning N slots (Atom predicate args) ≡ atom_meaning N (atom_at slots predicate args)
  unfolding met condition_atoms
  meaning-Atom predicate args = refl

  pub meaning-Equal : (left right : NumberedArgument) (s : State) → (condition_meaning N slots (Equal left right)).test s ≡ (value_of slots left == value_of slots right)
  unfolding met
  meaning-Equal left right s = refl

  pub atoms-And : (parts : List NumberedCondition) → condition_atoms N slots (And parts) ≡ flat_map (condition_atoms N slots) parts
  unfolding condition_atoms
  atoms-And parts = ap (flat_map (λ part. part slots)) (hidden_conditions (atoms_layer N) parts) ∙ flat_map-map (λ part. part slots) (fold_condition (atoms_layer N)) parts

  pub atoms-Or : (parts : List NumberedCondition) → condition_atoms N slots (Or parts) ≡ flat_map (condition_atoms N slots) parts
  unfolding condition_atoms
  atoms-Or parts = ap (flat_map (λ part. part slots)) (hidden_conditions (atoms_layer N) parts) ∙ flat_map-map (λ part. part slots) (fold_condition (atoms_layer N)) parts

  pub atoms-Not : (part : NumberedCondition) → condition_atoms N slots (Not part) ≡ condition_atoms N slots part
  unfolding condition_atoms hidden-the_row-NumberedCondition-1 hidden
  atoms-Not part = refl

  pub atoms-Imply : (first second : NumberedCondition) → condition_atoms N slots (Imply first second) ≡ condition_atoms N slots first ++ condition_atoms N slots second
  unfolding condition_atoms hidden-the_row-NumberedCondition-1 hidden
  atoms-Imply first second = refl

  pub atoms-Exists : (ranges : List ℕ) (body : NumberedCondition) → condition_atoms N slots (Exists ranges body) ≡ flat_map (λ inner. condition_atoms N inner body) (bound N slots ranges)
  unfolding condition_atoms hidden-the_row-NumberedCondition-1 hidden
  atoms-Exists ranges body = refl

  pub atoms-Forall : (ranges : List ℕ) (body : NumberedCondition) → condition_atoms N slots (Forall ranges body) ≡ flat_map (λ inner. condition_atoms N inner body) (bound N slots ranges)
  unfolding condition_atoms hidden-the_row-NumberedCondition-1 hidden
  atoms-Forall ranges body = refl

  pub meaning-And : (parts : List NumberedCondition) → condition_meaning N slots (And parts) ≡ joined true (parts_meanings (condition_meaning N slots) parts)
  meaning-And parts = joined-parts (condition_meaning N slots) true parts (λ s. met N s slots (And parts)) (condition_atoms N slots (And parts)) (λ s. met-And N s slots parts) (atoms-And parts)

  pub meaning-Or : (parts : List NumberedCondition) → condition_meaning N slots (Or parts) ≡ joined false (parts_meanings (condition_meaning N slots) parts)
  meaning-Or parts = joined-parts (condition_meaning N slots) false parts (λ s. met N s slots (Or parts)) (condition_atoms N slots (Or parts)) (λ s. met-Or N s slots parts) (atoms-Or parts)

  pub meaning-Not : (part : NumberedCondition) → condition_meaning N slots (Not part) ≡ opposite (condition_meaning N slots part)
  meaning-Not part = λ i. record { test = λ s. met-Not N s slots part i; reads = atoms-Not part i }

  pub meaning-Imply : (first second : NumberedCondition) → condition_meaning N slots (Imply first second) ≡ joined false (opposite (condition_meaning N slots first) ∷ condition_meaning N slots second ∷ [])
  meaning-Imply first second = λ i. record {
    test = λ s. (met-Imply N s slots first second ∙ implied (met N s slots first) (met N s slots second)) i;
    reads = (atoms-Imply first second ∙ ap (λ rest. condition_atoms N slots first ++ rest) (sym (append-nil (condition_atoms N slots second)))) i;
  }
    where
      implied : (a b : Bool) → (a implies b) ≡ (not a || (b || false))
      implied true b = sym (or-false b)
      implied false b = refl

  pub meaning-Exists : (ranges : List ℕ) (body : NumberedCondition) → condition_meaning N slots (Exists ranges body) ≡ joined false (parts_meanings (λ inner. condition_meaning N inner body) (bound N slots ranges))
  meaning-Exists ranges body =
      joined-parts (λ inner. condition_meaning N inner body) false (bound N slots ranges) (λ s. met N s slots (Exists ranges body)) (condition_atoms N slots (Exists ranges body))
      (λ s. met-Exists N s slots ranges body) (atoms-Exists ranges body)

  pub meaning-Forall : (ranges : List ℕ) (body : NumberedCondition) → condition_meaning N slots (Forall ranges body) ≡ joined true (parts_meanings (λ inner. condition_meaning N inner body) (bound N slots ranges))
  meaning-Forall ranges body =
      joined-parts (λ inner. condition_meaning N inner body) true (bound N slots ranges) (λ s. met N s slots (Forall ranges body)) (condition_atoms N slots (Forall ranges body))
      (λ s. met-Forall N s slots ranges body) (atoms-Forall ranges body)
