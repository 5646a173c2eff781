-- Where an operator is filed with each of its atoms, it stands with each atom that it reads.
use Rattle.std.proofs.Common.{◌≡◌, ◌∙◌, ◌≢◌, ℕ, zero, suc, ◌+◌, ◌<◌, ◌≤◌, ◌==◌, Bool, true, false, ◌||◌, List, [], ◌∷◌, ◌++◌, length, refl, sym, ap, subst, arith, length-set, ◌-◌}
use Rattle.std.specs.Prelude.{◌⊎◌, slice_get, if◌then◌else◌}
use Rattle.std.specs.List.{All, list_any, list_all}
use Rattle.std.proofs.lemmas.Bool.{cases_eq, cases_lt, or_left, or_right, or_cases, eqb-true, and_from}
use Rattle.std.proofs.lemmas.List.{get_or-set_same, get_or-set_other, set_past}
use Rattle.std.proofs.lemmas.List.Elements.{All-append}
use Rattle.std.proofs.lemmas.List.Folds.{list_any-append, list_all-map}
use Rattle.std.proofs.lemmas.List.Sums.{AllPass-from_list_all}
use mathlib.Core.Logic.{inl, inr, ⊎_elim}
use Rattle.p3_formula.specs.Conditions.{HasAtomsBelow}
use Rattle.p3_formula.specs.Modals.{is_modal_below, IsModalBelow}
use Rattle.p3_formula.specs.declared.form.Form.TheVariants.{True}
use Rattle.p3_base.specs.declared.operator.Operator.TheVariants.{AtEnd}
use Rattle.p3_formula.specs.declared.modal.GroundSoft.{GroundSoft}
use Rattle.p3_formula.specs.declared.task.GroundTask.{GroundTask}
use Rattle.p3_formula.proofs.ReadAtoms.{read_below, same_number}
use Rattle.p3_run.specs.Groups.{AreModalsBelow, modals_of, modals_at, modal_at, IsReader}
use Rattle.p3_formula.specs.AtomLists.{modal_atoms}
use Rattle.p3_run.specs.Readers.{readers_at, filed, filed_all, is_same, IsFiled, IsBefore, AreFiledTo, is_same_by, ends, with_reader}
use Rattle.p3_run.specs.declared.readers.OperatorReader.{OperatorReader}
use Rattle.p3_formula.proofs.AtomLists.{read_named}

-- ---- one operator is filed

module _ (reader : OperatorReader) where
  -- where it is an item it is one of the list
  is_among : (those : List OperatorReader) (place : ℕ) → is_same_by reader (slice_get those place) ≡ true → list_any (is_same reader) those ≡ true
  is_among [] place same = absurd (cc)
  is_among (other ∷ those) zero same = or_left (is_same reader other) (list_any (is_same reader) those) same
  is_among (other ∷ those) (suc place) same = or_right (is_same reader other) (list_any (is_same reader) those) (is_among those place same)

  itself : is_same reader reader ≡ true
  itself = and_from (reader.group == reader.group) (reader.place == reader.place) (same_number reader.group) (same_number reader.place)

  -- it is one of them then
  among_with : (those : List OperatorReader) → list_any (is_same reader) (with_reader reader those) ≡ true
  among_with those = by (ends reader those) refl where
    by : (b : Bool) → ends reader those ≡ b → list_any (is_same reader) (if b then those else those ++ reader ∷ []) ≡ true
    by true last = is_among those (length those - 1) last
    by false last =
        list_any-append (is_same reader) those (reader ∷ [])
        ∙ or_right (list_any (is_same reader) those) (is_same reader reader || false) (or_left (is_same reader reader) false itself)

  -- and so are the others
  stays_with : (test : OperatorReader → Bool) (those : List OperatorReader) → list_any test those ≡ true → list_any test (with_reader reader those) ≡ true
  stays_with test those there = by (ends reader those) where
    by : (b : Bool) → list_any test (if b then those else those ++ reader ∷ []) ≡ true
    by true = there
    by false = list_any-append test those (reader ∷ []) ∙ or_left (list_any test those) (list_any test (reader ∷ [])) there

  all_with : (P : OperatorReader → Type 0) → P reader → (those : List OperatorReader) → All P those → All P (with_reader reader those)
  all_with P has those all = by (ends reader those) where
    single : All P (reader ∷ [])
    single zero d lt = has
    single (suc k) d lt = absurd (omega (arith, lt))

    by : (b : Bool) → All P (if b then those else those ++ reader ∷ [])
    by true = all
    by false = All-append P those (reader ∷ []) all single

  pub length-filed_all : (atoms : List ℕ) (readers : List (List OperatorReader)) → length (filed_all reader readers atoms) ≡ length readers
  length-filed_all [] readers = refl
  length-filed_all (atom ∷ atoms) readers = length-filed_all atoms (filed reader readers atom) ∙ length-set readers atom (with_reader reader (readers_at readers atom))

  -- the readers of an atom are those before, and the operator behind them where it reads the atom
  module _ (readers : List (List OperatorReader)) (atom : ℕ) where
    here : atom < length readers → readers_at (filed reader readers atom) atom ≡ with_reader reader (readers_at readers atom)
    here within = get_or-set_same readers atom (with_reader reader (readers_at readers atom)) [] within

    elsewhere : (one : ℕ) → one ≢ atom → readers_at (filed reader readers atom) one ≡ readers_at readers one
    elsewhere one other = get_or-set_other readers atom one (with_reader reader (readers_at readers atom)) [] other

    past : (one : ℕ) → length readers ≤ atom → readers_at (filed reader readers atom) one ≡ readers_at readers one
    past one beyond = ap (λ list. readers_at list one) (set_past readers atom (with_reader reader (readers_at readers atom)) beyond)

  -- what is filed stays filed
  module _ (test : OperatorReader → Bool) (one : ℕ) where
    stays : (readers : List (List OperatorReader)) (atom : ℕ) → list_any test (readers_at readers one) ≡ true → list_any test (readers_at (filed reader readers atom) one) ≡ true
    stays readers atom there = by (cases_eq one atom) (cases_lt atom (length readers)) where
      by : (one ≡ atom) ⊎ (one ≡ atom → ⊥) → (atom < length readers) ⊎ (length readers ≤ atom) → list_any test (readers_at (filed reader readers atom) one) ≡ true
      by (inr other) within = ap (list_any test) (elsewhere readers atom one other) ∙ there
      by (inl same) (inr beyond) = ap (list_any test) (past readers atom one beyond) ∙ there
      by (inl same) (inl within) =
          ap (λ a. list_any test (readers_at (filed reader readers atom) a)) same
          ∙ ap (list_any test) (here readers atom within)
          ∙ stays_with test (readers_at readers atom) (ap (λ a. list_any test (readers_at readers a)) (sym same) ∙ there)

    pub all_stays : (atoms : List ℕ) (readers : List (List OperatorReader)) → list_any test (readers_at readers one) ≡ true → list_any test (readers_at (filed_all reader readers atoms) one) ≡ true
    all_stays [] readers there = there
    all_stays (atom ∷ atoms) readers there = all_stays atoms (filed reader readers atom) (stays readers atom there)

  -- it stands with each of the atoms
  stands_here : (readers : List (List OperatorReader)) (atom : ℕ) → atom < length readers → list_any (is_same reader) (readers_at (filed reader readers atom) atom) ≡ true
  stands_here readers atom within = ap (list_any (is_same reader)) (here readers atom within) ∙ among_with (readers_at readers atom)

  pub stands : (one : ℕ) (atoms : List ℕ) (readers : List (List OperatorReader)) → one < length readers → list_any (λ atom. atom == one) atoms ≡ true → list_any (is_same reader) (readers_at (filed_all reader readers atoms) one) ≡ true
  stands one [] readers within named = absurd (cc)
  stands one (atom ∷ atoms) readers within named =
      ⊎_elim
      (λ same. all_stays (is_same reader) one atoms (filed reader readers atom)
      (ap (λ a. list_any (is_same reader) (readers_at (filed reader readers atom) a)) (sym (eqb-true atom one same))
      ∙ stands_here readers atom (subst (λ a. a < length readers) (sym (eqb-true atom one same)) within)))
      (λ later. stands one atoms (filed reader readers atom) (let l = length-set readers atom (with_reader reader (readers_at readers atom)) in omega (arith, within, l)) later)
      (or_cases (atom == one) (list_any (λ a. a == one) atoms) named)

  -- and nothing else comes in
  module _ (P : OperatorReader → Type 0) (has : P reader) where
    one_within : (readers : List (List OperatorReader)) (atom : ℕ) → ((one : ℕ) → All P (readers_at readers one)) → (one : ℕ) → All P (readers_at (filed reader readers atom) one)
    one_within readers atom all one = by (cases_eq one atom) (cases_lt atom (length readers)) where
      by : (one ≡ atom) ⊎ (one ≡ atom → ⊥) → (atom < length readers) ⊎ (length readers ≤ atom) → All P (readers_at (filed reader readers atom) one)
      by (inr other) within = subst (All P) (sym (elsewhere readers atom one other)) (all one)
      by (inl same) (inr beyond) = subst (All P) (sym (past readers atom one beyond)) (all one)
      by (inl same) (inl within) =
          subst (λ a. All P (readers_at (filed reader readers atom) a)) (sym same)
          (subst (All P) (sym (here readers atom within)) (all_with P has (readers_at readers atom) (all atom)))

    pub all_within : (atoms : List ℕ) (readers : List (List OperatorReader)) → ((one : ℕ) → All P (readers_at readers one)) → (one : ℕ) → All P (readers_at (filed_all reader readers atoms) one)
    all_within [] readers all = all
    all_within (atom ∷ atoms) readers all = all_within atoms (filed reader readers atom) (one_within readers atom all)

-- ---- readers in turn

pub same_reader : (reader other : OperatorReader) → reader.group ≡ other.group → reader.place ≡ other.place → reader ≡ other
same_reader reader other group place = λ i. record { group = group i; place = place i }

-- ---- the operators of a task are below its count of atoms

module _ (G : GroundTask) (below : HasAtomsBelow G) where
  all_below : list_all (list_all (is_modal_below G.atoms)) (modals_of G) ≡ true
  all_below = and_from (list_all (is_modal_below G.atoms) G.hard) _ below.hard
      (list_all-map (list_all (is_modal_below G.atoms)) (λ (soft : GroundSoft). soft.parts) G.soft ∙ below.soft)

  pub group_below : (group : ℕ) → group < length (modals_of G) → AreModalsBelow G.atoms (modals_at G group)
  group_below group within = AllPass-from_list_all (list_all (is_modal_below G.atoms)) (modals_of G) all_below group [] within

  pub modal_below : (reader : OperatorReader) → IsReader G reader → IsModalBelow G.atoms (modal_at G reader)
  modal_below reader is = AllPass-from_list_all (is_modal_below G.atoms) (modals_at G reader.group) (group_below reader.group is.group) reader.place (AtEnd True) is.place

  -- ---- one operator more, and one group more

  pub filed_one : (readers : List (List OperatorReader)) (reader : OperatorReader) → IsReader G reader → AreFiledTo G reader.group reader.place readers
      → AreFiledTo G reader.group (reader.place + 1) (filed_all reader readers (modal_atoms (modal_at G reader)))
  filed_one readers reader is to = record {
    atoms = length-filed_all reader (modal_atoms (modal_at G reader)) readers ∙ to.atoms;
    within = all_within reader (IsReader G) is (modal_atoms (modal_at G reader)) readers to.within;
    filed = filed_now;
  }
    where
      made : List (List OperatorReader)
      made = filed_all reader readers (modal_atoms (modal_at G reader))

      earlier : (other : OperatorReader) → IsReader G other → IsBefore reader.group reader.place other → IsFiled G (filed_all reader readers (modal_atoms (modal_at G reader))) other
      earlier other has before atom read = all_stays reader (is_same other) atom (modal_atoms (modal_at G reader)) readers (to.filed other has before atom read)

      this : IsFiled G (filed_all reader readers (modal_atoms (modal_at G reader))) reader
      this atom read =
          let low = read_below G.atoms (modal_at G reader) (modal_below reader is) atom read in
          stands reader atom (modal_atoms (modal_at G reader)) readers (subst (λ count. atom < count) (sym to.atoms) low) (sym (read_named (modal_at G reader) atom) ∙ read)

      filed_now : (other : OperatorReader) → IsReader G other → IsBefore reader.group (reader.place + 1) other → IsFiled G (filed_all reader readers (modal_atoms (modal_at G reader))) other
      filed_now other has (inl lower) = earlier other has (inl lower)
      filed_now other has (inr (group, below_it)) = by (cases_eq other.place reader.place) where
        by : (other.place ≡ reader.place) ⊎ (other.place ≡ reader.place → ⊥) → IsFiled G (filed_all reader readers (modal_atoms (modal_at G reader))) other
        by (inl place) = subst (IsFiled G (filed_all reader readers (modal_atoms (modal_at G reader)))) (sym (same_reader other reader group place)) this
        by (inr apart) = earlier other has (inr (group, omega (arith, below_it, apart)))
