-- Ground atoms whose parts have names are told apart by their numbers.
use Rattle.std.proofs.Common.{◌≡◌, ◌∙◌, ℕ, ◌<◌, ◌==◌, nat_lt, Bool, true, List, [], ◌∷◌, length, Some, refl, sym, ap, subst, arith, zero, suc}
use Rattle.std.specs.Prelude.{bytes_eq}
use Rattle.std.specs.Bool.{one_answer}
use Rattle.std.specs.List.{list_all, list_any}
use Rattle.std.proofs.lemmas.Bool.{and_parts, or_left, or_right}
use Rattle.std.proofs.lemmas.Bool.Decides.{nat_tests, Decides-eqb}
use Rattle.std.proofs.lemmas.List.Sums.{passes_at_first}
use Rattle.std.proofs.lemmas.Option.{slice_get-get_or}
use Rattle.std.proofs.lemmas.Slice.Eq.{bytes_eq-Decides}
use Rattle.p3_task.specs.Names.{Name, same_name}
use Rattle.p3_task.specs.States.{same_fact}
use Rattle.p3_task.specs.declared.state.Fact.{Fact}
use Rattle.p3_task.specs.declared.task.Task.{Task}
use Rattle.p3_task.proofs.OnceLemmas.{AreOnce, each_once}
use Rattle.p3_task.proofs.StateLemmas.{same_fact-Decides}
use Rattle.p3_numbers.specs.Places.{number_in}
use Rattle.p3_numbers.specs.Slots.{name_at, object_names}
use Rattle.p3_numbers.specs.Tasks.{IsNumberedTask, header_names}
use Rattle.p3_numbers.specs.declared.numbers.Numbers.{Numbers}
use Rattle.p3_numbers.specs.declared.task.NumberedTask.{NumberedTask}
use Rattle.p3_numbers.proofs.PlaceLemmas.{first_within}
use Rattle.p3_expansion.specs.Atoms.{GroundAtom, fact_of, is_named}

-- no predicate and no object has two numbers
pub record NamesApart (N : Numbers) : Type 0 where
  pub predicates : (i j : ℕ) → i < length N.predicates → j < length N.predicates → name_at N.predicates i ≡ name_at N.predicates j → i ≡ j
  pub objects : (i j : ℕ) → i < length N.objects → j < length N.objects → name_at N.objects i ≡ name_at N.objects j → i ≡ j

once-places : (names : List Name) → AreOnce names → (i j : ℕ) → i < length names → j < length names → name_at names i ≡ name_at names j → i ≡ j
once-places names once i j a b same = once i j (name_at names j) (slice_get-get_or names i [] a ∙ ap Some same) (slice_get-get_or names j [] b)

pub names-apart : (T : Task) (X : NumberedTask) → IsNumberedTask T X → NamesApart X.numbers
names-apart T X numbered = record {
  predicates = once-places X.numbers.predicates (subst AreOnce (sym numbered.names.predicates) (each_once (header_names T.domain.predicates)));
  objects = numbered.numbering.distinct;
}

module _ (N : Numbers) (apart : NamesApart N) where
  same-objects : (first second : List ℕ) → list_all (λ object. nat_lt object (length N.objects)) first ≡ true → list_all (λ object. nat_lt object (length N.objects)) second ≡ true → object_names N first ≡ object_names N second → first ≡ second
  same-objects [] [] a b same = refl
  same-objects [] (y ∷ second) a b same = absurd (cc)
  same-objects (x ∷ first) [] a b same = absurd (cc)
  same-objects (x ∷ first) (y ∷ second) a b same =
      let one = and_parts (nat_lt x (length N.objects)) _ a in
      let other = and_parts (nat_lt y (length N.objects)) _ b in
      let heads : name_at N.objects x ≡ name_at N.objects y = cc in
      let tails : object_names N first ≡ object_names N second = cc in
      λ i. apart.objects x y (below x one.0) (below y other.0) heads i ∷ same-objects first second one.1 other.1 tails i
    where
      below : (object : ℕ) → nat_lt object (length N.objects) ≡ true → object < length N.objects
      below object test = grind (arith, nat_tests)

  pub one-atom : (first second : GroundAtom) → is_named N first ≡ true → is_named N second ≡ true → fact_of N first ≡ fact_of N second → first ≡ second
  one-atom [] second a b same = absurd (cc)
  one-atom (p ∷ first) [] a b same = absurd (cc)
  one-atom (p ∷ first) (q ∷ second) a b same =
      let one = and_parts (nat_lt p (length N.predicates)) _ a in
      let other = and_parts (nat_lt q (length N.predicates)) _ b in
      λ i. apart.predicates p q (below p one.0) (below q other.0) (ap (λ (fact : Fact). fact.name) same) i ∷ same-objects first second one.1 other.1 (ap (λ (fact : Fact). fact.args) same) i
    where
      below : (predicate : ℕ) → nat_lt predicate (length N.predicates) ≡ true → predicate < length N.predicates
      below predicate test = grind (arith, nat_tests)

  -- such atoms say the same where they are the same
  pub same-atoms : (first second : GroundAtom) → is_named N first ≡ true → is_named N second ≡ true → same_fact (fact_of N first) (fact_of N second) ≡ bytes_eq second first
  same-atoms first second a b =
      one_answer (same_fact (fact_of N first) (fact_of N second)) (bytes_eq second first) (same_fact-Decides (fact_of N first) (fact_of N second)) (
        (λ test. ap (fact_of N) (sym ((bytes_eq-Decides second first).0 test))),
        (λ same. (bytes_eq-Decides second first).1 (sym (one-atom first second a b same))),
      )

  -- the number of a name is that of a predicate where the names are the same
  pub same-predicate : (predicate : ℕ) (name : Name) → predicate < length N.predicates → (number_in N.predicates name == predicate) ≡ same_name name (name_at N.predicates predicate)
  same-predicate predicate name within =
      one_answer (number_in N.predicates name == predicate) (same_name name (name_at N.predicates predicate)) (Decides-eqb (number_in N.predicates name) predicate) (
        (λ test.
            let is : name ≡ name_at N.predicates predicate = (bytes_eq-Decides name (name_at N.predicates predicate)).0 test in
            let here : same_name (name_at N.predicates predicate) name ≡ true = (bytes_eq-Decides (name_at N.predicates predicate) name).1 (sym is) in
            let found : number_in N.predicates name < length N.predicates = first_within (λ other. same_name other name) N.predicates (any-at (λ other. same_name other name) N.predicates predicate within here) in
            apart.predicates (number_in N.predicates name) predicate found within ((bytes_eq-Decides (name_at N.predicates (number_in N.predicates name)) name).0 (passes_at_first (λ other. same_name other name) N.predicates [] found) ∙ is)),
        (λ is.
            let found : number_in N.predicates name < length N.predicates = subst (λ n. n < length N.predicates) (sym is) within in
            (bytes_eq-Decides name (name_at N.predicates predicate)).1 (sym ((bytes_eq-Decides (name_at N.predicates (number_in N.predicates name)) name).0 (passes_at_first (λ other. same_name other name) N.predicates [] found)) ∙ ap (name_at N.predicates) is)),
      )
    where
      any-at : (test : Name → Bool) (names : List Name) (place : ℕ) → place < length names → test (name_at names place) ≡ true → list_any test names ≡ true
      any-at test [] place within passes = absurd (omega arith)
      any-at test (first ∷ names) zero within passes = or_left (test first) (list_any test names) passes
      any-at test (first ∷ names) (suc place) within passes = or_right (test first) (list_any test names) (any-at test names place (omega arith) passes)
