-- The changes that stand for the literals of an effect make the next state, and are few.
use Rattle.std.proofs.Common.{◌≡◌, ◌∙◌, ℕ, ◌+◌, ◌<◌, ◌≤◌, ◌==◌, inl, inr, Bool, true, false, not, ◌&&◌, ◌||◌, cond, List, [], ◌∷◌, map, length, slice_get, Some, refl, sym, ap, subst, arith, zero, suc, true≢false}
use Rattle.std.specs.Prelude.{bytes_eq, count_by}
use Rattle.std.specs.Bool.{one_answer}
use Rattle.std.specs.List.{list_any, list_all}
use Rattle.std.specs.Option.{option_map_or}
use Rattle.std.proofs.lemmas.Bool.{and_parts, and_from, or_left, or_right}
use Rattle.std.proofs.lemmas.Bool.Decides.{Decides-eqb}
use Rattle.std.proofs.lemmas.List.{length-map}
use Rattle.std.proofs.lemmas.List.Folds.{list_all-map}
use Rattle.std.proofs.lemmas.List.Sums.{sum_by-cons}
use Rattle.std.proofs.lemmas.Slice.Eq.{bytes_eq-Decides}
use Rattle.p3_task.specs.Effects.{adds, dels}
use Rattle.p3_task.specs.Literals as named
use Rattle.p3_task.specs.Literals.{Literal, literals}
use Rattle.p3_task.specs.Formulas.{holds}
use Rattle.p3_task.specs.Names as names
use Rattle.p3_task.specs.States.{State, Environment, has_fact, same_fact}
use Rattle.p3_task.specs.declared.effect.Effect.{Effect}
use Rattle.p3_task.specs.declared.state.Fact.{Fact}
use Rattle.p3_task.specs.declared.task.Task.{Task}
use Rattle.p3_task.proofs.LiteralLaws.{adds-literals, dels-literals}
use Rattle.p3_task.proofs.OnceLemmas.{Some-injective}
use Rattle.p3_task.proofs.StateLemmas.{has_fact-next, same_fact-Decides}
use Rattle.p3_formula.specs.Forms.{truth}
use Rattle.p3_formula.specs.Next.{is_added, is_deleted}
use Rattle.p3_formula.specs.Simplified.{is_value}
use Rattle.p3_formula.specs.declared.form.Change.{Change}
use Rattle.p3_formula.proofs.NextLaws.{is_set-after}
use Rattle.p3_numbers.specs.Conditions.{met}
use Rattle.p3_numbers.specs.Effects.{NumberedLiteral, PlacedCondition, LiteralMeaning, numbered_literals, numbered_literal_meaning, literal_meaning, effect_of}
use Rattle.p3_numbers.specs.Places.{Variables, environment_of}
use Rattle.p3_numbers.specs.Slots.{Slots}
use Rattle.p3_numbers.specs.declared.effect.NumberedEffect.{NumberedEffect}
use Rattle.p3_numbers.specs.declared.numbers.Numbers.{Numbers}
use Rattle.p3_numbers.specs.declared.task.NumberedTask.{NumberedTask}
use Rattle.p3_numbers.proofs.EffectLaws.{literals-mean}
use Rattle.p3_expansion.specs.Atoms.{GroundAtom, fact_of, is_named, AreDistinct}
use Rattle.p3_expansion.specs.Changes.{GuardedLiteral, is_empty, guarded, guarded_literals, always, ChangeStands, IsIdle, ChangesStand}
use Rattle.p3_expansion.specs.Expansions.{Tells}
use Rattle.p3_expansion.specs.NextStates.{MakeNext, is_fact_of, AreFew, IsExpanded, ChangesMakeNext, ChangesAreFew}
use Rattle.p3_expansion.specs.Statics.{IsSettled}
use Rattle.p3_expansion.specs.declared.statics.Statics.{Statics}
use Rattle.p3_expansion.proofs.NameLemmas.{NamesApart, names-apart, same-atoms}

none : (picked other : Bool) → (picked && false && other) ≡ false
none true other = refl
none false other = refl

regroup : (first second third : Bool) → (first && second && third) ≡ (second && third && first)
regroup true true true = refl
regroup true true false = refl
regroup true false third = refl
regroup false true true = refl
regroup false true false = refl
regroup false false third = refl

pub all-at : {A : Type 0} (test : A → Bool) (xs : List A) (k : ℕ) (x : A) → list_all test xs ≡ true → slice_get xs k ≡ Some x → test x ≡ true
all-at test [] k x all here = absurd (cc)
all-at test (y ∷ xs) zero x all here = subst (λ one. test one ≡ true) (Some-injective y x here) (and_parts (test y) (list_all test xs) all).0
all-at test (y ∷ xs) (suc k) x all here = all-at test xs k x (and_parts (test y) (list_all test xs) all).1 here

pub within-get : {A : Type 0} (xs : List A) (k : ℕ) (x : A) → slice_get xs k ≡ Some x → k < length xs
within-get [] k x here = absurd (cc)
within-get (y ∷ xs) zero x here = omega arith
within-get (y ∷ xs) (suc k) x here = let rest : k < length xs = within-get xs k x here in omega (arith, rest)

count-cons : {A : Type 0} (test : A → Bool) (x : A) (xs : List A) → count_by test (x ∷ xs) ≡ cond (test x) 1 0 + count_by test xs
count-cons test x xs = sum_by-cons (λ x. cond (test x) 1 0) x xs

-- ---- of adds and deletes those that pass, at one atom

module _ (pick : Bool → Bool) (s : State) (fact : Fact) where
  abbrev seen : LiteralMeaning → Bool
  seen meant = pick meant.add && list_all (λ (holds : State → Bool). holds s) meant.conditions && same_fact meant.fact fact

  abbrev takes : Numbers → GuardedLiteral → Bool
  takes N literal = pick literal.add && literal.takes_place.test s && same_fact (fact_of N literal.atom) fact

  literals-seen : (N : Numbers) (found : List NumberedLiteral) → list_any (takes N) (map (guarded N always true) found) ≡ list_any seen (map (numbered_literal_meaning N) found)
  literals-seen N [] = refl
  literals-seen N (literal ∷ found) =
      λ i. (pick literal.add && sym (list_all-map (λ (holds : State → Bool). holds s) (λ (placed : PlacedCondition). λ s. met N s placed.slots placed.condition) literal.conditions) i && same_fact (fact_of N (literal.predicate ∷ literal.objects)) fact)
      || literals-seen N found i

  literals-named : (T : Task) (found : List Literal) → list_any seen (map (literal_meaning T) found) ≡ list_any (λ (literal : Literal). pick literal.add && named.takes_place T s literal && same_fact literal.fact fact) found
  literals-named T [] = refl
  literals-named T (literal ∷ found) =
      λ i. (pick literal.add && list_all-map (λ (holds : State → Bool). holds s) (λ (condition : named.Condition). λ s. holds T s condition.env condition.formula) literal.conditions i && same_fact literal.fact fact) || literals-named T found i

module _ (N : Numbers) (S : Statics) (atoms : List GroundAtom) (distinct : AreDistinct atoms) (apart : NamesApart N) (all_named : list_all (is_named N) atoms ≡ true) (s : State) (b : List Bool) (settled : IsSettled N S s) (tells : Tells N atoms s b) (k : ℕ) (atom : GroundAtom) (here : slice_get atoms k ≡ Some atom) where
  same-place : (number : ℕ) (other : GroundAtom) → slice_get atoms number ≡ Some other → (number == k) ≡ same_fact (fact_of N other) (fact_of N atom)
  same-place number other there =
      one_answer (number == k) (bytes_eq atom other) (Decides-eqb number k) (
        (λ test. distinct.one_number number k atom (there ∙ ap Some (sym ((bytes_eq-Decides atom other).0 test))) here),
        (λ is. (bytes_eq-Decides atom other).1 (Some-injective atom other (sym here ∙ ap (slice_get atoms) (sym is) ∙ there))),
      )
      ∙ sym (same-atoms N apart other atom (all-at (is_named N) atoms number other all_named there) (all-at (is_named N) atoms k atom all_named here))

  module _ (pick : Bool → Bool) where
    abbrev made_here : Change → Bool
    made_here change = (change.atom == k) && pick change.add && truth b change.cond

    abbrev takes_here : GuardedLiteral → Bool
    takes_here literal = takes pick s (fact_of N atom) N literal

    idle-here : (literal : GuardedLiteral) → IsIdle N S atoms literal → takes_here literal ≡ false
    idle-here literal idle = ap (λ place. pick literal.add && place && same_fact (fact_of N literal.atom) (fact_of N atom)) (idle.never s b settled tells) ∙ none (pick literal.add) (same_fact (fact_of N literal.atom) (fact_of N atom))

    stands-here : (literal : GuardedLiteral) (change : Change) → ChangeStands N S atoms literal change → made_here change ≡ takes_here literal
    stands-here literal change stands =
        regroup (change.atom == k) (pick change.add) (truth b change.cond) ∙ (λ i. pick (stands.add i) && stands.cond.truth s b settled tells i && same-place change.atom literal.atom stands.atom i)

    changes-here : (meant : List GuardedLiteral) (made : List Change) → ChangesStand N S atoms meant made → list_any made_here made ≡ list_any takes_here meant
    changes-here [] [] stand = refl
    changes-here [] (change ∷ made) stand = absurd stand
    changes-here (literal ∷ meant) [] stand = changes-here meant [] stand.1 ∙ sym (ap (λ first. first || list_any takes_here meant) (idle-here literal stand.0))
    changes-here (literal ∷ meant) (change ∷ made) (inl stand) = changes-here meant (change ∷ made) stand.1 ∙ sym (ap (λ first. first || list_any takes_here meant) (idle-here literal stand.0))
    changes-here (literal ∷ meant) (change ∷ made) (inr stand) = λ i. stands-here literal change stand.0 i || changes-here meant made stand.1 i

module _ (T : Task) (X : NumberedTask) (S : Statics) (atoms : List GroundAtom) (scope : Variables) (slots : Slots) (effect : Effect) (changes : List Change) (is : IsExpanded T X S atoms scope slots effect changes) where
  abbrev env : Environment
  env = environment_of X.numbers scope slots

  abbrev tree : NumberedEffect
  tree = effect_of X.numbers effect scope

  same-literals : map (numbered_literal_meaning X.numbers) (numbered_literals X.numbers slots tree) ≡ map (literal_meaning T) (literals T env effect)
  same-literals = literals-mean T X.numbers is.numbered.numbering effect scope slots is.fills is.known

  module _ (s : State) (b : List Bool) (settled : IsSettled X.numbers S s) (tells : Tells X.numbers atoms s b) (k : ℕ) (atom : GroundAtom) (here : slice_get atoms k ≡ Some atom) where
    picked : (pick : Bool → Bool) → list_any (λ (change : Change). (change.atom == k) && pick change.add && truth b change.cond) changes
        ≡ list_any (λ (literal : Literal). pick literal.add && named.takes_place T s literal && same_fact literal.fact (fact_of X.numbers atom)) (literals T env effect)
    picked pick =
        changes-here X.numbers S atoms is.distinct (names-apart T X is.numbered) is.named s b settled tells k atom here pick (guarded_literals X.numbers always true slots tree) changes is.stand
        ∙ literals-seen pick s (fact_of X.numbers atom) X.numbers (numbered_literals X.numbers slots tree)
        ∙ ap (list_any (seen pick s (fact_of X.numbers atom))) same-literals
        ∙ literals-named pick s (fact_of X.numbers atom) T (literals T env effect)

    added-is : is_added b changes k ≡ has_fact (adds T s env effect) (fact_of X.numbers atom)
    added-is = picked (λ add. add) ∙ sym (adds-literals T s (fact_of X.numbers atom) effect env)

    deleted-is : is_deleted b changes k ≡ has_fact (dels T s env effect) (fact_of X.numbers atom)
    deleted-is = picked not ∙ sym (dels-literals T s (fact_of X.numbers atom) effect env)

  make-next : MakeNext T X.numbers S atoms env effect changes
  make-next s b settled count tells = record {
    bit = λ k atom here.
        is_set-after b changes k (omega (arith, within-get atoms k atom here, count))
        ∙ (λ i. added-is s b settled tells k atom here i || (tells.bit k atom here i && not (deleted-is s b settled tells k atom here i)))
        ∙ sym (has_fact-next T s env effect (fact_of X.numbers atom));
  }

pub changes-make-next : ChangesMakeNext
changes-make-next = make-next

-- ---- they are few

module _ (N : Numbers) (S : Statics) (atoms : List GroundAtom) where
  own-by : (those : List Fact) (meant : List GuardedLiteral) (made : List Change) → ChangesStand N S atoms meant made → list_all (λ (literal : GuardedLiteral). has_fact those (fact_of N literal.atom)) meant ≡ true
      → list_all (λ (change : Change). is_fact_of N atoms those change.atom) made ≡ true
  own-by those [] [] stand all = refl
  own-by those [] (change ∷ made) stand all = absurd stand
  own-by those (literal ∷ meant) [] stand all = refl
  own-by those (literal ∷ meant) (change ∷ made) (inl stand) all = own-by those meant (change ∷ made) stand.1 (and_parts (has_fact those (fact_of N literal.atom)) _ all).1
  own-by those (literal ∷ meant) (change ∷ made) (inr stand) all =
      let parts = and_parts (has_fact those (fact_of N literal.atom)) _ all in
      and_from (is_fact_of N atoms those change.atom) _ (ap (λ found. option_map_or (λ atom. has_fact those (fact_of N atom)) found false) stand.0.atom ∙ parts.0) (own-by those meant made stand.1 parts.1)

  few-changes : (meant : List GuardedLiteral) (made : List Change) → ChangesStand N S atoms meant made → length made ≤ length meant
  few-changes [] [] stand = omega arith
  few-changes [] (change ∷ made) stand = absurd stand
  few-changes (literal ∷ meant) [] stand = omega arith
  few-changes (literal ∷ meant) (change ∷ made) (inl stand) = let rest = few-changes meant (change ∷ made) stand.1 in omega (arith, rest)
  few-changes (literal ∷ meant) (change ∷ made) (inr stand) = let rest = few-changes meant made stand.1 in omega (arith, rest)

  abbrev conditional : Change → Bool
  conditional change = not (is_value true change.cond)

  abbrev under_when : GuardedLiteral → Bool
  under_when literal = not literal.is_free

  one-conditional : (first free : Bool) → (free ≡ true → first ≡ false) → cond first 1 0 ≤ cond (not free) 1 0
  one-conditional true true implied = absurd (true≢false (implied refl))
  one-conditional true false implied = omega arith
  one-conditional false true implied = omega arith
  one-conditional false false implied = omega arith

  one-more : (first : Bool) (count : ℕ) → count ≤ cond first 1 0 + count
  one-more true count = omega arith
  one-more false count = omega arith

  few-conditional : (meant : List GuardedLiteral) (made : List Change) → ChangesStand N S atoms meant made → count_by conditional made ≤ count_by under_when meant
  few-conditional [] [] stand = omega arith
  few-conditional [] (change ∷ made) stand = absurd stand
  few-conditional (literal ∷ meant) [] stand = omega arith
  few-conditional (literal ∷ meant) (change ∷ made) (inl stand) =
      let rest = few-conditional meant (change ∷ made) stand.1 in
      let more = one-more (under_when literal) (count_by under_when meant) in
      let all = count-cons under_when literal meant in
      omega (arith, rest, more, all)
  few-conditional (literal ∷ meant) (change ∷ made) (inr stand) =
      let rest = few-conditional meant made stand.1 in
      let one = one-conditional (conditional change) literal.is_free (λ free. ap (λ form. not (is_value true form)) (stand.0.free free)) in
      let first = count-cons conditional change made in
      let second = count-cons under_when literal meant in
      omega (arith, rest, one, first, second)

pub own-facts : (those facts : List Fact) → ((fact : Fact) → has_fact facts fact ≡ true → has_fact those fact ≡ true) → list_all (has_fact those) facts ≡ true
own-facts those [] among = refl
own-facts those (first ∷ facts) among =
    and_from (has_fact those first) _ (among first (or_left (same_fact first first) (has_fact facts first) ((same_fact-Decides first first).1 refl))) (own-facts those facts (λ fact e. among fact (or_right (same_fact first fact) (has_fact facts fact) e)))

guarded-facts : (N : Numbers) (found : List NumberedLiteral) → map (λ (literal : GuardedLiteral). fact_of N literal.atom) (map (guarded N always true) found) ≡ map (λ (meant : LiteralMeaning). meant.fact) (map (numbered_literal_meaning N) found)
guarded-facts N [] = refl
guarded-facts N (literal ∷ found) = ap (λ rest. fact_of N (literal.predicate ∷ literal.objects) ∷ rest) (guarded-facts N found)

meant-facts : (T : Task) (found : List Literal) → map (λ (meant : LiteralMeaning). meant.fact) (map (literal_meaning T) found) ≡ map (λ (literal : Literal). literal.fact) found
meant-facts T [] = refl
meant-facts T (literal ∷ found) = ap (λ rest. literal.fact ∷ rest) (meant-facts T found)

abbrev is_seen_under : LiteralMeaning → Bool
is_seen_under meant = not (names.is_empty meant.conditions)

guarded-under : (N : Numbers) (found : List NumberedLiteral) → count_by (λ (literal : GuardedLiteral). not literal.is_free) (map (guarded N always true) found) ≡ count_by is_seen_under (map (numbered_literal_meaning N) found)
guarded-under N [] = refl
guarded-under N (literal ∷ found) =
    count-cons (λ (literal : GuardedLiteral). not literal.is_free) (guarded N always true literal) (map (guarded N always true) found) ∙ (λ i. cond (not (same literal.conditions i)) 1 0 + guarded-under N found i)
    ∙ sym (count-cons is_seen_under (numbered_literal_meaning N literal) (map (numbered_literal_meaning N) found))
  where
    same : (conditions : List PlacedCondition) → is_empty conditions ≡ names.is_empty {A = State → Bool} (map (λ (placed : PlacedCondition). λ s. met N s placed.slots placed.condition) conditions)
    same [] = refl
    same (condition ∷ conditions) = refl

meant-under : (T : Task) (found : List Literal) → count_by is_seen_under (map (literal_meaning T) found) ≡ count_by (λ (literal : Literal). not (names.is_empty literal.conditions)) found
meant-under T [] = refl
meant-under T (literal ∷ found) =
    count-cons is_seen_under (literal_meaning T literal) (map (literal_meaning T) found) ∙ (λ i. cond (not (same literal.conditions i)) 1 0 + meant-under T found i)
    ∙ sym (count-cons (λ (literal : Literal). not (names.is_empty literal.conditions)) literal found)
  where
    same : (conditions : List named.Condition) → names.is_empty {A = State → Bool} (map (λ (condition : named.Condition). λ s. holds T s condition.env condition.formula) conditions) ≡ names.is_empty conditions
    same [] = refl
    same (condition ∷ conditions) = refl

module _ (T : Task) (X : NumberedTask) (S : Statics) (atoms : List GroundAtom) (scope : Variables) (slots : Slots) (effect : Effect) (changes : List Change) (is : IsExpanded T X S atoms scope slots effect changes) where
  abbrev found : List NumberedLiteral
  found = numbered_literals X.numbers slots (effect_of X.numbers effect scope)

  abbrev those : List Literal
  those = literals T (environment_of X.numbers scope slots) effect

  same-facts : map (λ (literal : GuardedLiteral). fact_of X.numbers literal.atom) (map (guarded X.numbers always true) found) ≡ map (λ (literal : Literal). literal.fact) those
  same-facts = guarded-facts X.numbers found ∙ ap (map (λ (meant : LiteralMeaning). meant.fact)) (same-literals T X S atoms scope slots effect changes is) ∙ meant-facts T those

  same-count : length (guarded_literals X.numbers always true slots (effect_of X.numbers effect scope)) ≡ length those
  same-count =
      length-map found (guarded X.numbers always true) ∙ sym (length-map found (numbered_literal_meaning X.numbers))
      ∙ ap length (same-literals T X S atoms scope slots effect changes is) ∙ length-map those (literal_meaning T)

  same-under : count_by (λ (literal : GuardedLiteral). not literal.is_free) (map (guarded X.numbers always true) found) ≡ count_by (λ (literal : Literal). not (names.is_empty literal.conditions)) those
  same-under = guarded-under X.numbers found ∙ ap (count_by is_seen_under) (same-literals T X S atoms scope slots effect changes is) ∙ meant-under T those

  are-few : AreFew T X.numbers atoms (environment_of X.numbers scope slots) effect changes
  are-few = record {
    own =
        own-by X.numbers S atoms (map (λ (literal : Literal). literal.fact) those) (map (guarded X.numbers always true) found) changes is.stand
        (
        sym (list_all-map (has_fact (map (λ (literal : Literal). literal.fact) those)) (λ (literal : GuardedLiteral). fact_of X.numbers literal.atom) (map (guarded X.numbers always true) found))
        ∙ ap (list_all (has_fact (map (λ (literal : Literal). literal.fact) those))) same-facts
        ∙ own-facts (map (λ (literal : Literal). literal.fact) those) (map (λ (literal : Literal). literal.fact) those) (λ fact e. e)
        );
    all = subst (λ n. length changes ≤ n) same-count (few-changes X.numbers S atoms (map (guarded X.numbers always true) found) changes is.stand);
    conditional = subst (λ n. count_by (λ (change : Change). not (is_value true change.cond)) changes ≤ n) same-under (few-conditional X.numbers S atoms (map (guarded X.numbers always true) found) changes is.stand);
  }

pub changes-are-few : ChangesAreFew
changes-are-few = are-few
