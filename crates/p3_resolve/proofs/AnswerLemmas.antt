-- A task without an offence has the numbers of its tables.
use Rattle.std.proofs.Common.{◌≡◌, ◌∙◌, ◌||◌, Bool, true, false, not, cond, List, [], ◌∷◌, map, Option, Some, None, refl, sym, ap, subst, true≢false}
use Rattle.std.specs.Prelude.{filter, option_map, All}
use Rattle.std.proofs.lemmas.Simd.{map-map}
use Rattle.std.proofs.lemmas.Slice.Eq.{bytes_eq-Decides}
use Rattle.std.specs.List.Sorted.{IsStrictlyIncreasing}
use Rattle.p3_base.specs.declared.refusal.Side.{Side}
use Rattle.p3_numbers.specs.Constraints.{constraint_of}
use Rattle.p3_numbers.specs.Goals.{goal_of}
use Rattle.p3_numbers.specs.Starts.{start_of, initial_values_of}
use Rattle.p3_numbers.specs.Tasks.{header_names, numbered_action}
use Rattle.p3_numbers.specs.declared.numbers.Numbers.{Numbers}
use Rattle.p3_numbers.specs.declared.task.NumberedTask.{NumberedTask}
use Rattle.p3_numbers.proofs.ScopeLemmas.{same-name}
use Rattle.p3_task.proofs.OnceLemmas.{nil_left, nil_right}
use Rattle.p3_task.proofs.OffenceLemmas.{well_formed_where_no_offence}
use Rattle.p3_task.specs.FirstOffence.{first_offence}
use Rattle.p3_task.specs.Names.{Name, same_name, has_name}
use Rattle.p3_task.specs.Offences.{WellFormed, domain_duplicates, problem_duplicates, header_words, repeated, repeated_after, unless}
use Rattle.p3_task.specs.Refusals.First.{refusal_of}
use Rattle.p3_task.specs.Types.{once_each}
use Rattle.p3_task.specs.declared.task.Header.{Header}
use Rattle.p3_task.specs.declared.task.Task.{Task}
use Rattle.p3_task.specs.declared.term.Ref.{Ref}
use Rattle.p3_resolve.proofs.CoverLemmas.{task-from}
use Rattle.p3_resolve.proofs.HavingLemmas.{numbers-rise}
use Rattle.p3_resolve.specs.Answers.{IsResolvedTask}
use Rattle.p3_resolve.specs.Listed.{task_lists}
use Rattle.p3_resolve.specs.Ranges.{AreNumbers, HaveRanges, lists_once}
use Rattle.p3_resolve.specs.NumbersOf.{numbers_of}
use Rattle.p3_resolve.specs.declared.tables.Tables.{Tables}

-- ---- names that are not repeated stand once each

passes : (seen : Bool) (word : Ref) → unless (not seen) word ≡ [] → seen ≡ false
passes true word none = absurd (cc)
passes false word none = refl

abbrev names : List Ref → List Name
names words = map (λ (word : Ref). word.name) words

module _ (seen : List Name) (word : Ref) (words : List Ref) (none : repeated_after seen (word ∷ words) ≡ []) where
  first-new : has_name seen word.name ≡ false
  first-new = passes (has_name seen word.name) word (nil_left (unless (not (has_name seen word.name)) word) (repeated_after (word.name ∷ seen) words) none)

  others-new : repeated_after (word.name ∷ seen) words ≡ []
  others-new = nil_right (unless (not (has_name seen word.name)) word) (repeated_after (word.name ∷ seen) words) none

or-true : (a : Bool) → (a || true) ≡ true
or-true true = refl
or-true false = refl

-- none of the names is one of those seen
names-new : (seen : List Name) (words : List Ref) → repeated_after seen words ≡ [] → (name : Name) → has_name seen name ≡ true → has_name (names words) name ≡ false
names-new seen [] none name has = refl
names-new seen (word ∷ words) none name has =
    by (same_name word.name name) refl
    (names-new (word.name ∷ seen) words (others-new seen word words none) name (ap (λ there. same_name word.name name || there) has ∙ or-true (same_name word.name name)))
  where
    by : (same : Bool) → same_name word.name name ≡ same → has_name (names words) name ≡ false → (same || has_name (names words) name) ≡ false
    by true is rest = absurd (true≢false (sym has ∙ ap (has_name seen) (sym ((bytes_eq-Decides word.name name).0 is)) ∙ first-new seen word words none))
    by false is rest = rest

filter-others : (name : Name) (others : List Name) → has_name others name ≡ false → filter (λ other. not (same_name other name)) others ≡ others
filter-others name [] none = refl
filter-others name (other ∷ others) none = by (same_name other name) none (filter-others name others)
  where
    by : (same : Bool) → (same || has_name others name) ≡ false → (has_name others name ≡ false → filter (λ one. not (same_name one name)) others ≡ others)
        → cond (not same) (other ∷ filter (λ one. not (same_name one name)) others) (filter (λ one. not (same_name one name)) others) ≡ other ∷ others
    by true none rest = absurd (true≢false none)
    by false none rest = ap (λ all. other ∷ all) (rest none)

once-same : (words : List Ref) (seen : List Name) → repeated_after seen words ≡ [] → once_each (names words) ≡ names words
once-same [] seen none = refl
once-same (word ∷ words) seen none =
    let rest = others-new seen word words none in
    ap (λ all. word.name ∷ filter (λ other. not (same_name other word.name)) all) (once-same words (word.name ∷ seen) rest)
    ∙ ap (λ all. word.name ∷ all) (filter-others word.name (names words) (names-new (word.name ∷ seen) words rest word.name (ap (λ same. same || has_name seen word.name) (same-name word.name))))

headers-once : (headers : List Header) → repeated (header_words headers) ≡ [] → header_names headers ≡ once_each (header_names headers)
headers-once headers none = sym (ap once_each same ∙ once-same (header_words headers) [] none ∙ sym same)
  where
    same : header_names headers ≡ names (header_words headers)
    same = sym (map-map (λ (word : Ref). word.name) (λ (header : Header). header.name) headers)

-- ---- without an offence

none-from : {A B : Type 0} (f : A → B) (found : Option A) → None ≡ option_map f found → found ≡ None
none-from f None none = refl
none-from f (Some x) none = absurd (cc)

module _ (T : Task) (well : WellFormed T) where
  predicates-new : repeated (header_words T.domain.predicates) ≡ []
  unfolding domain_duplicates
  predicates-new =
      nil_left _ _ (nil_left _ _ (nil_left _ _ (nil_left (domain_duplicates T.domain) (problem_duplicates T.problem) well.duplicates)))

  functions-new : repeated (header_words T.domain.functions) ≡ []
  unfolding domain_duplicates
  functions-new =
      nil_right _ _ (nil_left _ _ (nil_left _ _ (nil_left (domain_duplicates T.domain) (problem_duplicates T.problem) well.duplicates)))

pub resolved-from : (side : Side) (tables : Tables) (X : NumberedTask) (T : Task) → tables.task.now ≡ T → tables.lists.types ≡ lists_once (task_lists T) → HaveRanges T tables.lists.types tables.lists.ranges
    → None ≡ option_map (refusal_of side) (first_offence tables.task.now) → X.numbers ≡ numbers_of tables → X.actions ≡ map (numbered_action (numbers_of tables)) tables.task.now.domain.actions
    → X.domain_constraints ≡ constraint_of (numbers_of tables) tables.task.now.domain.constraints.body [] → X.problem_constraints ≡ constraint_of (numbers_of tables) tables.task.now.problem.constraints.body []
    → X.goal ≡ goal_of (numbers_of tables) tables.task.now.problem.goal.body [] → X.start ≡ start_of (numbers_of tables) tables.task.now → X.values ≡ initial_values_of (numbers_of tables) tables.task.now
    → IsResolvedTask T X
resolved-from side tables X T is types ranges none same actions domain problem goal start values =
    subst (λ (one : Task). IsResolvedTask one X) is (record {
      well_formed = well;
      numbered = task-from own N X same are actions domain problem goal start values;
      rising = subst (λ (numbers : Numbers). All IsStrictlyIncreasing numbers.ranges) (sym same) (numbers-rise own N are);
    })
  where
    own : Task
    own = tables.task.now

    N : Numbers
    N = numbers_of tables

    well : WellFormed own
    well = (well_formed_where_no_offence own).1 (none-from (refusal_of side) (first_offence own) none)

    are : AreNumbers own N
    are = record {
      names = record {
        predicates = headers-once own.domain.predicates (predicates-new own well);
        functions = headers-once own.domain.functions (functions-new own well);
        objects = refl;
        preferences = refl;
      };
      types = types ∙ ap (λ (one : Task). lists_once (task_lists one)) (sym is);
      ranges = subst (λ (one : Task). HaveRanges one tables.lists.types tables.lists.ranges) (sym is) ranges;
    }
