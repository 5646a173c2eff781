-- What files of facts tell of the newest variable.
use Rattle.std.proofs.Common.{◌≡◌, ◌∙◌, ℕ, ◌+◌, ◌<◌, ◌≤◌, ◌==◌, nat_lt, Bool, true, false, not, ◌&&◌, ◌||◌, List, [], ◌∷◌, ◌++◌, length, take, get_or, refl, sym, ap, arith, add-one, length-append, ⊎_elim}
use Rattle.std.specs.Prelude.{bytes_eq}
use Rattle.std.specs.List.{list_any, list_all}
use Rattle.std.proofs.Math.Seq.{get_or-append_seam}
use Rattle.std.proofs.lemmas.Bool.{and_parts, and_from, eqb-true, eq-eqb, ltb-true, false≢true, cases_eq}
use Rattle.std.proofs.lemmas.List.{get_or_default, get_or-map, get_or_append_left}
use Rattle.std.proofs.lemmas.List.Folds.{list_all_more, list_all_at}
use Rattle.std.proofs.lemmas.Slice.Eq.{bytes_eq-Decides}
use denote.Ref.{Bor}
use Rattle.p3_numbers.specs.Slots.{Slots, value_of, values_of}
use Rattle.p3_numbers.specs.declared.condition.NumberedArgument.{NumberedArgument}
use Rattle.p3_numbers.specs.declared.condition.NumberedArgument.TheVariants.{Slot, Object}
use Rattle.p3_numbers.specs.declared.condition.NumberedCondition.{NumberedCondition}
use Rattle.p3_numbers.specs.declared.goal.NumberedGoal.{NumberedGoal}
use Rattle.p3_numbers.specs.declared.numbers.Numbers.{Numbers}
use Rattle.p3_expansion.specs.Atoms.{GroundAtom, atom_at}
use Rattle.p3_expansion.specs.Statics.{is_static, is_decided}
use Rattle.p3_expansion.specs.declared.statics.Statics.{Statics}
use Rattle.p3_steps.specs.Conjuncts.{AreConjuncts}
use Rattle.p3_steps.specs.Links.{is_newest, is_older, is_ready, word_at, IsNewestPlace, IsKeyPlace, file_at, is_filed, AreFiled, Files, words_at, row_at, TellsOf, TellsOfAtom, Tells}
use Rattle.p3_steps.specs.Possible.{is_chosen, are_chosen, is_at_start, may_yet_be}
use Rattle.p3_steps.specs.declared.links.Links.{Links}

-- ---- values of arguments

newest-value : (object : ℕ) (slots : Slots) (arg : NumberedArgument) → is_newest (length slots) arg ≡ true → value_of (slots ++ object ∷ []) arg ≡ object
newest-value object slots (Slot place) is = ap (λ n. get_or (slots ++ object ∷ []) n 0) (eqb-true place (length slots) is) ∙ get_or-append_seam slots object [] 0
newest-value object slots (Object number) is = absurd (false≢true is)

older-value : (object : ℕ) (slots : Slots) (arg : NumberedArgument) → is_older (length slots) arg ≡ true → value_of (slots ++ object ∷ []) arg ≡ value_of slots arg
older-value object slots (Slot place) is = get_or_append_left slots (object ∷ []) 0 place (ltb-true place (length slots) is)
older-value object slots (Object number) is = refl

word-value : (predicate : ℕ) (slots : Slots) (args : List NumberedArgument) (place : ℕ) (arg : NumberedArgument) → place < length args → arg ≡ get_or args place arg
    → word_at (atom_at slots predicate args) (place + 1) ≡ value_of slots arg
word-value predicate slots args place arg within read =
    ap (word_at (atom_at slots predicate args)) (add-one place) ∙ get_or-map (value_of slots) args place arg 0 within ∙ ap (value_of slots) (sym read)

module _ (count : ℕ) (args : List NumberedArgument) (place : ℕ) (d : NumberedArgument) (within : place < length args) where
  read : get_or args place d ≡ get_or args place (get_or args place d)
  read = get_or_default args place d (get_or args place d) within

  pub newest-is : is_newest count (get_or args place d) ≡ true → IsNewestPlace count args (place + 1)
  newest-is is predicate object slots size =
      word-value predicate (slots ++ object ∷ []) args place (get_or args place d) within read ∙ newest-value object slots (get_or args place d) (ap (λ n. is_newest n (get_or args place d)) size ∙ is)

  pub older-is : is_older count (get_or args place d) ≡ true → IsKeyPlace count args (place + 1)
  older-is is predicate object slots size =
      word-value predicate (slots ++ object ∷ []) args place (get_or args place d) within read
      ∙ older-value object slots (get_or args place d) (ap (λ n. is_older n (get_or args place d)) size ∙ is)
      ∙ sym (word-value predicate slots args place (get_or args place d) within read)

-- with the newest variable's object the objects of all arguments are chosen, and have names where it has one
ready-chosen : (object : ℕ) (slots : Slots) (arg : NumberedArgument) → is_ready (length slots) arg ≡ true → is_chosen (slots ++ object ∷ []) arg ≡ true
ready-chosen object slots (Slot place) is = ap (nat_lt place) (length-append slots (object ∷ [])) ∙ is
ready-chosen object slots (Object number) is = refl

all-chosen : (object : ℕ) (slots : Slots) (args : List NumberedArgument) → list_all (is_ready (length slots)) args ≡ true → are_chosen (slots ++ object ∷ []) args ≡ true
all-chosen object slots [] ready = refl
all-chosen object slots (arg ∷ args) ready =
    let parts = and_parts (is_ready (length slots) arg) (list_all (is_ready (length slots)) args) ready in
    and_from (is_chosen (slots ++ object ∷ []) arg) (are_chosen (slots ++ object ∷ []) args) (ready-chosen object slots arg parts.0) (all-chosen object slots args parts.1)

module _ (N : Numbers) (object : ℕ) (named : nat_lt object (length N.objects) ≡ true) (slots : Slots) where
  value-named : (arg : NumberedArgument) → is_ready (length slots) arg ≡ true → nat_lt (value_of slots arg) (length N.objects) ≡ true → nat_lt (value_of (slots ++ object ∷ []) arg) (length N.objects) ≡ true
  value-named (Object number) ready is = is
  value-named (Slot place) ready is = ⊎_elim
      (λ same. ap (λ n. nat_lt n (length N.objects)) (ap (λ n. get_or (slots ++ object ∷ []) n 0) same ∙ get_or-append_seam slots object [] 0) ∙ named)
      (λ differ. ap (λ n. nat_lt n (length N.objects)) (get_or_append_left slots (object ∷ []) 0 place (let low = ltb-true place (length slots + 1) ready in omega (arith, low, differ))) ∙ is)
      (cases_eq place (length slots))

  values-named : (args : List NumberedArgument) → list_all (is_ready (length slots)) args ≡ true → list_all (λ one. nat_lt one (length N.objects)) (values_of slots args) ≡ true
      → list_all (λ one. nat_lt one (length N.objects)) (values_of (slots ++ object ∷ []) args) ≡ true
  values-named [] ready is = refl
  values-named (arg ∷ args) ready is =
      let here = and_parts (is_ready (length slots) arg) (list_all (is_ready (length slots)) args) ready in
      let parts = and_parts (nat_lt (value_of slots arg) (length N.objects)) (list_all (λ one. nat_lt one (length N.objects)) (values_of slots args)) is in
      and_from (nat_lt (value_of (slots ++ object ∷ []) arg) (length N.objects)) (list_all (λ one. nat_lt one (length N.objects)) (values_of (slots ++ object ∷ []) args))
      (value-named arg here.0 parts.0) (values-named args here.1 parts.1)

  decided-more : (S : Statics) (predicate : ℕ) (args : List NumberedArgument) → list_all (is_ready (length slots)) args ≡ true → is_decided N S (atom_at slots predicate args) ≡ true
      → is_decided N S (atom_at (slots ++ object ∷ []) predicate args) ≡ true
  decided-more S predicate args ready is =
      let parts = and_parts (is_static S predicate) (list_all (λ one. nat_lt one (length N.objects)) (values_of slots args)) is in
      and_from (is_static S predicate) (list_all (λ one. nat_lt one (length N.objects)) (values_of (slots ++ object ∷ []) args)) parts.0 (values-named args ready parts.1)

-- ---- files

all-weaker : {A : Type 0} (p q : A → Bool) → ((x : A) → p x ≡ true → q x ≡ true) → (xs : List A) → list_all p xs ≡ true → list_all q xs ≡ true
all-weaker p q weaker [] is = refl
all-weaker p q weaker (x ∷ xs) is = let parts = and_parts (p x) (list_all p xs) is in and_from (q x) (list_all q xs) (weaker x parts.0) (all-weaker p q weaker xs parts.1)

pub filed-more : (predicate key place : ℕ) (facts : List GroundAtom) (at : ℕ) (old new : List (List ℕ)) → at < length facts
    → AreFiled predicate key place (take at facts) old → Files predicate key place (get_or facts at []) old new → AreFiled predicate key place (take (at + 1) facts) new
filed-more predicate key place facts at old new within filed files =
    list_all_more (is_filed predicate key place new) facts at [] within
    ∙ and_from (list_all (is_filed predicate key place new) (take at facts)) _ (all-weaker (is_filed predicate key place old) (is_filed predicate key place new) files.kept (take at facts) filed) files.filed

-- ---- what they tell

-- what each of some passes, one of them passes
member-passes : (test : GroundAtom → Bool) (fact : GroundAtom) (facts : List GroundAtom) → list_all test facts ≡ true → list_any (bytes_eq fact) facts ≡ true → test fact ≡ true
member-passes test fact [] all is = absurd (false≢true is)
member-passes test fact (one ∷ facts) all is =
    let parts = and_parts (test one) (list_all test facts) all in
    by (bytes_eq fact one) refl is parts.0 (member-passes test fact facts parts.1)
  where
    by : (same : Bool) → bytes_eq fact one ≡ same → (same || list_any (bytes_eq fact) facts) ≡ true → test one ≡ true → (list_any (bytes_eq fact) facts ≡ true → test fact ≡ true) → test fact ≡ true
    by true same _ here _ = ap test ((bytes_eq-Decides fact one).0 same) ∙ here
    by false _ is _ rest = rest is

filed-found : (own below found : Bool) → own ≡ true → below ≡ true → (not own || (not below || found)) ≡ true → found ≡ true
filed-found own below found is low filed = (λ i. not (sym is i) || (not (sym low i) || found)) ∙ filed

module _ (N : Numbers) (S : Statics) (count place : ℕ) (links : Links) where
  pub tells-of-atom : list_all (is_ready count) links.args.now ≡ true → IsNewestPlace count links.args.now place → IsKeyPlace count links.args.now links.key
      → AreFiled links.predicate links.key place S.facts links.files.items → TellsOfAtom N S count links.predicate links.args.now links
  tells-of-atom ready newest keyed filed slots object size missing =
      let one = and_parts (is_decided N S (words_at links slots)) _ missing in
      let two = and_parts (nat_lt (word_at (words_at links slots) links.key) (length links.files.items)) _ one.1 in
      let three = and_parts (nat_lt object (length N.objects)) (not (list_any (λ one. one == object) (row_at links slots))) two.1 in
      let open_to : list_all (is_ready (length slots)) links.args.now ≡ true = ap (λ n. list_all (is_ready n) links.args.now) size ∙ ready in
      by (is_at_start S fact) refl (all-chosen object slots links.args.now open_to) (decided-more N object three.0 slots S links.predicate links.args.now open_to one.0) two.0 three.1
    where
      fact : GroundAtom
      fact = atom_at (slots ++ object ∷ []) links.predicate links.args.now

      by : (start : Bool) → list_any (bytes_eq (atom_at (slots ++ object ∷ []) links.predicate links.args.now)) S.facts ≡ start
          → are_chosen (slots ++ object ∷ []) links.args.now ≡ true → is_decided N S (atom_at (slots ++ object ∷ []) links.predicate links.args.now) ≡ true
          → nat_lt (word_at (words_at links slots) links.key) (length links.files.items) ≡ true
          → not (list_any (λ one. one == object) (row_at links slots)) ≡ true
          → (not (are_chosen (slots ++ object ∷ []) links.args.now && is_decided N S (atom_at (slots ++ object ∷ []) links.predicate links.args.now)) || is_at_start S (atom_at (slots ++ object ∷ []) links.predicate links.args.now)) ≡ false
      by false start chosen decided low absent = λ i. not (chosen i && decided i) || start i
      by true start chosen decided low absent =
          let atom = atom_at (slots ++ object ∷ []) links.predicate links.args.now in
          let number : word_at atom links.key ≡ word_at (words_at links slots) links.key = keyed links.predicate object slots size in
          let passes = member-passes (is_filed links.predicate links.key place links.files.items) atom S.facts filed start in
          let found = filed-found (word_at atom 0 == links.predicate) (nat_lt (word_at atom links.key) (length links.files.items)) _ (eq-eqb links.predicate links.predicate refl)
          (ap (λ n. nat_lt n (length links.files.items)) number ∙ low) passes
          in
          let here : list_any (λ one. one == object) (row_at links slots) ≡ true =
          (λ i. list_any (λ one. one == sym (newest links.predicate object slots size) i) (file_at links.files.items (sym number i))) ∙ found
          in
          absurd (false≢true (ap not (sym here) ∙ absent))

-- what is missing for a condition that `and` alone joins in a goal is missing for the goal
pub tells-goal : (N : Numbers) (S : Statics) (goal : NumberedGoal) (count : ℕ) (conjuncts : List (Bor NumberedCondition)) → AreConjuncts goal conjuncts → (i : ℕ) (one : Bor NumberedCondition) → i < length conjuncts → one ≡ get_or conjuncts i one
    → (links : Links) → TellsOf N S count one.now links → Tells N S goal count links
tells-goal N S goal count conjuncts are i one within read links tells slots object size missing =
    are N S (slots ++ object ∷ [])
    ∙ list_all_at (λ (conjunct : Bor NumberedCondition). may_yet_be N S (slots ++ object ∷ []) conjunct.now true) conjuncts i one within
    (ap (λ (conjunct : Bor NumberedCondition). may_yet_be N S (slots ++ object ∷ []) conjunct.now true) (sym read) ∙ tells slots object size missing)
