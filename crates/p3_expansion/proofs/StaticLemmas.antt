-- Which predicates effects name, and that what no effect names is as at the start.
use Rattle.std.proofs.Common.{◌≡◌, ◌∙◌, ℕ, ◌<◌, ◌==◌, nat_lt, Bool, true, false, not, ◌&&◌, ◌||◌, if◌then◌else◌, List, [], ◌∷◌, ◌++◌, map, length, refl, sym, ap, subst, arith, zero, suc, true≢false}
use Rattle.std.specs.Prelude.{flat_map, fold, replicate, slice_set, slice_index_or, bytes_eq}
use Rattle.std.specs.List.{list_any, list_all}
use Rattle.std.proofs.Math.Bool.{or-true, or-false, or_assoc}
use Rattle.std.proofs.lemmas.Bool.{and_parts, and_from, lt-ltb}
use Rattle.std.proofs.lemmas.Bool.Decides.{Decides-eqb, nat_tests}
use Rattle.std.proofs.lemmas.List.{get_or-set_same, get_or-set_other, get_or-replicate, length-replicate, map-append}
use Rattle.std.proofs.lemmas.List.Folds.{flat_map-map, list_any-append}
use Rattle.std.proofs.lemmas.Option.{get_or_from_slice_get}
use Rattle.std.proofs.lemmas.Slice.Eq.{bytes_eq-Decides}
use denote.Hole.Carrier.{hidden}
use mathlib.Core.Former.{Count}
use Rattle.p3_task.specs.Folds as named_fold
use Rattle.p3_task.specs.Names.{Name, has_name}
use Rattle.p3_task.specs.Offences.{WellFormed}
use Rattle.p3_task.specs.Plans.{Reached}
use Rattle.p3_task.specs.States.{State, has_fact, start}
use Rattle.p3_task.specs.Static as named
use Rattle.p3_task.specs.Static.{changed, changed_names}
use Rattle.p3_task.specs.declared.effect.Effect.{Effect, Row_of-Effect, end_of-Effect, more_of-Effect}
use Rattle.p3_task.specs.declared.effect.Effect.TheVariants as tree
use Rattle.p3_task.specs.declared.task.Action.{Action}
use Rattle.p3_task.specs.declared.task.Task.{Task}
use Rattle.p3_task.proofs.OnceLemmas.{map_at}
use Rattle.p3_task.proofs.StaticLaws.{settled-reached}
use Rattle.p3_formula.proofs.FormLemmas.{list_any-map}
use Rattle.p3_numbers.specs.Conditions.{condition_of}
use Rattle.p3_numbers.specs.Effects.{effect_layer, effect_of}
use Rattle.p3_numbers.specs.Folds.{fold_effect}
use Rattle.p3_numbers.specs.Places.{Variables, number_in, ranges_of, words_of}
use Rattle.p3_numbers.specs.Slots.{name_at}
use Rattle.p3_numbers.specs.Starts.{fact_by}
use Rattle.p3_numbers.specs.Tasks.{IsNumberedTask, numbered_action}
use Rattle.p3_numbers.specs.declared.condition.NumberedArgument.{NumberedArgument}
use Rattle.p3_numbers.specs.declared.condition.NumberedCondition.{NumberedCondition}
use Rattle.p3_numbers.specs.declared.effect.NumberedAmount.{NumberedAmount}
use Rattle.p3_numbers.specs.declared.effect.NumberedEffect.{NumberedEffect}
use Rattle.p3_numbers.specs.declared.effect.NumberedEffect.TheBlock.{hidden-the_row-NumberedEffect-1}
use Rattle.p3_numbers.specs.declared.effect.NumberedEffect.TheVariants.{Add, Del, All, Each, If, Cost}
use Rattle.p3_numbers.specs.declared.numbers.Numbers.{Numbers}
use Rattle.p3_numbers.specs.declared.task.NumberedAction.{NumberedAction}
use Rattle.p3_numbers.specs.declared.task.NumberedFact.{NumberedFact}
use Rattle.p3_numbers.specs.declared.task.NumberedTask.{NumberedTask}
use Rattle.p3_numbers.proofs.StartLaws.{start-means}
use Rattle.p3_expansion.specs.Atoms.{GroundAtom, fact_of, is_named, are_named, with_atom}
use Rattle.p3_expansion.specs.Expansions.{Tells}
use Rattle.p3_expansion.specs.Statics.{is_static, is_decided, IsSettled, changed_layer, changed_predicates, task_predicates, marked, atom_of, start_bits, AreStatics, TellStatics}
use Rattle.p3_expansion.specs.declared.statics.Statics.{Statics}
use Rattle.p3_expansion.proofs.EffectLemmas.{hidden_effects}
use Rattle.p3_expansion.proofs.NameLemmas.{NamesApart, names-apart, same-atoms, same-predicate}
use Rattle.p3_expansion.proofs.NamedAtoms.{start-named}
use Rattle.p3_expansion.proofs.NextLemmas.{all-at}
use Rattle.p3_expansion.proofs.TaskLemmas.{known}

-- ---- the predicates of an effect that is built of given parts

pub predicates-Add : (predicate : ℕ) (args : List NumberedArgument) → changed_predicates (Add predicate args) ≡ predicate ∷ []
unfolding changed_predicates
predicates-Add predicate args = refl

pub predicates-Del : (predicate : ℕ) (args : List NumberedArgument) → changed_predicates (Del predicate args) ≡ predicate ∷ []
unfolding changed_predicates
predicates-Del predicate args = refl

pub predicates-All : (parts : List NumberedEffect) → changed_predicates (All parts) ≡ flat_map changed_predicates parts
unfolding changed_predicates
predicates-All parts = ap (flat_map (λ part. part)) (hidden_effects changed_layer parts) ∙ flat_map-map (λ part. part) (fold_effect changed_layer) parts

pub predicates-Each : (ranges : List ℕ) (body : NumberedEffect) → changed_predicates (Each ranges body) ≡ changed_predicates body
unfolding changed_predicates hidden-the_row-NumberedEffect-1 hidden
predicates-Each ranges body = refl

pub predicates-If : (condition : NumberedCondition) (body : NumberedEffect) → changed_predicates (If condition body) ≡ changed_predicates body
unfolding changed_predicates hidden-the_row-NumberedEffect-1 hidden
predicates-If condition body = refl

pub predicates-Cost : (amount : NumberedAmount) → changed_predicates (Cost amount) ≡ []
unfolding changed_predicates
predicates-Cost amount = refl

-- ---- they are the numbers of those that the effect names

joined_numbers : {A : Type 0} (f : Name → ℕ) (g : A → List Name) (xs : List A) → flat_map (λ x. map f (g x)) xs ≡ map f (flat_map g xs)
joined_numbers f g [] = refl
joined_numbers f g (x ∷ xs) = ap (λ rest. map f (g x) ++ rest) (joined_numbers f g xs) ∙ sym (map-append f (g x) (flat_map g xs))

module _ (N : Numbers) where
  abbrev number : Name → ℕ
  number name = number_in N.predicates name

  mutual
    unfolding changed changed_predicates effect_of

    predicates-named : (effect : Effect) (scope : Variables) → changed_predicates (effect_of N effect scope) ≡ map number (changed effect)
    predicates-named (tree.Add pred args) scope = refl
    predicates-named (tree.Del pred args) scope = refl
    predicates-named (tree.All' _ parts) scope =
        let made = map (λ part. part scope) (named_fold.fold_effects (effect_layer N) parts) in
        predicates-All made ∙ sym (flat_map-map (λ found. found) changed_predicates made) ∙ ap (flat_map (λ found. found)) (all-named parts scope)
        ∙ flat_map-map (λ found. found) (map number) (named_fold.fold_effects named.changed_layer parts) ∙ joined_numbers number (λ part. part) (named_fold.fold_effects named.changed_layer parts)
    predicates-named (tree.Each' variables _ (more_of-Effect body _)) scope = predicates-Each (ranges_of N variables) (effect_of N body (scope ++ words_of variables)) ∙ predicates-named body (scope ++ words_of variables)
    predicates-named (tree.If' formula _ (more_of-Effect body _)) scope = predicates-If (condition_of N formula scope) (effect_of N body scope) ∙ predicates-named body scope
    predicates-named (tree.Cost at increase) scope = refl

    all-named : {n : Count} (parts : Row_of-Effect n) (scope : Variables) → map changed_predicates (map (λ part. part scope) (named_fold.fold_effects (effect_layer N) parts)) ≡ map (map number) (named_fold.fold_effects named.changed_layer parts)
    all-named end_of-Effect scope = refl
    all-named (more_of-Effect part rest) scope = λ i. predicates-named part scope i ∷ all-named rest scope i

  task-named : (actions : List Action) → flat_map (λ (action : NumberedAction). changed_predicates action.effect) (map (numbered_action N) actions) ≡ map number (flat_map (λ (action : Action). changed action.effect.body) actions)
  task-named actions =
      flat_map-map (λ (action : NumberedAction). changed_predicates action.effect) (numbered_action N) actions ∙ each actions
      ∙ joined_numbers number (λ (action : Action). changed action.effect.body) actions
    where
      each : (actions : List Action) → flat_map (λ (action : Action). changed_predicates (effect_of N action.effect.body (words_of action.params))) actions ≡ flat_map (λ (action : Action). map number (changed action.effect.body)) actions
      each [] = refl
      each (action ∷ actions) = λ i. predicates-named action.effect.body (words_of action.params) i ++ each actions i

-- ---- marks

length-set : (bits : List Bool) (number : ℕ) → length (slice_set bits number true) ≡ length bits
length-set [] number = refl
length-set (bit ∷ bits) zero = refl
length-set (bit ∷ bits) (suc number) = ap suc (length-set bits number)

length-marked : (bits : List Bool) (numbers : List ℕ) → length (marked bits numbers) ≡ length bits
length-marked bits [] = refl
length-marked bits (number ∷ numbers) = length-marked (slice_set bits number true) numbers ∙ length-set bits number

marked-at : (bits : List Bool) (numbers : List ℕ) (place : ℕ) → place < length bits → slice_index_or (marked bits numbers) place false ≡ (slice_index_or bits place false || list_any (λ number. number == place) numbers)
marked-at bits [] place within = sym (or-false (slice_index_or bits place false))
marked-at bits (number ∷ numbers) place within =
    marked-at (slice_set bits number true) numbers place (subst (λ n. place < n) (sym (length-set bits number)) within)
    ∙ ap (λ bit. bit || list_any (λ other. other == place) numbers) (by (number == place) refl) ∙ or_assoc (slice_index_or bits place false) (number == place) (list_any (λ other. other == place) numbers)
  where
    by : (same : Bool) → (number == place) ≡ same → slice_index_or (slice_set bits number true) place false ≡ (slice_index_or bits place false || (number == place))
    by true is =
        let one : number ≡ place = (Decides-eqb number place).0 is in
        subst (λ n. slice_index_or (slice_set bits n true) place false ≡ true) (sym one) (get_or-set_same bits place true false within) ∙ sym (ap (λ t. slice_index_or bits place false || t) is ∙ or-true (slice_index_or bits place false))
    by false is = get_or-set_other bits number place true false (λ one. true≢false (sym ((Decides-eqb number place).1 (sym one)) ∙ is)) ∙ sym (ap (λ t. slice_index_or bits place false || t) is ∙ or-false (slice_index_or bits place false))

-- ---- atoms of the start

found-with : (atom : GroundAtom) (atoms more : List GroundAtom) → list_any (bytes_eq atom) (fold with_atom atoms more) ≡ (list_any (bytes_eq atom) atoms || list_any (bytes_eq atom) more)
found-with atom atoms [] = sym (or-false (list_any (bytes_eq atom) atoms))
found-with atom atoms (first ∷ more) =
    found-with atom (with_atom atoms first) more
    ∙ ap (λ found. found || list_any (bytes_eq atom) more) (by (list_any (bytes_eq first) atoms) refl) ∙ or_assoc (list_any (bytes_eq atom) atoms) (bytes_eq atom first) (list_any (bytes_eq atom) more)
  where
    there : (atoms : List GroundAtom) → list_any (bytes_eq first) atoms ≡ true → bytes_eq atom first ≡ true → list_any (bytes_eq atom) atoms ≡ true
    there atoms found same = subst (λ one. list_any (bytes_eq one) atoms ≡ true) (sym ((bytes_eq-Decides atom first).0 same)) found

    known_already : (here same : Bool) → (same ≡ true → here ≡ true) → here ≡ (here || same)
    known_already true same implied = refl
    known_already false true implied = implied refl
    known_already false false implied = refl

    by : (found : Bool) → list_any (bytes_eq first) atoms ≡ found → list_any (bytes_eq atom) (if found then atoms else (atoms ++ first ∷ [])) ≡ (list_any (bytes_eq atom) atoms || bytes_eq atom first)
    by true is = known_already (list_any (bytes_eq atom) atoms) (bytes_eq atom first) (there atoms is)
    by false is = list_any-append (bytes_eq atom) atoms (first ∷ []) ∙ ap (λ last. list_any (bytes_eq atom) atoms || last) (or-false (bytes_eq atom first))

module _ (N : Numbers) (apart : NamesApart N) where
  facts-found : (atom : GroundAtom) → is_named N atom ≡ true → (facts : List NumberedFact) → list_all (λ fact. is_named N (atom_of fact)) facts ≡ true → has_fact (map (fact_by N) facts) (fact_of N atom) ≡ list_any (bytes_eq atom) (map atom_of facts)
  facts-found atom named [] all = refl
  facts-found atom named (fact ∷ facts) all =
      let parts = and_parts (is_named N (atom_of fact)) _ all in
      λ i. same-atoms N apart (atom_of fact) atom parts.0 named i || facts-found atom named facts parts.1 i

-- ---- what they tell of a task

module _ (T : Task) (X : NumberedTask) (S : Statics) (well : WellFormed T) (numbered : IsNumberedTask T X) (are : AreStatics X S) where
  apart : NamesApart X.numbers
  apart = names-apart T X numbered

  predicates-of-task : task_predicates X ≡ map (number_in X.numbers.predicates) (changed_names T)
  predicates-of-task = ap (flat_map (λ (action : NumberedAction). changed_predicates action.effect)) numbered.actions ∙ task-named X.numbers T.domain.actions

  length-changed : length S.changed ≡ length X.numbers.predicates
  length-changed = ap length are.changed ∙ length-marked (replicate (length X.numbers.predicates) false) (task_predicates X) ∙ length-replicate (length X.numbers.predicates) false

  marks : (predicate : ℕ) → predicate < length X.numbers.predicates → slice_index_or S.changed predicate false ≡ has_name (changed_names T) (name_at X.numbers.predicates predicate)
  marks predicate within =
      ap (λ bits. slice_index_or bits predicate false) are.changed
      ∙ marked-at (replicate (length X.numbers.predicates) false) (task_predicates X) predicate (subst (λ n. predicate < n) (sym (length-replicate (length X.numbers.predicates) false)) within)
      ∙ (λ i. get_or-replicate (length X.numbers.predicates) predicate false false within i || list_any (λ number. number == predicate) (predicates-of-task i))
      ∙ list_any-map (λ number. number == predicate) (number_in X.numbers.predicates) (changed_names T)
      ∙ each (changed_names T)
    where
      each : (names : List Name) → list_any (λ name. number_in X.numbers.predicates name == predicate) names ≡ has_name names (name_at X.numbers.predicates predicate)
      each [] = refl
      each (name ∷ names) = λ i. same-predicate X.numbers apart predicate name within i || each names i

  static-is : (predicate : ℕ) → predicate < length X.numbers.predicates → is_static S predicate ≡ named.is_static T (name_at X.numbers.predicates predicate)
  static-is predicate within = (λ i. below i && not (marks predicate within i))
    where
      below : nat_lt predicate (length S.changed) ≡ true
      below = lt-ltb predicate (length S.changed) (subst (λ n. predicate < n) (sym length-changed) within)

  -- what is said of the start
  at-start : (atom : GroundAtom) → is_named X.numbers atom ≡ true → has_fact (start T) (fact_of X.numbers atom) ≡ list_any (bytes_eq atom) S.facts
  at-start atom is =
      ap (λ state. has_fact state (fact_of X.numbers atom)) (sym (ap (map (fact_by X.numbers)) numbered.start ∙ start-means T X.numbers (known T X well numbered).initial))
      ∙ facts-found X.numbers apart atom is X.start (subst (λ facts. list_all (λ fact. is_named X.numbers (atom_of fact)) facts ≡ true) (sym numbered.start) (start-named T X.numbers (known T X well numbered).initial))
      ∙ sym (ap (list_any (bytes_eq atom)) are.facts ∙ found-with atom [] (map atom_of X.start))

  settles : (s : State) → Reached T s → IsSettled X.numbers S s
  settles s reached = record { same = same }
    where
      from-test : (a b : ℕ) → nat_lt a b ≡ true → a < b
      from-test a b test = grind (arith, nat_tests)

      same : (atom : GroundAtom) → is_decided X.numbers S atom ≡ true → has_fact s (fact_of X.numbers atom) ≡ list_any (bytes_eq atom) S.facts
      same [] decided = absurd (cc)
      same (predicate ∷ objects) decided =
          let parts = and_parts (is_static S predicate) (list_all (λ object. nat_lt object (length X.numbers.objects)) objects) decided in
          let place = and_parts (nat_lt predicate (length S.changed)) (not (slice_index_or S.changed predicate false)) parts.0 in
          let within : predicate < length X.numbers.predicates = subst (λ n. predicate < n) length-changed (from-test predicate (length S.changed) place.0) in
          let is : is_named X.numbers (predicate ∷ objects) ≡ true = and_from (nat_lt predicate (length X.numbers.predicates)) _ (lt-ltb predicate (length X.numbers.predicates) within) parts.1 in
          settled-reached T s reached (fact_of X.numbers (predicate ∷ objects)) (sym (static-is predicate within) ∙ parts.0) ∙ at-start (predicate ∷ objects) is

  pub start-told : (atoms : List GroundAtom) → are_named X.numbers atoms ≡ true → Tells X.numbers atoms (start T) (start_bits S atoms)
  start-told atoms all = record {
    bit = λ k atom here.
        get_or_from_slice_get (start_bits S atoms) k (list_any (bytes_eq atom) S.facts) false (map_at (λ atom. list_any (bytes_eq atom) S.facts) atoms k atom here) ∙ sym (at-start atom (all-at (is_named X.numbers) atoms k atom all here));
  }

  pub tell-statics : TellStatics T X.numbers S
  tell-statics = record { static = static-is; settled = settles }
