-- An effect costs by numbers what it costs by names.
use Rattle.std.proofs.Common.{◌≡◌, ◌∙◌, ℕ, ◌<◌, ◌==◌, Bool, true, false, ◌&&◌, if◌then◌else◌, List, [], ◌∷◌, Option, Some, None, map, length, refl, sym, ap, subst, arith, suc}
use Rattle.std.specs.Prelude.{filter_map, slice_get, bytes_eq, flat_map}
use Rattle.std.specs.List.{list_all, cons_option}
use Rattle.std.proofs.lemmas.List.Elements.{All-cons, All-nil}
use Rattle.std.proofs.lemmas.Option.{slice_get-get_or}
use mathlib.Core.Former.{Count}
use Rattle.std.proofs.lemmas.Bool.{and_parts}
use Rattle.std.proofs.lemmas.Bool.Decides.{Decides-eqb}
use Rattle.std.proofs.lemmas.Slice.Eq.{bytes_eq-Decides}
use Rattle.p3_task.specs.Costs as named
use Rattle.p3_task.specs.Costs.{cost_places, cost_units, total, given_value, amount_value, increases, effect_cost}
use Rattle.p3_task.specs.Folds.{fold_effects}
use Rattle.p3_task.specs.Names.{Name, same_name, same_names, has_name}
use Rattle.p3_task.specs.States.{meanings}
use Rattle.p3_task.specs.declared.effect.Amount.{Amount}
use Rattle.p3_task.specs.declared.effect.Amount.TheVariants as amount
use Rattle.p3_task.specs.declared.effect.Effect.{Effect, Row_of-Effect, end_of-Effect, more_of-Effect}
use Rattle.p3_task.specs.declared.effect.Effect.TheVariants.{Add, Del, All', Each', If', Cost}
use Rattle.p3_task.specs.declared.effect.Numeral.{Numeral}
use Rattle.p3_task.specs.declared.term.Ref.{Ref}
use Rattle.p3_task.specs.declared.term.Term.{Term}
use Rattle.p3_task.specs.declared.task.Init.{Init}
use Rattle.p3_task.specs.declared.task.Init.TheVariants.{True, False, Value}
use Rattle.p3_task.specs.declared.task.Task.{Task}
use Rattle.p3_task.proofs.OnceLemmas.{AreOnce, each_once}
use Rattle.p3_task.proofs.StateLemmas.{same_names-Decides}
use Rattle.p3_numbers.specs.Effects.{amount_of, effect_layer, effect_of, is_known_amount, known_effect_layer, is_known_effect, numbered_increases}
use Rattle.p3_numbers.specs.Places.{Variables, Fills, AreObjects, environment_of, number_in, numbered_terms, is_known_term, are_known_terms}
use Rattle.p3_numbers.specs.Slots.{Slots, name_at, object_names, values_of}
use Rattle.p3_numbers.specs.Starts.{entry_value, initial_values_of, is_known_entry}
use Rattle.p3_numbers.specs.Tasks.{IsNumberedTask, header_names}
use Rattle.p3_numbers.specs.declared.numbers.Numbers.{Numbers}
use Rattle.p3_numbers.specs.declared.task.NumberedTask.{NumberedTask}
use Rattle.p3_numbers.specs.declared.effect.NumberedEffect.{NumberedEffect}
use Rattle.p3_numbers.proofs.EffectLemmas.{numbered_increases-All}
use Rattle.p3_numbers.proofs.JoinLemmas.{joined}
use Rattle.p3_numbers.proofs.KnownLaws.{task-known}
use Rattle.p3_numbers.proofs.PlaceLemmas.{found_name, found_within, term_means, terms_mean}
use Rattle.p3_steps.specs.Costs.{units_given, given_at, amount_at, cost_of, CostsByNumber}

-- two tests that follow from one another are equal
same_answer : (first second : Bool) → (first ≡ true → second ≡ true) → (second ≡ true → first ≡ true) → first ≡ second
same_answer true second there back = sym (there refl)
same_answer false true there back = back refl
same_answer false false there back = refl

-- no variable is in scope
no_variables : (N : Numbers) → Fills N [] []
no_variables N = record { lengths = refl; objects = All-nil (λ number. number < length N.objects) }

-- ---- functions and objects by number and by name

-- a list without a name at two places
apart : (names : List Name) → AreOnce names → (i j : ℕ) → i < length names → j < length names → name_at names i ≡ name_at names j → i ≡ j
apart names once i j low high same = once i j (name_at names i) (slice_get-get_or names i [] low) (slice_get-get_or names j [] high ∙ ap Some (sym same))

module _ (T : Task) (X : NumberedTask) (is : IsNumberedTask T X) where
  abbrev N : Numbers
  N = X.numbers

  same-function : (f : ℕ) (other : Name) → f < length N.functions → has_name N.functions other ≡ true → (number_in N.functions other == f) ≡ same_name other (name_at N.functions f)
  same-function f other within known =
      let found : name_at N.functions (number_in N.functions other) ≡ other = found_name N.functions other known in
      let once : AreOnce N.functions = subst AreOnce (sym is.names.functions) (each_once (header_names T.domain.functions)) in
      same_answer (number_in N.functions other == f) (same_name other (name_at N.functions f))
      (λ e. (bytes_eq-Decides other (name_at N.functions f)).1 (sym found ∙ ap (name_at N.functions) ((Decides-eqb (number_in N.functions other) f).0 e)))
      (λ e. (Decides-eqb (number_in N.functions other) f).1
      (apart N.functions once (number_in N.functions other) f (found_within N.functions other known) within (found ∙ (bytes_eq-Decides other (name_at N.functions f)).0 e)))

  one-list : (xs ys : List ℕ) → AreObjects N xs → AreObjects N ys → object_names N xs ≡ object_names N ys → xs ≡ ys
  one-list [] [] first second same = refl
  one-list [] (y ∷ ys) first second same = absurd (cc)
  one-list (x ∷ xs) [] first second same = absurd (cc)
  one-list (x ∷ xs) (y ∷ ys) first second same =
      let here : x ≡ y = is.numbering.distinct x y (first 0 0 (omega arith)) (second 0 0 (omega arith)) (cc) in
      let rest : object_names N xs ≡ object_names N ys = cc in
      λ i. here i ∷ one-list xs ys (λ k d below. first (suc k) d (omega (arith, below))) (λ k d below. second (suc k) d (omega (arith, below))) rest i

  terms-within : (args : List Term) → are_known_terms N [] args ≡ true → AreObjects N (values_of [] (numbered_terms N [] args))
  terms-within [] known = All-nil (λ number. number < length N.objects)
  terms-within (term ∷ args) known =
      let parts = and_parts (is_known_term N [] term) (are_known_terms N [] args) known in
      All-cons (λ number. number < length N.objects) _ _ (term_means N [] [] (no_variables N) term parts.0).1 (terms-within args parts.1)

  same-objects : (args : List Term) (objects : List ℕ) → are_known_terms N [] args ≡ true → AreObjects N objects
      → bytes_eq (values_of [] (numbered_terms N [] args)) objects ≡ same_names (meanings [] args) (object_names N objects)
  same-objects args objects known within =
      let values = values_of [] (numbered_terms N [] args) in
      let means : object_names N values ≡ meanings [] args = terms_mean N [] [] (no_variables N) args known in
      same_answer (bytes_eq values objects) (same_names (meanings [] args) (object_names N objects))
      (λ e. (same_names-Decides (meanings [] args) (object_names N objects)).1 (sym means ∙ ap (object_names N) ((bytes_eq-Decides values objects).0 e)))
      (λ e. (bytes_eq-Decides values objects).1
      (one-list values objects (terms-within args known) within (means ∙ (same_names-Decides (meanings [] args) (object_names N objects)).0 e)))

  -- ---- values

  module _ (f : ℕ) (objects : List ℕ) (function_within : f < length N.functions) (objects_within : AreObjects N objects) where
    value-means : (function : Ref) (args : List Term) (number : Numeral) → is_known_entry N (Value function args number) ≡ true
        → units_given (cost_places T) f objects (record { function = number_in N.functions function.name; objects = values_of [] (numbered_terms N [] args); number = number })
        ≡ named.entry_value T (name_at N.functions f) (object_names N objects) (Value function args number)
    value-means function args number known =
        let parts = and_parts (has_name N.functions function.name) (are_known_terms N [] args) known in
        λ i. if same-function f function.name function_within parts.0 i && same-objects args objects parts.1 objects_within i then Some (cost_units T number) else None

    values-mean : (entries : List Init) → list_all (is_known_entry N) entries ≡ true
        → filter_map (units_given (cost_places T) f objects) (filter_map (entry_value N) entries) ≡ filter_map (named.entry_value T (name_at N.functions f) (object_names N objects)) entries
    values-mean [] known = refl
    values-mean (True pred args ∷ entries) known = values-mean entries (and_parts (is_known_entry N (True pred args)) (list_all (is_known_entry N) entries) known).1
    values-mean (False pred args ∷ entries) known = values-mean entries (and_parts (is_known_entry N (False pred args)) (list_all (is_known_entry N) entries) known).1
    values-mean (Value function args number ∷ entries) known =
        let parts = and_parts (is_known_entry N (Value function args number)) (list_all (is_known_entry N) entries) known in
        λ i. cons_option (value-means function args number parts.0 i) (values-mean entries parts.1 i)

    pub given-means : list_all (is_known_entry N) T.problem.init ≡ true → given_at (cost_places T) X.values f objects ≡ given_value T (name_at N.functions f) (object_names N objects)
    unfolding given_value initial_values_of
    given-means known = ap (λ values. given_at (cost_places T) values f objects) is.values ∙ ap (λ values. slice_get values 0) (values-mean T.problem.init known)

  -- ---- costs

  module _ (known_entries : list_all (is_known_entry N) T.problem.init ≡ true) (scope : Variables) (slots : Slots) (fills : Fills N scope slots) where
    known-within : (args : List Term) → are_known_terms N scope args ≡ true → AreObjects N (values_of slots (numbered_terms N scope args))
    known-within [] known = All-nil (λ number. number < length N.objects)
    known-within (term ∷ args) known =
        let parts = and_parts (is_known_term N scope term) (are_known_terms N scope args) known in
        All-cons (λ number. number < length N.objects) _ _ (term_means N scope slots fills term parts.0).1 (known-within args parts.1)

    amount-means : (increase : Amount) → is_known_amount N increase scope ≡ true → amount_at (cost_places T) X.values slots (amount_of N increase scope) ≡ amount_value T (environment_of N scope slots) increase
    amount-means (amount.Number numeral) known = refl
    amount-means (amount.Value function args) known =
        let parts = and_parts (has_name N.functions function.name) (are_known_terms N scope args) known in
        given-means (number_in N.functions function.name) (values_of slots (numbered_terms N scope args)) (found_within N.functions function.name parts.0) (known-within args parts.1) known_entries
        ∙ (λ i. given_value T (found_name N.functions function.name parts.0 i) (terms_mean N scope slots fills args parts.1 i))

    abbrev amounts : NumberedEffect → List (Option ℕ)
    amounts tree = map (amount_at (cost_places T) X.values slots) (numbered_increases tree)

    mutual
      unfolding increases effect_of is_known_effect numbered_increases

      amounts-mean : (tree : Effect) → is_known_effect N tree scope ≡ true → amounts (effect_of N tree scope) ≡ map (amount_value T (environment_of N scope slots)) (increases tree)
      amounts-mean (Add pred args) known = refl
      amounts-mean (Del pred args) known = refl
      amounts-mean (All' _ parts) known =
          let made = map (λ part. part scope) (fold_effects (effect_layer N) parts) in
          ap (map (amount_at (cost_places T) X.values slots)) (numbered_increases-All made)
          ∙ joined (amount_at (cost_places T) X.values slots) numbered_increases made
          ∙ ap (flat_map (λ found. found)) (all-amounts-mean parts known)
          ∙ sym (joined (amount_value T (environment_of N scope slots)) (λ part. part) (fold_effects named.increases_layer parts))
      amounts-mean (Each' variables _ (more_of-Effect body _)) known = refl
      amounts-mean (If' formula _ (more_of-Effect body _)) known = refl
      amounts-mean (Cost at increase) known = ap (λ value. value ∷ []) (amount-means increase known)

      all-amounts-mean : {n : Count} (parts : Row_of-Effect n) → list_all (λ part. part scope) (fold_effects (known_effect_layer N) parts) ≡ true
          → map amounts (map (λ part. part scope) (fold_effects (effect_layer N) parts)) ≡ map (map (amount_value T (environment_of N scope slots))) (fold_effects named.increases_layer parts)
      all-amounts-mean end_of-Effect known = refl
      all-amounts-mean (more_of-Effect part rest) known =
          let parts = and_parts (is_known_effect N part scope) (list_all (λ part. part scope) (fold_effects (known_effect_layer N) rest)) known in
          λ i. amounts-mean part parts.0 i ∷ all-amounts-mean rest parts.1 i

pub costs-mean : CostsByNumber
unfolding effect_cost cost_of
costs-mean T X well is tree scope slots fills known =
    ap total (amounts-mean T X is (task-known T X.numbers well is.covers).initial scope slots fills tree known)
