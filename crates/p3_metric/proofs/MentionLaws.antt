-- In a well-formed task the metric reads no counts but those of the preference names.
use Rattle.std.proofs.Common.{◌≡◌, ◌∙◌, ◌⊎◌, inl, inr, ⊎_elim, ℕ, zero, suc, refl, sym, ap, subst, Bool, true, false, not, ◌||◌, List, [], ◌∷◌, ◌++◌, map, cond, Option, Some, None, pos}
use Rattle.std.specs.Prelude.{slice_get, nat_lt, fold, flat_map, filter, if◌then◌else◌}
use Rattle.std.proofs.lemmas.Bool.{true≢false, or_cases}
use Rattle.std.proofs.lemmas.Grind.{flat_map-append}
use Rattle.std.proofs.lemmas.List.{map-append}
use Rattle.std.proofs.lemmas.List.Folds.{list_any-append}
use Rattle.std.proofs.lemmas.Slice.Eq.{bytes_eq-Decides}
use mathlib.Core.Former.{Count}
use Rattle.p3_task.specs.Folds.{fold_nums}
use Rattle.p3_task.specs.Names.{Name, same_name, has_name}
use Rattle.p3_task.specs.Types.{once_each}
use Rattle.p3_task.specs.Metrics.{direction}
use Rattle.p3_task.specs.Uses.{Objects, init_uses, goal_uses, constraint_uses, num_layer, num_uses, metric_uses, problem_uses}
use Rattle.p3_task.specs.Offences.{WellFormed, unless, unknown_words, domain_unknowns, problem_unknowns}
use Rattle.p3_task.specs.declared.term.Ref.{Ref}
use Rattle.p3_task.specs.declared.metric.Metric.{Metric}
use Rattle.p3_task.specs.declared.metric.Num.{Num, Row_of-Num, end_of-Num, more_of-Num}
use Rattle.p3_task.specs.declared.metric.Num.TheOpen.{Num-F}
use Rattle.p3_task.specs.declared.metric.Num.TheVariants as num
use Rattle.p3_task.specs.declared.task.Task.{Task}
use Rattle.p3_task.specs.Metrics.{Quantity, quantity, quantity_by, quantity_layer, signed, negated, sum_of, product_of}
use Rattle.p3_task.specs.Costs.{cost_places}
use Rattle.p3_task.specs.PreferenceNames.{Named, named_in_domain, named_in_problem, preference_names, placed, in_text_order, ordered_names}
use Rattle.p3_metric.specs.Weighed.{CountsNames}
use Rattle.p3_task.proofs.OnceLemmas.{Has, Some-injective, in_left, in_right, map_at, nil_left, nil_right}
use Rattle.p3_metric.proofs.LinearLaws.{Counts}

-- ---- the names in text order are all preference names

abbrev name_of : Named → Name
name_of named = named.name

has_here : {A : Type 0} (x : A) (xs : List A) → Has (x ∷ xs) x
has_here x xs = (0, refl)

has_behind : {A : Type 0} (y : A) (xs : List A) (x : A) → Has xs x → Has (y ∷ xs) x
has_behind y xs x found = (suc found.0, found.1)

has_cases : {A : Type 0} (y : A) (xs : List A) (x : A) → Has (y ∷ xs) x → (y ≡ x) ⊎ Has xs x
has_cases y xs x (zero, e) = inl (Some-injective y x e)
has_cases y xs x (suc k, e) = inr (k, e)

placed_own : (named : Named) (list : List Named) → Has (placed named list) named
placed_own named [] = has_here named []
placed_own named (first ∷ list) = by (nat_lt named.at first.at) (placed_own named list)
  where
    by : (t : Bool) → Has (placed named list) named → Has (if t then named ∷ first ∷ list else first ∷ placed named list) named
    by true rest = has_here named (first ∷ list)
    by false rest = has_behind first (placed named list) named rest

placed_kept : (named : Named) (list : List Named) (other : Named) → Has list other → Has (placed named list) other
placed_kept named [] other found = has_behind named [] other found
placed_kept named (first ∷ list) other found = by (nat_lt named.at first.at) (has_cases first list other found) (placed_kept named list other)
  where
    by : (t : Bool) → (first ≡ other) ⊎ Has list other → (Has list other → Has (placed named list) other) → Has (if t then named ∷ first ∷ list else first ∷ placed named list) other
    by true cases rest = has_behind named (first ∷ list) other found
    by false (inl same) rest = (0, ap Some same)
    by false (inr behind) rest = has_behind first (placed named list) other (rest behind)

fold_has : (list sorted : List Named) (other : Named) → Has sorted other ⊎ Has list other → Has (fold (λ sorted named. placed named sorted) sorted list) other
fold_has [] sorted other (inl found) = found
fold_has [] sorted other (inr found) = absurd (cc)
fold_has (named ∷ list) sorted other (inl found) = fold_has list (placed named sorted) other (inl (placed_kept named sorted other found))
fold_has (named ∷ list) sorted other (inr found) =
    fold_has list (placed named sorted) other (⊎_elim (λ same. inl (subst (λ o. Has (placed named sorted) o) same (placed_own named sorted))) (λ behind. inr behind) (has_cases named list other found))

ordered_has : (list : List Named) (name : Name) → has_name (map name_of list) name ≡ true → Has (in_text_order list) name
ordered_has list name h =
    let (k, named, at, is) = place list h in
    let found = fold_has list [] named (inr (k, at)) in
    (found.0, map_at name_of (fold (λ sorted named. placed named sorted) [] list) found.0 named found.1 ∙ ap Some is)
  where
    place : (list : List Named) → has_name (map name_of list) name ≡ true → (k : ℕ) × (named : Named) × (slice_get list k ≡ Some named) × (named.name ≡ name)
    place [] h = absurd (true≢false (sym h))
    place (named ∷ list) h = by (same_name named.name name) refl h (place list)
      where
        by : (t : Bool) → same_name named.name name ≡ t → (t || has_name (map name_of list) name) ≡ true → (has_name (map name_of list) name ≡ true → (k : ℕ) × (other : Named) × (slice_get list k ≡ Some other) × (other.name ≡ name))
            → (k : ℕ) × (other : Named) × (slice_get (named ∷ list) k ≡ Some other) × (other.name ≡ name)
        by true e h rest = (0, named, refl, (bytes_eq-Decides named.name name).0 e)
        by false e h rest = let (k, other, at, is) = rest h in (suc k, other, at, is)

once_has : (names : List Name) (name : Name) → Has names name → Has (once_each names) name
once_has [] name found = found
once_has (first ∷ names) name found = by (same_name first name) refl (has_cases first names name found) (once_has names name)
  where
    kept : (list : List Name) (k : ℕ) → same_name first name ≡ false → slice_get list k ≡ Some name → Has (filter (λ other. not (same_name other first)) list) name
    kept [] k apart e = absurd (cc)
    kept (x ∷ list) zero apart e = by_first (same_name x first) refl
      where
        by_first : (t : Bool) → same_name x first ≡ t → Has (cond (not t) (x ∷ filter (λ other. not (same_name other first)) list) (filter (λ other. not (same_name other first)) list)) name
        by_first true same = absurd (true≢false (sym ((bytes_eq-Decides first name).1 (sym ((bytes_eq-Decides x first).0 same) ∙ Some-injective x name e)) ∙ apart))
        by_first false other = (0, e)
    kept (x ∷ list) (suc k) apart e = by_rest (same_name x first) (kept list k apart e)
      where
        by_rest : (t : Bool) → Has (filter (λ other. not (same_name other first)) list) name → Has (cond (not t) (x ∷ filter (λ other. not (same_name other first)) list) (filter (λ other. not (same_name other first)) list)) name
        by_rest true rest = rest
        by_rest false rest = has_behind x (filter (λ other. not (same_name other first)) list) name rest

    by : (t : Bool) → same_name first name ≡ t → (first ≡ name) ⊎ Has names name → (Has names name → Has (once_each names) name) → Has (once_each (first ∷ names)) name
    by true e cases rest = (0, ap Some ((bytes_eq-Decides first name).0 e))
    by false e (inl same) rest = absurd (true≢false (sym ((bytes_eq-Decides first name).1 same) ∙ e))
    by false e (inr behind) rest = let found = rest behind in has_behind first _ name (kept (once_each names) found.0 e found.1)

module _ (T : Task) where
  -- each preference name has a number
  pub name_has_number : (name : Name) → has_name (preference_names T) name ≡ true → Has (ordered_names T) name
  unfolding ordered_names preference_names
  name_has_number name h =
      once_has (in_text_order (named_in_domain T.domain) ++ in_text_order (named_in_problem T.problem)) name
      (⊎_elim
      (λ e. let found = ordered_has (named_in_domain T.domain) name e in in_left (in_text_order (named_in_domain T.domain)) (in_text_order (named_in_problem T.problem)) found.0 name found.1)
      (λ e. in_right (in_text_order (named_in_domain T.domain)) (in_text_order (named_in_problem T.problem)) name (ordered_has (named_in_problem T.problem) name e))
      (or_cases _ _ (sym (list_any-append (λ other. same_name other name) (map name_of (named_in_domain T.domain)) (map name_of (named_in_problem T.problem))) ∙ ap (λ names. has_name names name) (sym (map-append name_of (named_in_domain T.domain) (named_in_problem T.problem))) ∙ h)))

  -- ---- what the metric reads

  unless_nil : (passes : Bool) (word : Ref) → unless passes word ++ [] ≡ [] → passes ≡ true
  unless_nil true word e = refl
  unless_nil false word e = absurd (cc)

  module _ (c d : Counts) (u : ℕ) (same : (place : ℕ) (name : Name) → slice_get (ordered_names T) place ≡ Some name → c name ≡ d name) where
    abbrev layer_of : Counts → Num-F Quantity → Quantity
    layer_of counts = quantity_layer counts (record { places = cost_places T; units = pos u })

    mutual
      unfolding quantity num_uses

      same_quantity : (tree : Num) → flat_map (unknown_words T) (num_uses tree) ≡ [] → quantity T c u tree ≡ quantity T d u tree
      same_quantity (num.Number numeral) e = refl
      same_quantity (num.TotalCost at) e = refl
      same_quantity (num.Violated name) e = let found = name_has_number name.name (unless_nil _ name e) in λ i. record { places = 0; units = pos (same found.0 name.name found.1 i) }
      same_quantity (num.Neg' at _ (more_of-Num part rest)) e = ap negated (same_quantity part e)
      same_quantity (num.Sub' at _ (more_of-Num first rest) _ (more_of-Num name_of others)) e =
          let apart = sym (flat_map-append (unknown_words T) (num_uses first) (num_uses name_of)) ∙ e in
          λ i. sum_of (same_quantity first (nil_left _ _ apart) i ∷ negated (same_quantity name_of (nil_right (flat_map (unknown_words T) (num_uses first)) _ apart) i) ∷ [])
      same_quantity (num.Sum' at _ parts) e = ap sum_of (same_quantities parts e)
      same_quantity (num.Product' at _ parts) e = ap product_of (same_quantities parts e)

      same_quantities : {n : Count} (row : Row_of-Num n) → flat_map (unknown_words T) (flat_map (λ part. part) (fold_nums num_layer row)) ≡ [] → fold_nums (layer_of c) row ≡ fold_nums (layer_of d) row
      same_quantities end_of-Num e = refl
      same_quantities (more_of-Num part rest) e =
          let apart = sym (flat_map-append (unknown_words T) (num_uses part) (flat_map (λ part. part) (fold_nums num_layer rest))) ∙ e in
          λ i. same_quantity part (nil_left _ _ apart) i ∷ same_quantities rest (nil_right (flat_map (unknown_words T) (num_uses part)) _ apart) i

    same_metric : (o : Option Metric) → flat_map (unknown_words T) (metric_uses o) ≡ [] → quantity_by T c u o ≡ quantity_by T d u o
    same_metric None e = refl
    same_metric (Some metric) e = same_quantity metric.body e

  metric_known : WellFormed T → flat_map (unknown_words T) (metric_uses T.problem.metric) ≡ []
  unfolding problem_unknowns problem_uses
  metric_known well =
      let before = Objects T.problem.objects ∷ flat_map init_uses T.problem.init ++ goal_uses T.problem.goal.body [] ++ constraint_uses T.problem.constraints.body [] in
      nil_right (flat_map (unknown_words T) before) (flat_map (unknown_words T) (metric_uses T.problem.metric)) (sym (flat_map-append (unknown_words T) before (metric_uses T.problem.metric)) ∙ nil_right (domain_unknowns T) (flat_map (unknown_words T) (before ++ metric_uses T.problem.metric)) well.unknowns)

  pub counts_names : WellFormed T → CountsNames T
  counts_names well c d u same = ap (λ q. signed (direction T) q.units) (same_metric c d u same T.problem.metric (metric_known well))
