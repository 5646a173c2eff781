-- What is not too dear starts with few units.
use Rattle.std.proofs.Common.{◌≡◌, ◌^◌, ◌<◌, refl, Bool, true, false, ◌&&◌, cond, List, [], ◌∷◌, arith, Option, Some, None}
use Rattle.std.specs.Prelude.{filter, filter_map, slice_get, unwrap_or, option_map}
use Rattle.std.specs.List.{cons_option}
use Rattle.std.specs.Option.{option_or}
use Rattle.std.proofs.lemmas.Bool.{leb-false}
use Rattle.p3_base.specs.declared.refusal.Side.{Side}
use Rattle.p3_base.specs.declared.refusal.Side.TheVariants.{Source, Written}
use Rattle.p3_task.specs.Costs.{cost_units, entry_value, given_value, initial_cost, value_numeral, value_numerals}
use Rattle.p3_task.specs.Names.{same_name, same_names, total_cost}
use Rattle.p3_task.specs.States.{meanings}
use Rattle.p3_task.specs.Refusals.Metric.{is_dear, least_numeral}
use Rattle.p3_task.specs.Refusals.Places.{first_some}
use Rattle.p3_task.specs.declared.effect.Numeral.{Numeral}
use Rattle.p3_task.specs.declared.task.Init.{Init}
use Rattle.p3_task.specs.declared.task.Init.TheVariants as init
use Rattle.p3_task.specs.declared.task.Task.{Task}
use Rattle.p3_metric.specs.Refused.{HasShortStart, dear_amount_of, dear_value_of, early_refusals, nonlinear_of, too_many_places_of}

-- ---- the first of them

pub first_none : {A : Type 0} (a b : Option A) → option_or a b ≡ None → (a ≡ None) × (b ≡ None)
first_none None b e = (refl, e)
first_none (Some x) b e = absurd (cc)

module _ (side : Side) (T : Task) (early : first_some (early_refusals side T) ≡ None) where
  one : (nonlinear_of side T ≡ None) × (first_some (too_many_places_of side T ∷ dear_amount_of side T ∷ dear_value_of side T ∷ []) ≡ None)
  one = first_none (nonlinear_of side T) (first_some (too_many_places_of side T ∷ dear_amount_of side T ∷ dear_value_of side T ∷ [])) early

  two : (too_many_places_of side T ≡ None) × (first_some (dear_amount_of side T ∷ dear_value_of side T ∷ []) ≡ None)
  two = first_none (too_many_places_of side T) (first_some (dear_amount_of side T ∷ dear_value_of side T ∷ [])) one.1

  three : (dear_amount_of side T ≡ None) × (first_some (dear_value_of side T ∷ []) ≡ None)
  three = first_none (dear_amount_of side T) (first_some (dear_value_of side T ∷ [])) two.1

  none_dear : dear_value_of side T ≡ None
  none_dear = (first_none (dear_value_of side T) None three.1).0

-- ---- the start

none_least : (list : List Numeral) → least_numeral list ≡ None → list ≡ []
none_least [] e = refl
none_least (x ∷ list) e = absurd (cc)

none_mapped : {A B : Type 0} (f : A → B) (o : Option A) → option_map f o ≡ None → o ≡ None
none_mapped f None e = refl
none_mapped f (Some x) e = absurd (cc)

start_below : (T : Task) (entries : List Init) → filter (is_dear Source T) (filter_map value_numeral entries) ≡ [] → unwrap_or (slice_get (filter_map (entry_value T total_cost []) entries) 0) 0 < 2 ^ 64
start_below T [] e = omega arith
start_below T (init.True pred args ∷ rest) e = start_below T rest e
start_below T (init.False pred args ∷ rest) e = start_below T rest e
start_below T (init.Value function args number ∷ rest) e = by (same_name function.name total_cost && same_names (meanings [] args) []) (is_dear Source T number) refl e (start_below T rest)
  where
    others : List Numeral
    others = filter (is_dear Source T) (filter_map value_numeral rest)

    by : (t s : Bool) → is_dear Source T number ≡ s → cond s (number ∷ filter (is_dear Source T) (filter_map value_numeral rest)) (filter (is_dear Source T) (filter_map value_numeral rest)) ≡ []
        → (filter (is_dear Source T) (filter_map value_numeral rest) ≡ [] → unwrap_or (slice_get (filter_map (entry_value T total_cost []) rest) 0) 0 < 2 ^ 64)
        → unwrap_or (slice_get (cons_option (cond t (Some (cost_units T number)) None) (filter_map (entry_value T total_cost []) rest)) 0) 0 < 2 ^ 64
    by true false h none others = let cheap = leb-false (10 ^ 18) (cost_units T number) h in omega (arith, cheap)
    by false false h none others = others none
    by t true h wrong others = absurd (cc)

pub short_start : (side : Side) (T : Task) → HasShortStart side T → first_some (early_refusals side T) ≡ None → initial_cost T < 2 ^ 64
unfolding given_value
short_start Written T short early = short refl
short_start Source T short early =
    start_below T T.problem.init (none_least (filter (is_dear Source T) (value_numerals T)) (none_mapped _ (least_numeral (filter (is_dear Source T) (value_numerals T))) (none_dear Source T early)))
