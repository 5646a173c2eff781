-- A written task, whose numbers are short and have no point, starts with few units.
use Rattle.std.proofs.Common.{◌≡◌, ◌∙◌, ◌-◌, ◌*◌, ◌^◌, ◌<◌, refl, sym, ap, Bool, true, false, ◌&&◌, cond, List, [], ◌∷◌, ◌++◌, map, arith, Some, None}
use Rattle.std.specs.Prelude.{IsTrue, nat_lt, nat_le, fold, max, filter_map, slice_get, unwrap_or}
use Rattle.std.specs.List.{cons_option, list_all}
use Rattle.std.proofs.lemmas.Bool.{leb-true, ltb-true}
use Rattle.p3_base.specs.declared.refusal.Side.{Side}
use Rattle.p3_base.specs.declared.refusal.Side.TheVariants.{Written}
use Rattle.p3_task.specs.Costs.{amount_numerals, cost_places, cost_units, entry_value, given_value, value_numeral, value_numerals}
use Rattle.p3_task.specs.Names.{same_name, same_names, total_cost}
use Rattle.p3_task.specs.States.{meanings}
use Rattle.p3_task.specs.declared.effect.Numeral.{Numeral}
use Rattle.p3_task.specs.declared.task.Init.{Init}
use Rattle.p3_task.specs.declared.task.Init.TheVariants as init
use Rattle.p3_task.specs.declared.task.Task.{Task}
use Rattle.p3_types.specs.Texts.{has_short_numbers, is_short, metric_numerals}
use Rattle.p3_metric.specs.Refused.{HasShortStart}
use Rattle.p3_metric.proofs.EntryLemmas.{both_true}

all_left : {A : Type 0} (test : A → Bool) (xs ys : List A) → list_all test (xs ++ ys) ≡ true → list_all test xs ≡ true
all_left test [] ys e = refl
all_left test (x ∷ xs) ys e = let parts = both_true (test x) (list_all test (xs ++ ys)) e in λ i. parts.0 i && all_left test xs ys parts.1 i

all_right : {A : Type 0} (test : A → Bool) (xs ys : List A) → list_all test (xs ++ ys) ≡ true → list_all test ys ≡ true
all_right test [] ys e = e
all_right test (x ∷ xs) ys e = all_right test xs ys (both_true (test x) (list_all test (xs ++ ys)) e).1

no_places : (numerals : List Numeral) → list_all (is_short Written) numerals ≡ true → fold max 0 (map (λ (n : Numeral). n.places) numerals) ≡ 0
no_places [] e = refl
no_places (n ∷ numerals) e =
    let parts = both_true (is_short Written n) (list_all (is_short Written) numerals) e in
    let own = both_true (nat_lt n.digits (10 ^ 19)) (nat_le n.places 0) parts.0 in
    let few = leb-true n.places 0 own.1 in
    let none : max 0 n.places ≡ 0 = omega (arith, few) in
    ap (λ most. fold max most (map (λ (n : Numeral). n.places) numerals)) none ∙ no_places numerals parts.1

start_short : (T : Task) → cost_places T ≡ 0 → (entries : List Init) → list_all (is_short Written) (filter_map value_numeral entries) ≡ true → unwrap_or (slice_get (filter_map (entry_value T total_cost []) entries) 0) 0 < 2 ^ 64
start_short T none [] e = omega arith
start_short T none (init.True pred args ∷ rest) e = start_short T none rest e
start_short T none (init.False pred args ∷ rest) e = start_short T none rest e
start_short T none (init.Value function args number ∷ rest) e = by (same_name function.name total_cost && same_names (meanings [] args) []) e (start_short T none rest)
  where
    by : (t : Bool) → (is_short Written number && list_all (is_short Written) (filter_map value_numeral rest)) ≡ true
        → (list_all (is_short Written) (filter_map value_numeral rest) ≡ true → unwrap_or (slice_get (filter_map (entry_value T total_cost []) rest) 0) 0 < 2 ^ 64)
        → unwrap_or (slice_get (cons_option (cond t (Some (cost_units T number)) None) (filter_map (entry_value T total_cost []) rest)) 0) 0 < 2 ^ 64
    by true e others =
        let parts = both_true (is_short Written number) (list_all (is_short Written) (filter_map value_numeral rest)) e in
        let own = both_true (nat_lt number.digits (10 ^ 19)) (nat_le number.places 0) parts.0 in
        let few = ltb-true number.digits (10 ^ 19) own.0 in
        let more : cost_places T - number.places ≡ 0 = omega (arith, none) in
        let units = ap (λ n. number.digits * 10 ^ n) more in
        omega (arith, few, units)
    by false e others = others (both_true (is_short Written number) (list_all (is_short Written) (filter_map value_numeral rest)) e).1

pub short_starts : (side : Side) (T : Task) → IsTrue (has_short_numbers side T) → HasShortStart side T
unfolding has_short_numbers cost_places given_value
short_starts side T short written =
    let all : list_all (is_short Written) (amount_numerals T ++ value_numerals T ++ metric_numerals T.problem.metric) ≡ true = ap (λ s. list_all (is_short s) (amount_numerals T ++ value_numerals T ++ metric_numerals T.problem.metric)) (sym written) ∙ short in
    let costs = all_left (is_short Written) (amount_numerals T ++ value_numerals T) (metric_numerals T.problem.metric) all in
    start_short T (no_places (amount_numerals T ++ value_numerals T) costs) T.problem.init (all_right (is_short Written) (amount_numerals T) (value_numerals T) costs)
