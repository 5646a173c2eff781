-- Counters stay right of one violation more or less, and of a group that is replaced.
use Rattle.std.proofs.Common.{◌≡◌, ◌∙◌, ℕ, ◌+◌, ◌-◌, ◌*◌, ◌^◌, ◌<◌, ◌≤◌, ◌==◌, Bool, true, false, not, ◌&&◌, cond, List, [], ◌∷◌, ◌++◌, length, get_or, Option, Some, None, Fits, w64, refl, sym, ap, arith, length-set}
use Rattle.std.specs.Prelude.{slice_set, IsSome}
use Rattle.std.specs.List.{All}
use Rattle.std.proofs.Math.Bool.{and-true}
use Rattle.std.proofs.lemmas.Grind.{get_or_default_zero}
use Rattle.std.proofs.lemmas.Bool.{cases_eq, cases_lt}
use Rattle.std.proofs.lemmas.Bool.Decides.{nat_tests}
use Rattle.std.proofs.lemmas.List.{get_or-set_same, get_or-set_other}
use Rattle.std.proofs.lemmas.List.Sums.{sum_by-set, sum_by_push, sum_by-le, count_by-le-length}
use Rattle.std.proofs.Math.ListN.{get_or-eq_default}
use mathlib.Core.Logic.{◌⊎◌, inl, inr}
use Rattle.p3_base.specs.Limits.{instance_limit}
use Rattle.p3_formula.specs.GroundPlans.{is_numbered}
use Rattle.p3_formula.specs.Weighted.{HasNameBelow, named_weight}
use Rattle.p3_run.specs.Groups.{Watch, is_met, watch_at, violating, violating_weight, IsCounted}
use Rattle.p3_run.specs.Tallies.{Counted, added, removed, recounted, count_at, CanAdd, CanRemove, IsTally}

and-false : (b : Bool) → (b && false) ≡ false
and-false true = refl
and-false false = refl

-- the items of a slice of 64 bits
pub small_items : (numbers : List ℕ) → ((i : ℕ) → Fits w64 (get_or numbers i 0)) → All (λ n. n < 2 ^ 64) numbers
small_items numbers fits k d lt = let f = fits k in let e = get_or_default_zero numbers k d lt in omega (arith, f, e)

module _ (by_name : List ℕ) where
  -- equal counters
  pub tally_like : {count other : ℕ → ℕ} {weight value : ℕ} {tally : Counted} → ((name : ℕ) → count name ≡ other name) → weight ≡ value → IsTally by_name count weight tally → IsTally by_name other value tally
  tally_like same equal is = record { names = is.names; counts = λ name lt. is.counts name lt ∙ same name; worth = is.worth ∙ equal }

  -- one of the name
  abbrev pub one_of : Option ℕ → ℕ → ℕ
  one_of name n = cond (is_numbered n name) 1 0

  set_at : (counts : List ℕ) (m v n : ℕ) → m < length counts → get_or (slice_set counts m v) n 0 ≡ cond (m == n) v (get_or counts n 0)
  set_at counts m v n within = by (cases_eq n m) where
    by : (n ≡ m) ⊎ (n ≡ m → ⊥) → get_or (slice_set counts m v) n 0 ≡ cond (m == n) v (get_or counts n 0)
    by (inl same) =
        let test : (m == n) ≡ true = grind (arith, nat_tests, same) in
        ap (λ k. get_or (slice_set counts m v) k 0) same ∙ get_or-set_same counts m v 0 within ∙ ap (λ b. cond b v (get_or counts n 0)) (sym test)
    by (inr apart) =
        let test : (m == n) ≡ false = grind (arith, nat_tests, apart) in
        get_or-set_other counts m n v 0 apart ∙ ap (λ b. cond b v (get_or counts n 0)) (sym test)

  more_at : (count : ℕ → ℕ) (m n x : ℕ) (b : Bool) → (m == n) ≡ b → x ≡ count m → cond b (x + 1) (count n) ≡ count n + cond b 1 0
  more_at count m n x true e h = let same : m ≡ n = grind (arith, nat_tests, e) in ap (λ k. k + 1) (h ∙ ap count same)
  more_at count m n x false e h = omega arith

  pub add_law : (count : ℕ → ℕ) (weight : ℕ) (name : Option ℕ) (tally : Counted) → IsTally by_name count weight tally → HasNameBelow (length by_name) name
      → IsTally by_name (λ n. count n + one_of name n) (weight + named_weight by_name name) (added by_name name tally)
  add_law count weight None tally is below = record { names = is.names; counts = λ n lt. is.counts n lt ∙ omega arith; worth = is.worth ∙ omega arith }
  add_law count weight (Some m) tally is below = record {
    names = length-set tally.counts m (get_or tally.counts m 0 + 1) ∙ is.names;
    counts = λ n lt.
        set_at tally.counts m (get_or tally.counts m 0 + 1) n (omega (arith, below, is.names))
        ∙ ap (cond (m == n) (get_or tally.counts m 0 + 1)) (is.counts n lt)
        ∙ more_at count m n (get_or tally.counts m 0) (m == n) refl (is.counts m below);
    worth = ap (λ w. w + get_or by_name m 0) is.worth;
  }

  less_at : (count : ℕ → ℕ) (m n x y : ℕ) (b : Bool) → (m == n) ≡ b → x ≡ count m + cond (m == m) 1 0 → y ≡ count n + cond b 1 0 → cond b (x - 1) y ≡ count n
  less_at count m n x y true e h k =
      let same : m ≡ n = grind (arith, nat_tests, e) in
      let one : (m == m) ≡ true = grind (arith, nat_tests) in
      ap (λ v. v - 1) (h ∙ ap (λ b. count m + cond b 1 0) one) ∙ omega arith ∙ ap count same
  less_at count m n x y false e h k = k ∙ omega arith

  pub remove_law : (count : ℕ → ℕ) (weight : ℕ) (name : Option ℕ) (tally : Counted) → IsTally by_name (λ n. count n + one_of name n) (weight + named_weight by_name name) tally → HasNameBelow (length by_name) name
      → IsTally by_name count weight (removed by_name name tally)
  remove_law count weight None tally is below = record { names = is.names; counts = λ n lt. is.counts n lt ∙ omega arith; worth = is.worth ∙ omega arith }
  remove_law count weight (Some m) tally is below = record {
    names = length-set tally.counts m (get_or tally.counts m 0 - 1) ∙ is.names;
    counts = λ n lt.
        set_at tally.counts m (get_or tally.counts m 0 - 1) n (omega (arith, below, is.names))
        ∙ less_at count m n (get_or tally.counts m 0) (get_or tally.counts n 0) (m == n) refl (is.counts m below) (is.counts n lt);
    worth = ap (λ w. w - get_or by_name m 0) is.worth ∙ omega arith;
  }

  -- ---- a group is replaced by one of its name

  abbrev counts_for : ℕ → Watch → Bool
  counts_for n watch = is_numbered n watch.name && not (is_met watch.stages)

  abbrev weight_for : Watch → ℕ
  weight_for watch = cond (not (is_met watch.stages)) (named_weight by_name watch.name) 0

  -- as if the answers were these
  abbrev count_if : Option ℕ → Bool → ℕ → ℕ
  count_if name met n = cond (is_numbered n name && not met) 1 0

  abbrev weight_if : Option ℕ → Bool → ℕ
  weight_if name met = cond (not met) (named_weight by_name name) 0

  -- ---- no sum of the groups leaves its limits

  module _ (small : All (λ w. w < 2 ^ 64) by_name) where
    pub named_small : (name : Option ℕ) → named_weight by_name name ≤ 2 ^ 64
    named_small None = omega arith
    named_small (Some m) = by (cases_lt m (length by_name)) where
      by : (m < length by_name) ⊎ (length by_name ≤ m) → get_or by_name m 0 ≤ 2 ^ 64
      by (inl lt) = let h = small m 0 lt in omega (arith, h)
      by (inr ge) = let h = get_or-eq_default by_name 0 ge in omega (arith, h)

    weight_small : (w : Watch) → weight_for w ≤ 2 ^ 64
    weight_small w = by (is_met w.stages) where
      by : (b : Bool) → cond (not b) (named_weight by_name w.name) 0 ≤ 2 ^ 64
      by true = omega arith
      by false = named_small w.name

    pub few_violating : (all : List Watch) (n : ℕ) → length all ≤ instance_limit + 1 → violating n all ≤ instance_limit + 1
    few_violating all n few = let h = count_by-le-length (counts_for n) all in omega (arith, h, few)

    pub light_violating : (all : List Watch) → length all ≤ instance_limit + 1 → violating_weight by_name all ≤ (instance_limit + 1) * 2 ^ 64
    light_violating all few = let h = sum_by-le weight_for (2 ^ 64) all (λ k d lt. weight_small (get_or all k d)) in omega (arith, h, few)

    -- there is room for one more
    pub room_for : (watches more : List Watch) (name : Option ℕ) (tally : Counted) → length more ≤ instance_limit + 1 → HasNameBelow (length by_name) name → IsCounted by_name watches tally
        → ((n : ℕ) → violating n watches + one_of name n ≡ violating n more) → violating_weight by_name watches + named_weight by_name name ≡ violating_weight by_name more → CanAdd by_name name tally
    room_for watches more name tally few below counted up up_weight = record {
      named = below;
      names = counted.names;
      room = room_of name below up;
      worth =
          let light = light_violating more few in
          let now = counted.worth in
          omega (arith, up_weight, light, now);
    }
      where
        room_of : (name : Option ℕ) → HasNameBelow (length by_name) name → ((n : ℕ) → violating n watches + one_of name n ≡ violating n more) → count_at name tally.counts + 1 < 2 ^ 64
        room_of None low up = omega arith
        room_of (Some m) low up =
            let same : (m == m) ≡ true = grind (arith, nat_tests) in
            let one_more = ap (λ b. violating m watches + cond b 1 0) (sym same) ∙ up m in
            let few_after = few_violating more m few in
            let now = counted.counts m low in
            omega (arith, one_more, few_after, now)

  module _ (watches : List Watch) (group : ℕ) (later : Watch) (within : group < length watches) (same : later.name ≡ (watch_at watches group).name) where
    abbrev watch : Watch
    watch = watch_at watches group

    abbrev after : List Watch
    after = slice_set watches group later

    moved_count : (n : ℕ) → violating n after + count_if watch.name (is_met watch.stages) n ≡ violating n watches + count_if watch.name (is_met later.stages) n
    moved_count n = sum_by-set (λ w. cond (counts_for n w) 1 0) watches group later (record { name = None; stages = [] }) within
        ∙ ap (λ name. violating n watches + cond (is_numbered n name && not (is_met later.stages)) 1 0) same

    moved_weight : violating_weight by_name after + weight_if watch.name (is_met watch.stages) ≡ violating_weight by_name watches + weight_if watch.name (is_met later.stages)
    moved_weight = sum_by-set weight_for watches group later (record { name = None; stages = [] }) within
        ∙ ap (λ name. violating_weight by_name watches + cond (not (is_met later.stages)) (named_weight by_name name) 0) same

    none : (n : ℕ) → count_if watch.name true n ≡ 0
    none n = ap (λ b. cond b 1 0) (and-false (is_numbered n watch.name))

    one : (n : ℕ) → count_if watch.name false n ≡ one_of watch.name n
    one n = ap (λ b. cond b 1 0) (and-true (is_numbered n watch.name))

    module _ (was is : Bool) (was_is : is_met watch.stages ≡ was) (is_is : is_met later.stages ≡ is) where
      moved_count_if : (n : ℕ) → violating n after + count_if watch.name was n ≡ violating n watches + count_if watch.name is n
      moved_count_if n = (λ i. violating n after + count_if watch.name (sym was_is i) n) ∙ moved_count n ∙ (λ i. violating n watches + count_if watch.name (is_is i) n)

      moved_weight_if : violating_weight by_name after + weight_if watch.name was ≡ violating_weight by_name watches + weight_if watch.name is
      moved_weight_if = (λ i. violating_weight by_name after + weight_if watch.name (sym was_is i)) ∙ moved_weight ∙ (λ i. violating_weight by_name watches + weight_if watch.name (is_is i))

    -- one more, or one less
    up_count : is_met watch.stages ≡ true → is_met later.stages ≡ false → (n : ℕ) → violating n watches + one_of watch.name n ≡ violating n after
    up_count was is n = let h = moved_count_if true false was is n in let z = none n in let o = one n in omega (arith, h, z, o)

    up_weight : is_met watch.stages ≡ true → is_met later.stages ≡ false → violating_weight by_name watches + named_weight by_name watch.name ≡ violating_weight by_name after
    up_weight was is = let h = moved_weight_if true false was is in omega (arith, h)

    down_count : is_met watch.stages ≡ false → is_met later.stages ≡ true → (n : ℕ) → violating n watches ≡ violating n after + one_of watch.name n
    down_count was is n = let h = moved_count_if false true was is n in let z = none n in let o = one n in omega (arith, h, z, o)

    down_weight : is_met watch.stages ≡ false → is_met later.stages ≡ true → violating_weight by_name watches ≡ violating_weight by_name after + named_weight by_name watch.name
    down_weight was is = let h = moved_weight_if false true was is in omega (arith, h)

    even_count : (b : Bool) → is_met watch.stages ≡ b → is_met later.stages ≡ b → (n : ℕ) → violating n watches ≡ violating n after
    even_count b was is n = let h = moved_count_if b b was is n in omega (arith, h)

    even_weight : (b : Bool) → is_met watch.stages ≡ b → is_met later.stages ≡ b → violating_weight by_name watches ≡ violating_weight by_name after
    even_weight b was is = let h = moved_weight_if b b was is in omega (arith, h)

    pub recount_law : (tally : Counted) → HasNameBelow (length by_name) watch.name → IsCounted by_name watches tally → IsCounted by_name after (recounted by_name watch.name (is_met watch.stages) (is_met later.stages) tally)
    recount_law tally below counted = by (is_met watch.stages) (is_met later.stages) refl refl where
      by : (was is : Bool) → is_met watch.stages ≡ was → is_met later.stages ≡ is → IsCounted by_name after (recounted by_name watch.name was is tally)
      by true true w i = tally_like (even_count true w i) (even_weight true w i) counted
      by true false w i = tally_like (up_count w i) (up_weight w i) (add_law (λ n. violating n watches) (violating_weight by_name watches) watch.name tally counted below)
      by false true w i = remove_law (λ n. violating n after) (violating_weight by_name after) watch.name tally (tally_like (down_count w i) (down_weight w i) counted) below
      by false false w i = tally_like (even_count false w i) (even_weight false w i) counted

    module _ (small : All (λ w. w < 2 ^ 64) by_name) where
      pub can_add : (tally : Counted) → length watches ≤ instance_limit + 1 → HasNameBelow (length by_name) watch.name → IsCounted by_name watches tally → is_met watch.stages ≡ true → is_met later.stages ≡ false → CanAdd by_name watch.name tally
      can_add tally few below counted was is =
          room_for small watches after watch.name tally (let l = length-set watches group later in omega (arith, l, few)) below counted (up_count was is) (up_weight was is)

      pub can_remove : (tally : Counted) → HasNameBelow (length by_name) watch.name → IsCounted by_name watches tally → is_met watch.stages ≡ false → is_met later.stages ≡ true → CanRemove by_name watch.name tally
      can_remove tally below counted was is = record {
        named = below;
        names = counted.names;
        some = some_of watch.name below (λ n. down_count was is n);
        worth = let down = down_weight was is in let now = counted.worth in omega (arith, down, now);
      }
        where
          some_of : (name : Option ℕ) → HasNameBelow (length by_name) name → ((n : ℕ) → violating n watches ≡ violating n after + one_of name n) → IsSome name → 1 ≤ count_at name tally.counts
          some_of None low down is_some = absurd (cc)
          some_of (Some m) low down is_some =
              let same : (m == m) ≡ true = grind (arith, nat_tests) in
              let one_less = down m ∙ ap (λ b. violating m after + cond b 1 0) same in
              let now = counted.counts m low in
              omega (arith, one_less, now)

  -- ---- one group more

  module _ (watches : List Watch) (watch : Watch) (b : Bool) (e : is_met watch.stages ≡ b) where
    count_more : (n : ℕ) → violating n (watches ++ watch ∷ []) ≡ violating n watches + count_if watch.name b n
    count_more n = sum_by_push (λ w. cond (counts_for n w) 1 0) watches watch ∙ ap (λ met. violating n watches + count_if watch.name met n) e

    weight_more : violating_weight by_name (watches ++ watch ∷ []) ≡ violating_weight by_name watches + weight_if watch.name b
    weight_more = sum_by_push weight_for watches watch ∙ ap (λ met. violating_weight by_name watches + weight_if watch.name met) e

  module _ (watches : List Watch) (watch : Watch) (unmet : is_met watch.stages ≡ false) where
    one_more : (n : ℕ) → violating n watches + one_of watch.name n ≡ violating n (watches ++ watch ∷ [])
    one_more n = sym (count_more watches watch false unmet n ∙ ap (λ k. violating n watches + cond k 1 0) (and-true (is_numbered n watch.name)))

    pub can_add_more : All (λ w. w < 2 ^ 64) by_name → (tally : Counted) → length (watches ++ watch ∷ []) ≤ instance_limit + 1 → HasNameBelow (length by_name) watch.name → IsCounted by_name watches tally → CanAdd by_name watch.name tally
    can_add_more small tally few below counted = room_for small watches (watches ++ watch ∷ []) watch.name tally few below counted one_more (sym (weight_more watches watch false unmet))

  pub tally_more : (watches : List Watch) (watch : Watch) (tally : Counted) → HasNameBelow (length by_name) watch.name → IsCounted by_name watches tally
      → IsCounted by_name (watches ++ watch ∷ []) (recounted by_name watch.name true (is_met watch.stages) tally)
  tally_more watches watch tally below counted = by (is_met watch.stages) refl where
    by : (b : Bool) → is_met watch.stages ≡ b → IsCounted by_name (watches ++ watch ∷ []) (recounted by_name watch.name true b tally)
    by true e = tally_like
        (λ n. sym (count_more watches watch true e n ∙ ap (λ k. violating n watches + cond k 1 0) (and-false (is_numbered n watch.name)) ∙ omega arith))
        (sym (weight_more watches watch true e ∙ omega arith)) counted
    by false e = tally_like (one_more watches watch e) (sym (weight_more watches watch false e))
        (add_law (λ n. violating n watches) (violating_weight by_name watches) watch.name tally counted below)
