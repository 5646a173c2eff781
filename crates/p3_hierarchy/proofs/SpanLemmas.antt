-- The search for all types below others, which takes types that stand together at once.
use Rattle.std.proofs.Common.{◌≡◌, ◌∙◌, ◌⊎◌, inl, inr, ⊎_elim, ℕ, ◌+◌, ◌<◌, ◌≤◌, Bool, true, false, ◌&&◌, ◌||◌, List, [], ◌∷◌, ◌++◌, length, take, get_or, refl, sym, ap, subst, arith}
use Rattle.std.specs.Prelude.{All, Contains, nat_lt, not, Option}
use Rattle.std.specs.List.{list_any}
use Rattle.std.proofs.lemmas.Bool.{false≢true, and_parts}
use borrow.Author.Tests.{ltb-true, ltb-false, not-true, lt-ltb, le-ltb}
use Rattle.std.proofs.lemmas.List.{take_more, take_all, take-append-le}
use Rattle.std.proofs.lemmas.List.Elements.{All-nil, All-push, All-get_or, All-weaker, All-contains, All-contains_itself, Contains-append_left, Contains-push, Contains-push_cases}
use Rattle.std.proofs.lemmas.List.Folds.{Any-from_list_any}
use Rattle.p3_task.specs.Names.{Name, has_name, object_type}
use Rattle.p3_task.specs.declared.term.Ref.{Ref}
use Rattle.p3_task.specs.Types.{declared_pairs, below, type_names, names_of, is_below_some}
use Rattle.p3_task.specs.declared.task.Task.{Task}
use Rattle.p3_task.proofs.BelowLemmas.{below_is_the_closure}
use Rattle.p3_task.specs.Laws.{Chain, none, step}
use Rattle.p3_numbers.specs.Names.{with_names}
use Rattle.p3_hierarchy.specs.Kinds.{lows_under, IsLed}
use Rattle.p3_hierarchy.specs.Walks.{place_of, IsSpan}
use Rattle.p3_hierarchy.specs.Spans.{is_in, is_found, AreSpans, AreLed, HasAll, IsSpanned, IsFollowed, IsSearched, IsDownFrom}
use Rattle.p3_hierarchy.specs.declared.span.Span.{Span}
use Rattle.p3_hierarchy.proofs.ReachLemmas.{chained}
use Rattle.p3_hierarchy.proofs.SearchLemmas.{Continues, continues-all, kept, all-new, all-with, low-filed, filed-lows, has-contains, contains-has, same, some-passes}

-- ---- tests

or-cases : (a b : Bool) → (a || b) ≡ true → (a ≡ true) ⊎ (b ≡ true)
or-cases true b e = inl refl
or-cases false b e = inr e

or-left : (a b : Bool) → a ≡ true → (a || b) ≡ true
or-left true b e = refl
or-left false b e = absurd (false≢true e)

or-right : (a b : Bool) → b ≡ true → (a || b) ≡ true
or-right true b e = refl
or-right false b e = e

in-bounds : (place : ℕ) (span : Span) → is_in place span ≡ true → (span.first ≤ place) × (place < span.end)
in-bounds place span e =
    let both = and_parts (not (nat_lt place span.first)) (nat_lt place span.end) e in
    (ltb-false place span.first (not-true (nat_lt place span.first) both.0), ltb-true place span.end both.1)

bounds-in : (place : ℕ) (span : Span) → span.first ≤ place → place < span.end → is_in place span ≡ true
bounds-in place span from upto = λ i. not (le-ltb place span.first from i) && lt-ltb place span.end upto i

-- ---- the search

module _ (pairs : List (Name × Name)) (names highs : List Name) where
  pub searched-none : IsSearched pairs names highs 0 (with_names [] highs) []
  searched-none = record {
    led = all-with (IsLed pairs highs) [] highs (All-nil _)
        (All-weaker (Contains highs) (IsLed pairs highs) (λ high here. record { high = high; listed = here; chain = none high }) highs (All-contains_itself highs));
    listed = all-new [] highs;
    spans_led = All-nil _;
    done = λ low high pair (k, within, is). absurd (omega (arith, within));
  }

  spanned-more : (spans : List Span) (span : Span) (high : Name) → IsSpanned pairs names spans high → IsSpanned pairs names (spans ++ span ∷ []) high
  spanned-more spans span high before = record { span = before.span; listed = Contains-append_left spans (span ∷ []) before.span before.listed; all = before.all }

  -- one span more
  searched-span : (at : ℕ) (found : List Name) (spans : List Span) (high : Name) (span : Span) → IsSpan pairs names (place_of names high) span.first span.end
      → at < length found → high ≡ get_or found at high → IsSearched pairs names highs at found spans → IsSearched pairs names highs (at + 1) found (spans ++ span ∷ [])
  searched-span at found spans high span exact within read before = record {
    led = before.led;
    listed = before.listed;
    spans_led = All-push (AreLed pairs names highs) spans span before.spans_led (record {
      each = λ low inside.
          let between = in-bounds (place_of names low) span inside in
          record { high = above.high; listed = above.listed; chain = chained (exact.chains high low refl between.0 between.1) above.chain };
    });
    done = λ low other pair passed. ⊎_elim
        (λ earlier. ⊎_elim (λ here. inl here) (λ spanned. inr (spanned-more spans span other spanned)) (before.done low other pair earlier))
        (λ now. inr (subst (IsSpanned pairs names (spans ++ span ∷ [])) now (record {
          span = span;
          listed = Contains-push spans span;
          all = record { each = λ one chain. let inside = exact.inside high one refl chain in bounds-in (place_of names one) span inside.0 inside.1 };
        })))
        (Contains-push_cases (take at found) high other (subst (λ names. Contains names other) front passed));
  }
    where
      above : IsLed pairs highs high
      above = subst (IsLed pairs highs) (sym read) (All-get_or (IsLed pairs highs) found at high within before.led)

      front : take (at + 1) found ≡ take at found ++ high ∷ []
      front = take_more found at high within ∙ ap (λ one. take at found ++ one ∷ []) (sym read)

  -- what is directly below one more
  searched-lows : (at : ℕ) (found : List Name) (spans : List Span) (high : Name) → at < length found → high ≡ get_or found at high
      → IsSearched pairs names highs at found spans → IsSearched pairs names highs (at + 1) (with_names found (lows_under pairs high)) spans
  searched-lows at found spans high within read before = record {
    led = all-with (IsLed pairs highs) found (lows_under pairs high) before.led (All-weaker (λ low. Contains pairs (low, high)) (IsLed pairs highs)
        (λ low here. record { high = above.high; listed = above.listed; chain = step low high above.high here above.chain }) (lows_under pairs high) (filed-lows high pairs));
    listed = All-weaker (Contains found) (Contains longer) (λ name here. kept found longer name continues here) highs before.listed;
    spans_led = before.spans_led;
    done = λ low other pair passed. ⊎_elim
        (λ earlier. ⊎_elim (λ here. inl (kept found longer low continues here)) (λ spanned. inr spanned) (before.done low other pair earlier))
        (λ now. inl (All-contains (Contains longer) (lows_under pairs other) low (subst (λ one. All (Contains longer) (lows_under pairs one)) now (all-new found (lows_under pairs high))) (low-filed other pairs low pair)))
        (Contains-push_cases (take at found) high other (subst (λ names. Contains names other) front passed));
  }
    where
      longer : List Name
      longer = with_names found (lows_under pairs high)

      continues : Continues found (with_names found (lows_under pairs high))
      continues = continues-all found (lows_under pairs high)

      above : IsLed pairs highs high
      above = subst (IsLed pairs highs) (sym read) (All-get_or (IsLed pairs highs) found at high within before.led)

      front : take (at + 1) (with_names found (lows_under pairs high)) ≡ take at found ++ high ∷ []
      front = ap (take (at + 1)) continues.is ∙ take-append-le (at + 1) found continues.more (omega (arith, within)) ∙ take_more found at high within ∙ ap (λ one. take at found ++ one ∷ []) (sym read)

  pub searched-more : (noted : List (Option Span)) (at : ℕ) (found : List Name) (spans : List Span) (high : Name) (new_found : List Name) (new_spans : List Span)
      → AreSpans pairs names noted → at < length found → high ≡ get_or found at high → IsFollowed pairs names noted high found spans new_found new_spans
      → IsSearched pairs names highs at found spans → IsSearched pairs names highs (at + 1) new_found new_spans
  searched-more noted at found spans high new_found new_spans exact within read followed before = ⊎_elim
      (λ (span, is_noted, same_found, more). subst (λ found. IsSearched pairs names highs (at + 1) found new_spans) (sym same_found) (subst (IsSearched pairs names highs (at + 1) found) (sym more)
      (searched-span at found spans high span (exact.each (place_of names high) span is_noted) within read before)))
      (λ (more, same_spans). subst (λ found. IsSearched pairs names highs (at + 1) found new_spans) (sym more) (subst (IsSearched pairs names highs (at + 1) (with_names found (lows_under pairs high))) (sym same_spans)
      (searched-lows at found spans high within read before)))
      followed.is

  pub searched-all : (count : ℕ) (found : List Name) (spans : List Span) → length found ≤ count → IsSearched pairs names highs count found spans → IsDownFrom pairs names highs found spans
  searched-all count found spans all before = record {
    led = λ low is. ⊎_elim
        (λ has. All-contains (IsLed pairs highs) found low before.led (contains-has found low has))
        (λ spanned. let (k, span, here, at, inside) = Any-from_list_any (is_in (place_of names low)) spans spanned in
        (All-contains (AreLed pairs names highs) spans span before.spans_led (k, here, at)).each low inside)
        (or-cases (has_name found low) (list_any (is_in (place_of names low)) spans) is);
    all = λ low led. ⊎_elim
        (λ here. or-left (has_name found low) (list_any (is_in (place_of names low)) spans) (has-contains found low here))
        (λ (span, listed, high, has_all, chain). or-right (has_name found low) (list_any (is_in (place_of names low)) spans) (some-passes (is_in (place_of names low)) spans span listed (has_all.each low chain)))
        (reached led.chain (inl (All-contains (Contains found) highs led.high before.listed led.listed)));
  }
    where
      reached : {low high : Name} → Chain pairs low high
          → Contains found high ⊎ ((span : Span) × Contains spans span × (top : Name) × HasAll pairs names top span × Chain pairs high top)
          → Contains found low ⊎ ((span : Span) × Contains spans span × (top : Name) × HasAll pairs names top span × Chain pairs low top)
      reached (none kind) here = here
      reached (step low middle high pair more) here = ⊎_elim
          (λ is_found. ⊎_elim (λ below. inl below) (λ spanned. inr (spanned.span, spanned.listed, middle, spanned.all, step low middle middle pair (none middle)))
          (before.done low middle pair (subst (λ names. Contains names middle) (sym (take_all count found all)) is_found)))
          (λ (span, listed, top, has_all, chain). inr (span, listed, top, has_all, step low middle top pair chain))
          (reached more here)

below-found : (T : Task) (names highs found : List Name) (spans : List Span) (low : Name) → has_name highs object_type ≡ false → IsDownFrom (declared_pairs T) names highs found spans
    → is_found names found spans low ≡ list_any (λ high. below T low high) highs
below-found T names highs found spans low no_top down = same (is_found names found spans low) (list_any (λ high. below T low high) highs)
    (λ has. let led = down.led low has in
    some-passes (λ high. below T low high) highs led.high led.listed ((below_is_the_closure T low led.high).1 (inr led.chain)))
    (λ is_below. let (k, high, within, at, holds) = Any-from_list_any (λ high. below T low high) highs is_below in
    down.all low (led high (k, within, at) ((below_is_the_closure T low high).0 holds)))
  where
    led : (high : Name) → Contains highs high → (high ≡ object_type) ⊎ Chain (declared_pairs T) low high → IsLed (declared_pairs T) highs low
    led high here (inl top) = absurd (false≢true (sym no_top ∙ has-contains highs object_type (subst (Contains highs) top here)))
    led high here (inr chain) = record { high = high; listed = here; chain = chain }

pub below-listed : (T : Task) (types : List Ref) (names found : List Name) (spans : List Span) (low : Name) → has_name (type_names types) object_type ≡ false
    → IsDownFrom (declared_pairs T) names (names_of types) found spans → is_found names found spans low ≡ is_below_some T types low
below-listed T [] names found spans low no_top down = absurd (false≢true (sym no_top ∙ has-contains (object_type ∷ []) object_type (Contains-push [] object_type)))
below-listed T (first ∷ others) names found spans low no_top down = below-found T names (names_of (first ∷ others)) found spans low no_top down
