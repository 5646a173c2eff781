-- What a walk down reached, and where the types below one of them stand together.
use Rattle.std.proofs.Common.{◌≡◌, ◌∙◌, ◌⊎◌, inl, inr, ⊎_elim, ℕ, zero, suc, ◌+◌, ◌<◌, ◌≤◌, List, [], ◌∷◌, ◌++◌, map, length, take, get_or, Some, refl, sym, ap, subst, arith}
use Rattle.std.specs.Prelude.{All, Contains, slice_get, slice_set, IfSome, Option}
use Rattle.std.proofs.lemmas.Bool.{cases_lt}
use Rattle.std.proofs.lemmas.List.{get_or-set_same, get_or-set_other, get_or_append_left, get_or_push, get_or-map, length-map, length_push, map_more}
use Rattle.std.proofs.Math.ListN.{length-set}
use Rattle.std.proofs.lemmas.List.Elements.{All-nil, All-push, All-weaker, All-contains}
use Rattle.std.proofs.lemmas.List.Sums.{passes_at_first}
use Rattle.std.proofs.lemmas.Slice.Eq.{bytes_eq-Decides}
use Rattle.p3_task.specs.Names.{Name, same_name}
use Rattle.p3_task.specs.Laws.{Chain, none, step}
use Rattle.p3_hierarchy.specs.Kinds.{lows_under}
use Rattle.p3_hierarchy.specs.Walks.{kind_at, place_of, no_place, IsAt, IsNext, IsWalked, IsOwn, IsReached, IsSpan, IsTop, IsLesser, IsGreater}
use denote.Ref.{Bor}
use Rattle.p3_hierarchy.specs.Nexts.{AreNext}
use Rattle.p3_hierarchy.specs.declared.walk.Next.{Next}
use Rattle.p3_hierarchy.specs.Reaches.{AreReached, AreTops}
use Rattle.p3_hierarchy.specs.Spans.{AreSpans}
use Rattle.p3_hierarchy.specs.declared.reaches.Reach.{Reach}
use Rattle.p3_hierarchy.specs.declared.span.Span.{Span}
use Rattle.p3_task.proofs.OnceLemmas.{Some-injective}
use Rattle.p3_hierarchy.proofs.SearchLemmas.{low-filed, filed-lows}

pub chained : {pairs : List (Name × Name)} {low middle high : Name} → Chain pairs low middle → Chain pairs middle high → Chain pairs low high
chained (none kind) rest = rest
chained (step low next middle here more) rest = step low next _ here (chained more rest)

pub at-place : (names : List Name) (kind : Name) → place_of names kind < length names → kind_at names (place_of names kind) ≡ kind
at-place names kind within = (bytes_eq-Decides (kind_at names (place_of names kind)) kind).0 (passes_at_first (λ other. same_name other kind) names [] within)

-- ---- a type itself, and what is directly below it

module _ (pairs : List (Name × Name)) (names : List Name) (place : ℕ) where
  pub own-none : IsOwn pairs names place [] place place
  own-none = record { least_within = omega arith; least_chain = none _; bound = All-nil _ }

  pub own-more : (lows : List Name) (low : Name) (old_least old_most least most : ℕ) → place < length names → Contains pairs (low, kind_at names place)
      → IsLesser old_least (place_of names low) least → IsGreater old_most (place_of names low) most
      → IsOwn pairs names place lows old_least old_most → IsOwn pairs names place (lows ++ low ∷ []) least most
  own-more lows low old_least old_most least most within here lesser greater own = record {
    least_within = omega (arith, lesser.below_first, own.least_within);
    least_chain = ⊎_elim
        (λ is. subst (λ one. Chain pairs (kind_at names one) (kind_at names place)) (sym is) own.least_chain)
        (λ is. subst (λ one. Chain pairs one (kind_at names place)) (sym (at-place names low (omega (arith, is, lesser.below_first, own.least_within, within))) ∙ ap (kind_at names) (sym is))
        (step low (kind_at names place) (kind_at names place) here (none _)))
        lesser.is;
    bound = All-push (λ one. (least ≤ place_of names one) × (place_of names one ≤ most)) lows low
        (All-weaker (λ one. (old_least ≤ place_of names one) × (place_of names one ≤ old_most)) (λ one. (least ≤ place_of names one) × (place_of names one ≤ most))
        (λ one both. (omega (arith, both.0, lesser.below_first), omega (arith, both.1, greater.above_first))) lows own.bound)
        (lesser.below_second, greater.above_second);
  }

  pub lows-more : (lows : List (Bor (List ℕ))) (i : ℕ) (d : Bor (List ℕ)) (p old_least old_most least most : ℕ) → i < length lows → p ≡ place_of names (get_or lows i d).now
      → IsLesser old_least p least → IsGreater old_most p most → place < length names → All (λ low. Contains pairs (low.now, kind_at names place)) lows
      → IsOwn pairs names place (map (λ low. low.now) (take i lows)) old_least old_most → IsOwn pairs names place (map (λ low. low.now) (take (i + 1) lows)) least most
  lows-more lows i d p old_least old_most least most within is lesser greater here all own =
      subst (λ ls. IsOwn pairs names place ls least most) (sym (map_more (λ (low : Bor (List ℕ)). low.now) lows i d within))
      (own-more (map (λ low. low.now) (take i lows)) (get_or lows i d).now old_least old_most least most here (all i d within)
      (subst (λ p. IsLesser old_least p least) is lesser) (subst (λ p. IsGreater old_most p most) is greater) own)

  pub own-all : (least most : ℕ) → place < length names → IsOwn pairs names place (lows_under pairs (kind_at names place)) least most → IsReached pairs names place (place + 1) least most
  own-all least most within own = record {
    after = omega arith;
    within = omega arith;
    least_within = own.least_within;
    chains = λ k from upto. let is : place ≡ k = omega (arith, from, upto) in subst (λ one. Chain pairs (kind_at names one) (kind_at names place)) is (none _);
    least_chain = own.least_chain;
    least_bound = λ k low from upto here. (bounds k low from upto here).0;
    most_bound = λ k low from upto here. (bounds k low from upto here).1;
  }
    where
      bounds : (k : ℕ) (low : Name) → place ≤ k → k < place + 1 → Contains pairs (low, kind_at names k) → (least ≤ place_of names low) × (place_of names low ≤ most)
      bounds k low from upto here =
          let is : k ≡ place = omega (arith, from, upto) in
          All-contains (λ one. (least ≤ place_of names one) × (place_of names one ≤ most)) (lows_under pairs (kind_at names place)) low own.bound
          (low-filed (kind_at names place) pairs low (subst (λ one. Contains pairs (low, kind_at names one)) is here))

  -- ---- what is reached next

  pub reach-joined : (from : List ℕ) (end least most next_end next_least next_most new_least new_most : ℕ) → IsWalked pairs names from
      → end < length from → place ≤ get_or from end 0 → get_or from end 0 < end
      → IsReached pairs names place end least most → IsReached pairs names end next_end next_least next_most
      → IsLesser least next_least new_least → IsGreater most next_most new_most → IsReached pairs names place next_end new_least new_most
  reach-joined from end least most next_end next_least next_most new_least new_most walked within later before first next lesser greater = record {
    after = omega (arith, first.after, next.after);
    within = next.within;
    least_within = omega (arith, first.least_within, lesser.below_first);
    chains = λ k start upto. ⊎_elim (λ here. first.chains k start here) (λ there. chained (next.chains k there upto) up) (cases_lt k end);
    least_chain = ⊎_elim
        (λ is. subst (λ one. Chain pairs (kind_at names one) (kind_at names place)) (sym is) first.least_chain)
        (λ is. subst (λ one. Chain pairs (kind_at names one) (kind_at names place)) (sym is) (chained next.least_chain up))
        lesser.is;
    least_bound = λ k low start upto here. ⊎_elim
        (λ before. let bound : least ≤ place_of names low = first.least_bound k low start before here in omega (arith, bound, lesser.below_first))
        (λ behind. let bound : next_least ≤ place_of names low = next.least_bound k low behind upto here in omega (arith, bound, lesser.below_second))
        (cases_lt k end);
    most_bound = λ k low start upto here. ⊎_elim
        (λ before. let bound : place_of names low ≤ most = first.most_bound k low start before here in omega (arith, bound, greater.above_first))
        (λ behind. let bound : place_of names low ≤ next_most = next.most_bound k low behind upto here in omega (arith, bound, greater.above_second))
        (cases_lt k end);
  }
    where
      up : Chain pairs (kind_at names end) (kind_at names place)
      up = step (kind_at names end) (kind_at names (get_or from end 0)) (kind_at names place) (walked.led end (omega (arith, within, walked.long)) before) (first.chains (get_or from end 0) later before)

  -- ---- the types below one of them stand together

  pub top-before : (reaches : List Reach) (tops : List ℕ) (d : Reach) → place < length names → (get_or reaches place d).least < place → length tops ≡ place
      → AreReached pairs names 0 reaches → AreTops pairs names tops → IsTop pairs names place (get_or tops (get_or reaches place d).least 0)
  top-before reaches tops d within earlier long reached each =
      let top = each.each (get_or reaches place d).least (omega (arith, earlier, long)) in
      record { before = omega (arith, top.before, earlier); chain = chained top.chain (reached.reached place d (omega arith) within).least_chain }

  pub span-found : (top end least most : ℕ) → IsReached pairs names top end least most → IsTop pairs names place top → place < end → top ≤ least → most < end → IsSpan pairs names place top end
  span-found top end least most reached is_top within first last = record {
    within = reached.within;
    inside = λ high low is chain. inside chain (omega (arith, is, is_top.before), omega (arith, is, within));
    chains = λ high low is start upto.
        subst (λ one. Chain pairs one high) (at-place names low (omega (arith, upto, reached.within)))
        (subst (λ one. Chain pairs (kind_at names (place_of names low)) one) (ap (kind_at names) (sym is) ∙ at-place names high (omega (arith, is, within, reached.within)))
        (chained (reached.chains (place_of names low) start upto) is_top.chain));
  }
    where
      inside : {low high : Name} → Chain pairs low high → (top ≤ place_of names high) × (place_of names high < end) → (top ≤ place_of names low) × (place_of names low < end)
      inside (none kind) here = here
      inside (step low middle high pair more) here =
          let between = inside more here in
          let there : Contains pairs (low, kind_at names (place_of names middle)) = subst (λ one. Contains pairs (low, one)) (sym (at-place names middle (omega (arith, between.1, reached.within)))) pair in
          let lower : least ≤ place_of names low = reached.least_bound (place_of names middle) low between.0 between.1 there in
          let upper : place_of names low ≤ most = reached.most_bound (place_of names middle) low between.0 between.1 there in
          (omega (arith, lower, first), omega (arith, upper, last))

-- ---- lists

pub reached-set : (pairs : List (Name × Name)) (names : List Name) (place : ℕ) (reaches : List Reach) (one : Reach) → place < length names
    → AreReached pairs names (place + 1) reaches → IsReached pairs names place one.end one.least one.most → AreReached pairs names place (slice_set reaches place one)
reached-set pairs names place reaches one within known here = record {
  long = length-set reaches place one ∙ known.long;
  reached = λ k d from upto. ⊎_elim
      (λ later. subst (λ is. IsReached pairs names k is.end is.least is.most) (sym (get_or-set_other reaches place k one d (λ same. absurd (omega (arith, same, later))))) (known.reached k d later upto))
      (λ up. let is : place ≡ k = omega (arith, from, up) in
      subst (λ at. IsReached pairs names at (get_or (slice_set reaches place one) at d).end (get_or (slice_set reaches place one) at d).least (get_or (slice_set reaches place one) at d).most) is
      (subst (λ is. IsReached pairs names place is.end is.least is.most) (sym (get_or-set_same reaches place one d (omega (arith, within, known.long)))) here))
      (by k);
}
  where
    by : (k : ℕ) → (place + 1 ≤ k) ⊎ (k ≤ place)
    by k = ⊎_elim (λ less. inr (omega (arith, less))) (λ more. inl more) (cases_lt k (place + 1))

-- ---- a walk

All-unmapped : {X Y : Type 0} (P : Y → Type 0) (f : X → Y) (xs : List X) → All P (map f xs) → All (λ x. P (f x)) xs
All-unmapped P f xs all = λ k d within. subst P (get_or-map f xs k d (f d) within) (all k (f d) (omega (arith, within, length-map xs f)))

pub next-more : (pairs : List (Name × Name)) (names : List Name) (more kind : Name) (from : ℕ) → IsNext pairs names kind from → IsNext pairs (names ++ more ∷ []) kind from
next-more pairs names more kind from next = record {
  within = λ below. omega (arith, next.within below, length_push names more);
  led = λ below. subst (λ one. Contains pairs (kind, one)) (sym (get_or_append_left names (more ∷ []) [] from (next.within below))) (next.led below);
}

pub nexts-more : (pairs : List (Name × Name)) (names : List Name) (more : Name) (next : List Next) → AreNext pairs names next → AreNext pairs (names ++ more ∷ []) next
nexts-more pairs names more next all = All-weaker (λ (one : Next). IsNext pairs names one.kind.now one.from) (λ (one : Next). IsNext pairs (names ++ more ∷ []) one.kind.now one.from)
    (λ one here. next-more pairs names more one.kind.now one.from here) next all

pub at-more : (names : List Name) (more : Name) → IsAt (names ++ more ∷ []) (length names) more
at-more names more = record { within = omega (arith, length_push names more); is = get_or_push names more [] (length names) refl }

pub walked-more : (pairs : List (Name × Name)) (names : List Name) (from : List ℕ) (kind : Name) (one : ℕ) → length names ≤ no_place
    → IsWalked pairs names from → IsNext pairs names kind one → IsWalked pairs (names ++ kind ∷ []) (from ++ one ∷ [])
walked-more pairs names from kind one small walked next = record {
  long = omega (arith, length_push names kind, length_push from one, walked.long);
  led = λ place within before. ⊎_elim (λ earlier. old place earlier before) (λ late. new place (omega (arith, late, within, length_push names kind)) before) (cases_lt place (length names));
}
  where
    old : (place : ℕ) → place < length names → get_or (from ++ one ∷ []) place 0 < place → Contains pairs (kind_at (names ++ kind ∷ []) place, kind_at (names ++ kind ∷ []) (get_or (from ++ one ∷ []) place 0))
    old place within before =
        let same : get_or (from ++ one ∷ []) place 0 ≡ get_or from place 0 = get_or_append_left from (one ∷ []) 0 place (omega (arith, within, walked.long)) in
        let earlier : get_or from place 0 < place = omega (arith, before, same) in
        let here : kind_at (names ++ kind ∷ []) place ≡ kind_at names place = get_or_append_left names (kind ∷ []) [] place within in
        let there : kind_at (names ++ kind ∷ []) (get_or from place 0) ≡ kind_at names (get_or from place 0) = get_or_append_left names (kind ∷ []) [] (get_or from place 0) (omega (arith, earlier, within)) in
        subst (λ at. Contains pairs (kind_at (names ++ kind ∷ []) place, kind_at (names ++ kind ∷ []) at)) (sym same)
        (subst (λ high. Contains pairs (kind_at (names ++ kind ∷ []) place, high)) (sym there)
        (subst (λ low. Contains pairs (low, kind_at names (get_or from place 0))) (sym here) (walked.led place within earlier)))

    new : (place : ℕ) → place ≡ length names → get_or (from ++ one ∷ []) place 0 < place → Contains pairs (kind_at (names ++ kind ∷ []) place, kind_at (names ++ kind ∷ []) (get_or (from ++ one ∷ []) place 0))
    new place is before =
        let same : get_or (from ++ one ∷ []) place 0 ≡ one = get_or_push from one 0 place (omega (arith, is, walked.long)) in
        let earlier : one < length names = omega (arith, before, same, is) in
        let here : kind_at (names ++ kind ∷ []) place ≡ kind = get_or_push names kind [] place (sym is) in
        let there : kind_at (names ++ kind ∷ []) one ≡ kind_at names one = get_or_append_left names (kind ∷ []) [] one earlier in
        subst (λ at. Contains pairs (kind_at (names ++ kind ∷ []) place, kind_at (names ++ kind ∷ []) at)) (sym same)
        (subst (λ high. Contains pairs (kind_at (names ++ kind ∷ []) place, high)) (sym there)
        (subst (λ low. Contains pairs (low, kind_at names one)) (sym here) (next.led (omega (arith, earlier, small)))))

-- what is filed below a type
pub lows-listed : (pairs : List (Name × Name)) (high : Name) (lows : List (Bor (List ℕ))) → map (λ low. low.now) lows ≡ lows_under pairs high → All (λ low. Contains pairs (low.now, high)) lows
lows-listed pairs high lows is = All-unmapped (λ low. Contains pairs (low, high)) (λ (low : Bor (List ℕ)). low.now) lows (subst (All (λ low. Contains pairs (low, high))) (sym is) (filed-lows high pairs))

pub lows-next : (pairs : List (Name × Name)) (names : List Name) (high : Name) (from : ℕ) (lows : List (Bor (List ℕ))) → map (λ low. low.now) lows ≡ lows_under pairs high
    → IsAt names from high → All (λ low. IsNext pairs names low.now from) lows
lows-next pairs names high from lows is at = All-weaker (λ low. Contains pairs (low.now, high)) (λ low. IsNext pairs names low.now from)
    (λ low here. record { within = λ below. at.within; led = λ below. subst (λ one. Contains pairs (low.now, one)) (sym at.is) here }) lows (lows-listed pairs high lows is)

pub tops-more : (pairs : List (Name × Name)) (names : List Name) (tops : List ℕ) (top : ℕ) → AreTops pairs names tops → IsTop pairs names (length tops) top → AreTops pairs names (tops ++ top ∷ [])
tops-more pairs names tops top before is_top = record {
  each = λ place within. ⊎_elim
      (λ earlier. subst (IsTop pairs names place) (sym (get_or_append_left tops (top ∷ []) 0 place earlier)) (before.each place earlier))
      (λ late. let is : length tops ≡ place = omega (arith, late, within, length_push tops top) in
      subst (IsTop pairs names place) (sym (get_or_push tops top 0 place is)) (subst (λ at. IsTop pairs names at top) is is_top))
      (cases_lt place (length tops));
}

get-push : {A : Type 0} (xs : List A) (y x : A) (k : ℕ) → slice_get (xs ++ y ∷ []) k ≡ Some x → (slice_get xs k ≡ Some x) ⊎ ((k ≡ length xs) × (y ≡ x))
get-push [] y x zero at = inr (refl, Some-injective y x at)
get-push [] y x (suc k) at = absurd (cc)
get-push (z ∷ xs) y x zero at = inl at
get-push (z ∷ xs) y x (suc k) at = ⊎_elim (λ here. inl here) (λ (is, same). inr (ap (λ n. suc n) is, same)) (get-push xs y x k at)

pub spans-more : (pairs : List (Name × Name)) (names : List Name) (spans : List (Option Span)) (one : Option Span) → AreSpans pairs names spans
    → IfSome one (λ span. IsSpan pairs names (length spans) span.first span.end) → AreSpans pairs names (spans ++ one ∷ [])
spans-more pairs names spans one before told = record {
  each = λ place span at. ⊎_elim
      (λ here. before.each place span here)
      (λ (is, same). subst (λ at. IsSpan pairs names at span.first span.end) (sym is) (subst (λ one. IfSome one (λ span. IsSpan pairs names (length spans) span.first span.end)) same told))
      (get-push spans one (Some span) place at);
}

pub tops-before : (place : ℕ) (tops more : List ℕ) (top : ℕ) → length tops ≡ place → more ≡ tops ++ top ∷ [] → ((k : ℕ) → k < length tops → get_or tops k 0 ≤ k) → top ≤ place
    → (k : ℕ) → k < length more → get_or more k 0 ≤ k
tops-before place tops more top long is before top_before k within = subst (λ all. get_or all k 0 ≤ k) (sym is) (⊎_elim
    (λ earlier. let same : get_or (tops ++ top ∷ []) k 0 ≡ get_or tops k 0 = get_or_append_left tops (top ∷ []) 0 k earlier in
    let old : get_or tops k 0 ≤ k = before k earlier in omega (arith, same, old))
    (λ late. let at : length tops ≡ k = omega (arith, late, within, ap length is, length_push tops top) in
    let same : get_or (tops ++ top ∷ []) k 0 ≡ top = get_or_push tops top 0 k at in omega (arith, same, at, long, top_before))
    (cases_lt k (length tops)))

pub got-at : {A : Type 0} (xs : List A) (k : ℕ) (x d : A) → slice_get xs k ≡ Some x → get_or xs k d ≡ x
got-at [] k x d at = absurd (cc)
got-at (y ∷ xs) zero x d at = Some-injective y x at
got-at (y ∷ xs) (suc k) x d at = got-at xs k x d at
