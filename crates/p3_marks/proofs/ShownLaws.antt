-- What a mark shows is what the places of all visited states show.
use Rattle.std.proofs.Common.{◌≡◌, ◌∙◌, ℕ, ◌<◌, nat_lt, Bool, true, not, ◌&&◌, List, length, refl, sym, ap, arith, Option, Some, None, true≢false}
use Rattle.std.specs.Prelude.{is_some, unwrap_or, if◌then◌else◌}
use Rattle.std.specs.Bool.{one_answer}
use Rattle.std.proofs.lemmas.Bool.{and_parts, and_from, le-ltb, lt-ltb, ltb-true}
use Rattle.p3_base.specs.Showings.{is_unanswered, is_unprepared}
use Rattle.p3_base.specs.Trajectories.{came_back}
use Rattle.p3_base.specs.declared.showing.Showing.TheVariants as showing
use Rattle.p3_base.proofs.TrajectoryLemmas.{HasGap, came_tells, not_tells, not-came, not-awaited, not-early}
use Rattle.p3_formula.specs.Forms.{State}
use Rattle.p3_formula.specs.GroundSat.{holds_at}
use Rattle.p3_formula.specs.GroundModal.{GroundModal}
use Rattle.p3_base.specs.declared.operator.Operator.TheVariants.{AtEnd, Always, Sometime, AtMostOnce, SometimeAfter, SometimeBefore}
use Rattle.p3_marks.specs.Marks.{least_place, is_gap, is_again, failing, found, returned, mark_of, shown_by}
use Rattle.p3_marks.specs.Reasons.{ground_shown}
use Rattle.p3_marks.proofs.PlaceLaws.{IsLeast, IsUpTo, is_least, least_up_to, some_is, each_is}

-- ---- a return

module _ (n : ℕ) (h : ℕ → Bool) where
  abbrev first : Option ℕ
  first = least_place n h

  abbrev gap : Option ℕ
  gap = least_place n (is_gap n h)

  abbrev again : Option ℕ
  again = least_place n (is_again n h)

  -- behind no place stands no other
  some_before : (o : Option ℕ) (k : ℕ) → k < n → nat_lt (unwrap_or o n) k ≡ true → is_some o ≡ true
  some_before None k lt over = absurd (true≢false (sym over ∙ le-ltb n k (omega arith)))
  some_before (Some place) k lt over = refl

  -- a place that passes with a bound before it
  pub gap_behind : is_some again ≡ true → is_some gap ≡ true
  gap_behind = by again (is_least (is_again n h) n) where
    by : (o : Option ℕ) → IsLeast n (is_again n h) o → is_some o ≡ true → is_some gap ≡ true
    by None is there = absurd (cc)
    by (Some k) is there = some_before gap k is.0 (and_parts (nat_lt (unwrap_or gap n) k) (h k) is.1).0

  pub first_behind : is_some gap ≡ true → is_some first ≡ true
  first_behind = by gap (is_least (is_gap n h) n) where
    by : (o : Option ℕ) → IsLeast n (is_gap n h) o → is_some o ≡ true → is_some first ≡ true
    by None is there = absurd (cc)
    by (Some j) is there = some_before first j is.0 (and_parts (nat_lt (unwrap_or first n) j) (not (h j)) is.1).0

  has_gap : is_some again ≡ true → HasGap n h
  has_gap = by_again again (is_least (is_again n h) n) where
    by_first : (k j : ℕ) (o : Option ℕ) → IsLeast n h o → k < n → h k ≡ true → j < n → j < k → (nat_lt (unwrap_or o n) j && not (h j)) ≡ true → HasGap n h
    by_first k j None is k_in back j_in j_k gapped = absurd (true≢false (sym (and_parts (nat_lt n j) (not (h j)) gapped).0 ∙ le-ltb n j (omega arith)))
    by_first k j (Some i) is k_in back j_in j_k gapped =
        let parts = and_parts (nat_lt i j) (not (h j)) gapped in
        (k, k_in, (back, (j, j_in, ((j_k, (not_tells (h j)).0 parts.1), (i, is.0, (ltb-true i j parts.0, is.1))))))

    by_gap : (k : ℕ) (o : Option ℕ) → IsLeast n (is_gap n h) o → k < n → (nat_lt (unwrap_or o n) k && h k) ≡ true → HasGap n h
    by_gap k None is k_in passes = absurd (true≢false (sym (and_parts (nat_lt n k) (h k) passes).0 ∙ le-ltb n k (omega arith)))
    by_gap k (Some j) is k_in passes =
        let parts = and_parts (nat_lt j k) (h k) passes in
        by_first k j first (is_least h n) k_in parts.1 is.0 (ltb-true j k parts.0) is.1

    by_again : (o : Option ℕ) → IsLeast n (is_again n h) o → is_some o ≡ true → HasGap n h
    by_again None is there = absurd (cc)
    by_again (Some k) is there = by_gap k gap (is_least (is_gap n h) n) is.0 is.1

  there_is : (p : ℕ → Bool) (o : Option ℕ) (m : ℕ) → IsUpTo n p m o → is_some o ≡ true
  there_is p None m up = absurd up
  there_is p (Some i) m up = refl

  before_it : (p : ℕ → Bool) (o : Option ℕ) (m k : ℕ) → IsUpTo n p m o → m < k → nat_lt (unwrap_or o n) k ≡ true
  before_it p None m k up lt = absurd up
  before_it p (Some i) m k up lt = lt-ltb i k (omega (arith, up, lt))

  has_return : HasGap n h → is_some again ≡ true
  has_return (k, k_in, (back, (j, j_in, ((j_k, ceased), (i, i_in, (i_j, held)))))) =
      let one = least_up_to h n i i_in held in
      let gapped : is_gap n h j ≡ true = and_from (nat_lt (unwrap_or first n) j) (not (h j)) (before_it h first i j one i_j) ((not_tells (h j)).1 ceased) in
      let two = least_up_to (is_gap n h) n j j_in gapped in
      let returned_here : is_again n h k ≡ true = and_from (nat_lt (unwrap_or gap n) k) (h k) (before_it (is_gap n h) gap j k two j_k) back in
      there_is (is_again n h) again k (least_up_to (is_again n h) n k k_in returned_here)

  pub came_is : came_back n h ≡ is_some again
  came_is = one_answer _ _ (came_tells n h) ((has_gap, has_return))

-- ---- from a test to a place

module _ (n : ℕ) where
  failing_is : (o : Option ℕ) → (if not (is_some o) then showing.Holds else showing.FailsAt (unwrap_or o n)) ≡ failing o
  failing_is None = refl
  failing_is (Some place) = refl

  found_is : (o : Option ℕ) → (if is_some o then showing.HoldsAt (unwrap_or o n) else showing.HoldsNowhere) ≡ found o
  found_is None = refl
  found_is (Some place) = refl

  returned_is : (a b c : Option ℕ) → (is_some c ≡ true → is_some b ≡ true) → (is_some b ≡ true → is_some a ≡ true)
      → (if not (is_some c) then showing.Holds else showing.Again (unwrap_or a n) (unwrap_or b n) (unwrap_or c n)) ≡ returned a b c
  returned_is a b None two one = refl
  returned_is a None (Some k) two one = absurd (true≢false (sym (two refl)))
  returned_is None (Some j) (Some k) two one = absurd (true≢false (sym (one refl)))
  returned_is (Some i) (Some j) (Some k) two one = refl

-- ---- each operator

pub shown_is : (W : List State) (modal : GroundModal) → ground_shown W modal ≡ shown_by (length W) modal (mark_of W modal)
unfolding ground_shown
shown_is W (AtEnd f) = refl
shown_is W (Always f) =
    let n = length W in
    let h = holds_at W f in
    let place = least_place n (λ i. not (h i)) in
    ap (λ b. if b then showing.Holds else showing.FailsAt (unwrap_or place n)) (each_is h n) ∙ failing_is n place
shown_is W (Sometime f) =
    let n = length W in
    let h = holds_at W f in
    ap (λ b. if b then showing.HoldsAt (unwrap_or (least_place n h) n) else showing.HoldsNowhere) (some_is h n) ∙ found_is n (least_place n h)
shown_is W (AtMostOnce f) =
    let n = length W in
    let h = holds_at W f in
    ap (λ b. if b then showing.Holds else showing.Again (unwrap_or (first n h) n) (unwrap_or (gap n h) n) (unwrap_or (again n h) n)) (not-came n h ∙ ap not (came_is n h))
    ∙ returned_is n (first n h) (gap n h) (again n h) (gap_behind n h) (first_behind n h)
shown_is W (SometimeAfter f g) =
    let n = length W in
    let test = is_unanswered n (holds_at W f) (holds_at W g) in
    ap (λ b. if b then showing.Holds else showing.FailsAt (unwrap_or (least_place n test) n)) (not-awaited n (holds_at W f) (holds_at W g) ∙ ap not (some_is test n)) ∙ failing_is n (least_place n test)
shown_is W (SometimeBefore f g) =
    let n = length W in
    let test = is_unprepared n (holds_at W f) (holds_at W g) in
    ap (λ b. if b then showing.Holds else showing.FailsAt (unwrap_or (least_place n test) n)) (not-early n (holds_at W f) (holds_at W g) ∙ ap not (some_is test n)) ∙ failing_is n (least_place n test)
