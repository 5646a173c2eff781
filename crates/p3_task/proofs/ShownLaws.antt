-- The places that are shown show it.
use Rattle.std.proofs.Common.{◌≡◌, ◌∙◌, ℕ, zero, suc, ◌+◌, ◌-◌, ◌<◌, ◌≤◌, nat_lt, nat_le, Bool, true, false, not, ◌&&◌, cond, List, length, refl, sym, ap, arith, true≢false, Option, Some, None}
use Rattle.std.specs.Prelude.{find, unwrap_or}
use Rattle.std.specs.Bool.{Decides}
use Rattle.std.specs.List.{list_all, range_with_len}
use Rattle.std.proofs.lemmas.Bool.{cases_lt}
use Rattle.std.proofs.lemmas.Bool.Decides.{Decides-and, Decides-ltb}
use mathlib.Core.Logic.{⊎_elim}
use Rattle.p3_base.specs.Trajectories as operator
use Rattle.p3_base.specs.Trajectories.{each, some, came_back, came_early, is_awaited}
use Rattle.p3_base.specs.declared.showing.Showing.TheVariants.{Holds, HoldsAt, HoldsNowhere, FailsAt, Again}
use Rattle.p3_base.proofs.TrajectoryLemmas.{HasGap, came_tells, each_tells, implies_tells, le_tells, not-awaited, not-came, not-early, not_tells, some_tells, true_tells}
use Rattle.p3_task.specs.States.{State, Environment}
use Rattle.p3_task.specs.Constraints.{holds_at}
use Rattle.p3_task.specs.Modal.{Modal}
use Rattle.p3_base.specs.declared.operator.Operator.TheVariants.{AtEnd, Always, Sometime, AtMostOnce, SometimeAfter, SometimeBefore}
use Rattle.p3_task.specs.declared.task.Task.{Task}
use Rattle.p3_task.specs.Explanations.{shown}
use Rattle.p3_base.specs.Showings.{least, is_unanswered, is_unprepared, first_place, gap_place, again_place, shown_at_end, shown_always, shown_sometime, shown_at_most_once, shown_sometime_after, shown_sometime_before}
use Rattle.p3_task.specs.Shows.{IsFirst, IsReturn, ShowsAtEnd, ShowsAlways, ShowsSometime, ShowsAtMostOnce, ShowsSometimeAfter, ShowsSometimeBefore, Shows}

-- ---- the least place

module _ (test : ℕ → Bool) where
  abbrev IsFound : ℕ → ℕ → Option ℕ → Type 0
  IsFound from n None = (k : ℕ) → from ≤ k → k < from + n → test k ≡ false
  IsFound from n (Some i) = (from ≤ i) × (i < from + n) × (test i ≡ true) × ((k : ℕ) → from ≤ k → k < i → test k ≡ false)

  -- one place more in front
  more : (from n : ℕ) → test from ≡ false → (o : Option ℕ) → IsFound (from + 1) n o → IsFound from (suc n) o
  more from n off None rest = λ k ge lt. ⊎_elim (λ here. let is : k ≡ from = omega arith in ap test is ∙ off) (λ later. rest k later (omega arith)) (cases_lt k (from + 1))
  more from n off (Some i) rest =
      (omega (arith, rest.0), omega (arith, rest.1), rest.2, λ k ge lt. ⊎_elim (λ here. let is : k ≡ from = omega arith in ap test is ∙ off) (λ later. rest.3 k later lt) (cases_lt k (from + 1)))

  found : (from n : ℕ) → IsFound from n (find test (range_with_len from n))
  found from zero = λ k ge lt. absurd (omega arith)
  found from (suc n) = by (test from) refl (found (from + 1) n) where
    by : (b : Bool) → test from ≡ b → IsFound (from + 1) n (find test (range_with_len (from + 1) n)) → IsFound from (suc n) (cond b (Some from) (find test (range_with_len (from + 1) n)))
    by true on rest = (omega arith, omega arith, on, λ k ge lt. absurd (omega arith))
    by false off rest = more from n off (find test (range_with_len (from + 1) n)) rest

  pub least_is : (n place : ℕ) → place < n → test place ≡ true → IsFirst n test true false (least n test)
  least_is n place within here = by (find test (range_with_len 0 n)) (found 0 n) where
    by : (o : Option ℕ) → IsFound 0 n o → IsFirst n test true false (unwrap_or o n)
    by None none = absurd (true≢false (sym here ∙ none place (omega arith) (omega arith)))
    by (Some i) is = record { within = omega (arith, is.1); here = is.2; before = λ k lt. is.3 k (omega arith) lt }

  -- not past any other
  pub least_low : (n place : ℕ) → place < n → test place ≡ true → least n test ≤ place
  least_low n place within here = ⊎_elim (λ lt. absurd (true≢false (sym here ∙ (least_is n place within here).before place lt))) (λ ge. ge) (cases_lt place (least n test))

opposite : (b : Bool) → not b ≡ true → b ≡ false
opposite b h = (not_tells b).0 h

twice : (b : Bool) → not b ≡ false → b ≡ true
twice true h = refl
twice false h = absurd (true≢false h)

-- ---- each operator

at_end : (n : ℕ) (f : ℕ → Bool) → ShowsAtEnd n f (shown_at_end n f)
at_end n f = by (f (n - 1)) refl where
  by : (b : Bool) → f (n - 1) ≡ b → ShowsAtEnd n f (cond b (HoldsAt (n - 1)) (FailsAt (n - 1)))
  by true e = (refl, e)
  by false e = (refl, e)

-- where a test does not pass everywhere, it fails somewhere
fails_somewhere : (f : ℕ → Bool) (from n : ℕ) → list_all f (range_with_len from n) ≡ false → (i : ℕ) × (i < from + n) × (f i ≡ false)
fails_somewhere f from zero e = absurd (true≢false e)
fails_somewhere f from (suc n) e = by (f from) refl (fails_somewhere f (from + 1) n) where
  by : (b : Bool) → f from ≡ b → (list_all f (range_with_len (from + 1) n) ≡ false → (i : ℕ) × (i < from + 1 + n) × (f i ≡ false)) → (i : ℕ) × (i < from + suc n) × (f i ≡ false)
  by false off later = (from, omega arith, off)
  by true on later = let l = later (sym (ap (λ b. b && list_all f (range_with_len (from + 1) n)) on) ∙ e) in (l.0, omega (arith, l.1), l.2)

always : (n : ℕ) (f : ℕ → Bool) → ShowsAlways n f (shown_always n f)
always n f = by (each n f) refl where
  by : (b : Bool) → each n f ≡ b → ShowsAlways n f (cond b Holds (FailsAt (least n (λ i. not (f i)))))
  by true e = e
  by false e =
      let s = fails_somewhere f 0 n e in
      let l = least_is (λ i. not (f i)) n s.0 (omega (arith, s.1)) (ap not s.2) in
      record { within = l.within; here = opposite (f (least n (λ i. not (f i)))) l.here; before = λ k lt. twice (f k) (l.before k lt) }

sometime : (n : ℕ) (f : ℕ → Bool) → ShowsSometime n f (shown_sometime n f)
sometime n f = by (some n f) refl where
  D : Decides (some n f) ((i : ℕ) × (i < n) × (f i ≡ true))
  D = some_tells f (λ i. f i ≡ true) (λ i. true_tells (f i)) n

  by : (b : Bool) → some n f ≡ b → ShowsSometime n f (cond b (HoldsAt (least n f)) HoldsNowhere)
  by true e = let s = D.0 e in least_is f n s.0 s.1 s.2
  by false e = λ k lt. off k lt (f k) refl
    where
      off : (k : ℕ) → k < n → (b : Bool) → f k ≡ b → b ≡ false
      off k lt true on = absurd (true≢false (sym (D.1 (k, lt, on)) ∙ e))
      off k lt false on = refl

at_most_once : (n : ℕ) (f : ℕ → Bool) → ShowsAtMostOnce n f (shown_at_most_once n f)
at_most_once n f = by (operator.at_most_once n f) refl where
  gap : operator.at_most_once n f ≡ false → HasGap n f
  gap e = (came_tells n f).0 (twice (came_back n f) (sym (not-came n f) ∙ e))

  by : (b : Bool) → operator.at_most_once n f ≡ b → ShowsAtMostOnce n f (cond b Holds (Again (first_place n f) (gap_place n f) (again_place n f)))
  by true e = e
  by false e = of (gap e) where
    of : HasGap n f → IsReturn n f (first_place n f) (gap_place n f) (again_place n f)
    of (k, k_in, (back, (j, j_in, ((j_k, ceased), (i, i_in, (i_j, held)))))) =
        let first = least_is f n i i_in held in
        let first_low = least_low f n i i_in held in
        let j_test : (nat_lt (first_place n f) j && not (f j)) ≡ true = (Decides-and (nat_lt (first_place n f) j) (not (f j)) (Decides-ltb (first_place n f) j) (not_tells (f j))).1 (omega (arith, first_low, i_j), ceased) in
        let second = least_is (λ p. nat_lt (first_place n f) p && not (f p)) n j j_in j_test in
        let second_low = least_low (λ p. nat_lt (first_place n f) p && not (f p)) n j j_in j_test in
        let parts = (Decides-and (nat_lt (first_place n f) (gap_place n f)) (not (f (gap_place n f))) (Decides-ltb (first_place n f) (gap_place n f)) (not_tells (f (gap_place n f)))).0 second.here in
        let k_test : (nat_lt (gap_place n f) k && f k) ≡ true = (Decides-and (nat_lt (gap_place n f) k) (f k) (Decides-ltb (gap_place n f) k) (true_tells (f k))).1 (omega (arith, second_low, j_k), back) in
        let third = least_is (λ p. nat_lt (gap_place n f) p && f p) n k k_in k_test in
        let last = (Decides-and (nat_lt (gap_place n f) (again_place n f)) (f (again_place n f)) (Decides-ltb (gap_place n f) (again_place n f)) (true_tells (f (again_place n f)))).0 third.here in
        record { within = third.within; held = first.here; ceased = parts.1; back = last.1; gap_behind = parts.0; again_behind = last.0 }

module _ (n : ℕ) (f g : ℕ → Bool) where
  unanswered_tells : (i : ℕ) → Decides (is_unanswered n f g i) ((f i ≡ true) × ((k : ℕ) → k < n → i ≤ k → g k ≡ false))
  unanswered_tells i = Decides-and (f i) _ (true_tells (f i)) (each_tells _ (λ k. i ≤ k → g k ≡ false) (λ k. implies_tells (nat_le i k) (not (g k)) (le_tells i k) (not_tells (g k))) n)

  unprepared_tells : (i : ℕ) → Decides (is_unprepared n f g i) ((f i ≡ true) × ((k : ℕ) → k < n → k < i → g k ≡ false))
  unprepared_tells i = Decides-and (f i) _ (true_tells (f i)) (each_tells _ (λ k. k < i → g k ≡ false) (λ k. implies_tells (nat_lt k i) (not (g k)) (Decides-ltb k i) (not_tells (g k))) n)

  sometime_after : ShowsSometimeAfter n f g (shown_sometime_after n f g)
  sometime_after = by (operator.sometime_after n f g) refl where
    by : (b : Bool) → operator.sometime_after n f g ≡ b → ShowsSometimeAfter n f g (cond b Holds (FailsAt (least n (is_unanswered n f g))))
    by true e = e
    by false e =
        let s = (some_tells (is_unanswered n f g) (λ i. is_unanswered n f g i ≡ true) (λ i. true_tells (is_unanswered n f g i)) n).0 (twice (is_awaited n f g) (sym (not-awaited n f g) ∙ e)) in
        let l = least_is (is_unanswered n f g) n s.0 s.1 s.2 in
        let t = (unanswered_tells (least n (is_unanswered n f g))).0 l.here in
        record { within = l.within; here = t.0; never = t.1 }

  sometime_before : ShowsSometimeBefore n f g (shown_sometime_before n f g)
  sometime_before = by (operator.sometime_before n f g) refl where
    by : (b : Bool) → operator.sometime_before n f g ≡ b → ShowsSometimeBefore n f g (cond b Holds (FailsAt (least n (is_unprepared n f g))))
    by true e = e
    by false e =
        let s = (some_tells (is_unprepared n f g) (λ i. is_unprepared n f g i ≡ true) (λ i. true_tells (is_unprepared n f g i)) n).0 (twice (came_early n f g) (sym (not-early n f g) ∙ e)) in
        let l = least_is (is_unprepared n f g) n s.0 s.1 s.2 in
        let t = (unprepared_tells (least n (is_unprepared n f g))).0 l.here in
        record { within = l.within; here = t.0; never = λ k lt. t.1 k (let w = l.within in omega (arith, lt, w)) lt }

-- what is shown of an operator shows it
pub shown_shows : (T : Task) (W : List State) (env : Environment) (modal : Modal) → Shows T W env modal (shown T W env modal)
unfolding shown
shown_shows T W env (AtEnd f) = at_end (length W) (holds_at T W env f)
shown_shows T W env (Always f) = always (length W) (holds_at T W env f)
shown_shows T W env (Sometime f) = sometime (length W) (holds_at T W env f)
shown_shows T W env (AtMostOnce f) = at_most_once (length W) (holds_at T W env f)
shown_shows T W env (SometimeAfter f g) = sometime_after (length W) (holds_at T W env f) (holds_at T W env g)
shown_shows T W env (SometimeBefore f g) = sometime_before (length W) (holds_at T W env f) (holds_at T W env g)
