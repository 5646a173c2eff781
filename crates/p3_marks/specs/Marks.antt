-- What is kept of the states visited so far for one operator: the least places that show whether it is satisfied.
use Rattle.std.specs.Prelude.{ℕ, ◌-◌, nat_lt, Bool, false, not, ◌&&◌, ◌||◌, List, length, find, if◌then◌else◌, Option, Some, None, is_some}
use Rattle.std.specs.List.{range_with_len}
use Rattle.p3_base.specs.Showings.{is_unanswered, is_unprepared, first_place, gap_place}
use Rattle.p3_base.specs.Trajectories.{some}
use Rattle.p3_base.specs.declared.showing.Showing.{Showing}
use Rattle.p3_base.specs.declared.showing.Showing.TheVariants as showing
use Rattle.p3_formula.specs.Forms.{State, truth}
use Rattle.p3_formula.specs.GroundPlans.{last_of}
use Rattle.p3_formula.specs.GroundSat.{holds_at}
use Rattle.p3_formula.specs.GroundModal.{GroundModal}
use Rattle.p3_base.specs.declared.operator.Operator.TheVariants.{AtEnd, Always, Sometime, AtMostOnce, SometimeAfter, SometimeBefore}
use Rattle.p3_marks.specs.declared.mark.Mark.{Mark}

-- ---- places

-- the least of n places that passes the test, where one does
abbrev pub least_place : ℕ → (ℕ → Bool) → Option ℕ
least_place n test = find test (range_with_len 0 n)

-- it does not hold there, and the place is behind the first one where it does
abbrev pub is_gap : ℕ → (ℕ → Bool) → ℕ → Bool
is_gap n f i = nat_lt (first_place n f) i && not (f i)

-- it holds there, and the place is behind the gap
abbrev pub is_again : ℕ → (ℕ → Bool) → ℕ → Bool
is_again n f i = nat_lt (gap_place n f) i && f i

-- the place that is kept, or else the next one where it passes
abbrev pub noted : Option ℕ → ℕ → Bool → Option ℕ
noted (Some place) next passes = Some place
noted None next passes = if passes then Some next else None

-- ---- what a mark says

-- no place
abbrev pub holding : Bool → Mark
holding holds = record { holds = holds; first = None; gap = None; again = None }

-- one place
abbrev pub placed : Option ℕ → Mark
placed place = record { holds = false; first = place; gap = None; again = None }

-- the mark is right of the states visited so far
abbrev pub mark_of : List State → GroundModal → Mark
mark_of W (AtEnd f) = holding (truth (last_of W) f)
mark_of W (Always f) = placed (least_place (length W) (λ i. not (holds_at W f i)))
mark_of W (Sometime f) = placed (least_place (length W) (holds_at W f))
mark_of W (AtMostOnce f) = record {
  holds = false;
  first = least_place (length W) (holds_at W f);
  gap = least_place (length W) (is_gap (length W) (holds_at W f));
  again = least_place (length W) (is_again (length W) (holds_at W f));
}
mark_of W (SometimeAfter f g) = placed (least_place (length W) (is_unanswered (length W) (holds_at W f) (holds_at W g)))
mark_of W (SometimeBefore f g) = record {
  holds = some (length W) (holds_at W g);
  first = least_place (length W) (is_unprepared (length W) (holds_at W f) (holds_at W g));
  gap = None;
  again = None;
}

-- ---- one state more, at the next place

-- before any state
abbrev pub no_mark : Mark
no_mark = holding false

-- the first place where it holds, the first behind that where it does not, and the first behind that where it does
abbrev pub next_once : ℕ → Bool → Mark → Mark
next_once next holds mark = record {
  holds = false;
  first = noted mark.first next holds;
  gap = noted mark.gap next (is_some mark.first && not holds);
  again = noted mark.again next (is_some mark.gap && holds);
}

-- what waited is answered where the other holds now
abbrev pub next_after : ℕ → Bool → Bool → Mark → Mark
next_after next holds other mark = placed (if other then None else noted mark.first next holds)

-- it comes too early where it holds now and the other has not held before
abbrev pub next_before : ℕ → Bool → Bool → Mark → Mark
next_before next holds other mark = record {
  holds = mark.holds || other;
  first = noted mark.first next (holds && not mark.holds);
  gap = None;
  again = None;
}

abbrev pub next_mark : ℕ → State → GroundModal → Mark → Mark
next_mark next state (AtEnd f) mark = holding (truth state f)
next_mark next state (Always f) mark = placed (noted mark.first next (not (truth state f)))
next_mark next state (Sometime f) mark = placed (noted mark.first next (truth state f))
next_mark next state (AtMostOnce f) mark = next_once next (truth state f) mark
next_mark next state (SometimeAfter f g) mark = next_after next (truth state f) (truth state g) mark
next_mark next state (SometimeBefore f g) mark = next_before next (truth state f) (truth state g) mark

-- ---- what a mark shows

abbrev pub failing : Option ℕ → Showing
failing None = showing.Holds
failing (Some place) = showing.FailsAt place

abbrev pub found : Option ℕ → Showing
found None = showing.HoldsNowhere
found (Some place) = showing.HoldsAt place

abbrev pub returned_by : ℕ → Option ℕ → ℕ → Showing
returned_by first None again = showing.Holds
returned_by first (Some gap) again = showing.Again first gap again

abbrev pub returned_from : Option ℕ → Option ℕ → ℕ → Showing
returned_from None gap again = showing.Holds
returned_from (Some first) gap again = returned_by first gap again

abbrev pub returned : Option ℕ → Option ℕ → Option ℕ → Showing
returned first gap None = showing.Holds
returned first gap (Some again) = returned_from first gap again

-- the last of the states, of which there are so many
abbrev pub at_last : ℕ → Bool → Showing
at_last count holds = if holds then showing.HoldsAt (count - 1) else showing.FailsAt (count - 1)

-- what the mark shows of so many states
abbrev pub shown_by : ℕ → GroundModal → Mark → Showing
shown_by count (AtEnd f) mark = at_last count mark.holds
shown_by count (Always f) mark = failing mark.first
shown_by count (Sometime f) mark = found mark.first
shown_by count (AtMostOnce f) mark = returned mark.first mark.gap mark.again
shown_by count (SometimeAfter f g) mark = failing mark.first
shown_by count (SometimeBefore f g) mark = failing mark.first
