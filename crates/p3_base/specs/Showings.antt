-- Places of the list of visited states that show why an operator of trajectory constraints is satisfied or not (the PDDL3 report), over tests at the places. There are n places, counted from 0.
use Rattle.std.specs.Prelude.{ℕ, ◌-◌, nat_le, nat_lt, Bool, not, ◌&&◌, find, if◌then◌else◌, unwrap_or}
use Rattle.std.specs.List.{range_with_len}
use Rattle.p3_base.specs.Connectives.{◌implies◌}
use Rattle.p3_base.specs.Trajectories as operator
use Rattle.p3_base.specs.Trajectories.{each}
use Rattle.p3_base.specs.declared.showing.Showing.{Showing}
use Rattle.p3_base.specs.declared.showing.Showing.TheVariants.{Holds, HoldsAt, HoldsNowhere, FailsAt, Again}

-- the least place that passes the test, or n where none does
abbrev pub least : ℕ → (ℕ → Bool) → ℕ
least n test = unwrap_or (find test (range_with_len 0 n)) n

-- f holds at the place, and g neither there nor later
abbrev pub is_unanswered : ℕ → (ℕ → Bool) → (ℕ → Bool) → ℕ → Bool
is_unanswered n f g i = f i && each n (λ j. nat_le i j implies not (g j))

-- f holds at the place, and g at none before it
abbrev pub is_unprepared : ℕ → (ℕ → Bool) → (ℕ → Bool) → ℕ → Bool
is_unprepared n f g i = f i && each n (λ j. nat_lt j i implies not (g j))

-- the first place of f, the first later one without it, and the first one behind that with it
abbrev pub first_place : ℕ → (ℕ → Bool) → ℕ
first_place n f = least n f

abbrev pub gap_place : ℕ → (ℕ → Bool) → ℕ
gap_place n f = least n (λ i. nat_lt (first_place n f) i && not (f i))

abbrev pub again_place : ℕ → (ℕ → Bool) → ℕ
again_place n f = least n (λ i. nat_lt (gap_place n f) i && f i)

-- ---- the operators

abbrev pub shown_at_end : ℕ → (ℕ → Bool) → Showing
shown_at_end n f = if operator.at_end n f then HoldsAt (n - 1) else FailsAt (n - 1)

abbrev pub shown_always : ℕ → (ℕ → Bool) → Showing
shown_always n f = if operator.always n f then Holds else FailsAt (least n (λ i. not (f i)))

abbrev pub shown_sometime : ℕ → (ℕ → Bool) → Showing
shown_sometime n f = if operator.sometime n f then HoldsAt (least n f) else HoldsNowhere

abbrev pub shown_at_most_once : ℕ → (ℕ → Bool) → Showing
shown_at_most_once n f = if operator.at_most_once n f then Holds else Again (first_place n f) (gap_place n f) (again_place n f)

abbrev pub shown_sometime_after : ℕ → (ℕ → Bool) → (ℕ → Bool) → Showing
shown_sometime_after n f g = if operator.sometime_after n f g then Holds else FailsAt (least n (is_unanswered n f g))

abbrev pub shown_sometime_before : ℕ → (ℕ → Bool) → (ℕ → Bool) → Showing
shown_sometime_before n f g = if operator.sometime_before n f g then Holds else FailsAt (least n (is_unprepared n f g))
