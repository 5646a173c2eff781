-- The six operators of trajectory constraints (the PDDL3 report), over tests at the places of the list of visited states. There are n places, and a test says where a formula holds.
use Rattle.std.specs.Prelude.{ℕ, ◌-◌, nat_le, nat_lt, Bool, not, ◌&&◌}
use Rattle.std.specs.List.{list_any, list_all, range_with_len}
use Rattle.p3_base.specs.Connectives.{◌implies◌}

-- the test passes at each place, and at some place
abbrev pub each : ℕ → (ℕ → Bool) → Bool
each n f = list_all f (range_with_len 0 n)

abbrev pub some : ℕ → (ℕ → Bool) → Bool
some n f = list_any f (range_with_len 0 n)

-- ---- the operators

abbrev pub at_end : ℕ → (ℕ → Bool) → Bool
at_end n f = f (n - 1)

abbrev pub always : ℕ → (ℕ → Bool) → Bool
always n f = each n f

abbrev pub sometime : ℕ → (ℕ → Bool) → Bool
sometime n f = some n f

-- from place i on, f holds up to some place and nowhere after it
abbrev pub holds_once_from : ℕ → (ℕ → Bool) → ℕ → Bool
holds_once_from n f i = some n (λ j. nat_le i j && each n (λ k. (nat_le i k && nat_le k j) implies f k) && each n (λ k. nat_lt j k implies not (f k)))

abbrev pub at_most_once : ℕ → (ℕ → Bool) → Bool
at_most_once n f = each n (λ i. f i implies holds_once_from n f i)

abbrev pub sometime_after : ℕ → (ℕ → Bool) → (ℕ → Bool) → Bool
sometime_after n f g = each n (λ i. f i implies some n (λ j. nat_le i j && g j))

abbrev pub sometime_before : ℕ → (ℕ → Bool) → (ℕ → Bool) → Bool
sometime_before n f g = each n (λ i. f i implies some n (λ j. nat_lt j i && g j))

-- ---- what violates them

-- at some place f holds, and before it at some place it does not, and before that at some place it does
abbrev pub came_back : ℕ → (ℕ → Bool) → Bool
came_back n f = some n (λ k. f k && some n (λ j. nat_lt j k && not (f j) && some n (λ i. nat_lt i j && f i)))

-- at some place f holds, and g neither there nor later
abbrev pub is_awaited : ℕ → (ℕ → Bool) → (ℕ → Bool) → Bool
is_awaited n f g = some n (λ i. f i && each n (λ j. nat_le i j implies not (g j)))

-- at some place f holds, and g at none before it
abbrev pub came_early : ℕ → (ℕ → Bool) → (ℕ → Bool) → Bool
came_early n f g = some n (λ i. f i && each n (λ j. nat_lt j i implies not (g j)))
