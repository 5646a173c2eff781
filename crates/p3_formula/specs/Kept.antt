-- What the atoms of a monitor say of the states visited so far, and when it accepts: the operators of the PDDL3 report, one state after another.
use Rattle.std.specs.Prelude.{◌≡◌, ℕ, ◌+◌, ◌≤◌, nat_le, nat_lt, Bool, not, ◌&&◌, List, [], ◌∷◌, length}
use Rattle.p3_base.specs.Trajectories.{each, some, came_back, is_awaited, came_early}
use Rattle.p3_formula.specs.Forms.{State, is_set, truth}
use Rattle.p3_formula.specs.GroundPlans.{last_of}
use Rattle.p3_formula.specs.GroundSat.{holds_at}
use Rattle.p3_formula.specs.Modals.{Agree}
use Rattle.p3_formula.specs.GroundModal.{GroundModal}
use Rattle.p3_base.specs.declared.operator.Operator.TheVariants.{AtEnd, Always, Sometime, AtMostOnce, SometimeAfter, SometimeBefore}

-- how many atoms the monitor of a constraint has
abbrev pub atom_count : GroundModal → ℕ
atom_count (AtEnd f) = 0
atom_count (Always f) = 1
atom_count (Sometime f) = 1
atom_count (AtMostOnce f) = 2
atom_count (SometimeAfter f g) = 1
atom_count (SometimeBefore f g) = 2

-- the atom is one of the monitor's, which stand from the base on
abbrev pub is_own : ℕ → GroundModal → ℕ → Bool
is_own base modal atom = nat_le base atom && nat_lt atom (base + atom_count modal)

-- what its atoms say of the states visited so far, in order
abbrev pub watched : List State → GroundModal → List Bool
watched W (AtEnd f) = []
watched W (Always f) = each (length W) (holds_at W f) ∷ []
watched W (Sometime f) = some (length W) (holds_at W f) ∷ []
watched W (AtMostOnce f) = some (length W) (holds_at W f) ∷ came_back (length W) (holds_at W f) ∷ []
watched W (SometimeAfter f g) = is_awaited (length W) (holds_at W f) (holds_at W g) ∷ []
watched W (SometimeBefore f g) = some (length W) (holds_at W g) ∷ came_early (length W) (holds_at W f) (holds_at W g) ∷ []

-- the monitor accepts in the state
abbrev pub accepts : ℕ → GroundModal → State → Bool
accepts base (AtEnd f) state = truth state f
accepts base (Always f) state = is_set state base
accepts base (Sometime f) state = is_set state base
accepts base (AtMostOnce f) state = not (is_set state (base + 1))
accepts base (SometimeAfter f g) state = not (is_set state base)
accepts base (SometimeBefore f g) state = not (is_set state (base + 1))

-- the bits are those of the state from the base on
abbrev pub AreAt : ℕ → List Bool → State → Type 0
AreAt base [] state = Unit {0}
AreAt base (bit ∷ bits) state = (is_set state base ≡ bit) × AreAt (base + 1) bits state

-- the state has room for the bits and has them from the base on, and it agrees with another state on the atoms of the constraint
pub record Carries (base : ℕ) (bits : List Bool) (modal : GroundModal) (other state : State) : Type 0 where
  pub agrees : Agree modal state other
  pub room : base + length bits ≤ length state
  pub stand : AreAt base bits state

-- the monitor's atoms are right of the states visited so far, of which there is one at least; the state agrees with the last of them
pub record Kept (base : ℕ) (modal : GroundModal) (W : List State) (state : State) : Type 0 where
  pub visited : 1 ≤ length W
  pub carries : Carries base (watched W modal) modal (last_of W) state
