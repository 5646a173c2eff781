-- What the places that are shown tell of an operator, apart from how they are found.
use Rattle.std.specs.Prelude.{◌≡◌, ℕ, ◌-◌, ◌<◌, ◌≤◌, Bool, true, false, List, length}
use Rattle.p3_base.specs.Trajectories as operator
use Rattle.p3_base.specs.declared.showing.Showing.{Showing}
use Rattle.p3_base.specs.declared.showing.Showing.TheVariants.{Holds, HoldsAt, HoldsNowhere, FailsAt, Again}
use Rattle.p3_task.specs.States.{State, Environment}
use Rattle.p3_task.specs.Constraints.{holds_at}
use Rattle.p3_task.specs.Modal.{Modal}
use Rattle.p3_base.specs.declared.operator.Operator.TheVariants.{AtEnd, Always, Sometime, AtMostOnce, SometimeAfter, SometimeBefore}
use Rattle.p3_task.specs.declared.task.Task.{Task}

-- the test has that value at the place, and the other one at each place before it
pub record IsFirst (n : ℕ) (f : ℕ → Bool) (value other : Bool) (place : ℕ) : Type 0 where
  pub within : place < n
  pub here : f place ≡ value
  pub before : (k : ℕ) → k < place → f k ≡ other

-- f holds, later it does not, and then it holds again
pub record IsReturn (n : ℕ) (f : ℕ → Bool) (first gap again : ℕ) : Type 0 where
  pub within : again < n
  pub held : f first ≡ true
  pub ceased : f gap ≡ false
  pub back : f again ≡ true
  pub gap_behind : first < gap
  pub again_behind : gap < again

-- f holds at the place, and g neither there nor later
pub record IsUnanswered (n : ℕ) (f g : ℕ → Bool) (place : ℕ) : Type 0 where
  pub within : place < n
  pub here : f place ≡ true
  pub never : (k : ℕ) → k < n → place ≤ k → g k ≡ false

-- f holds at the place, and g at none before it
pub record IsUnprepared (n : ℕ) (f g : ℕ → Bool) (place : ℕ) : Type 0 where
  pub within : place < n
  pub here : f place ≡ true
  pub never : (k : ℕ) → k < place → g k ≡ false

-- ---- the operators; a satisfied one is so by its own definition where no place shows it

abbrev pub ShowsAtEnd : ℕ → (ℕ → Bool) → Showing → Type 0
ShowsAtEnd n f (HoldsAt place) = (place ≡ n - 1) × (f place ≡ true)
ShowsAtEnd n f (FailsAt place) = (place ≡ n - 1) × (f place ≡ false)
ShowsAtEnd n f _ = ⊥

abbrev pub ShowsAlways : ℕ → (ℕ → Bool) → Showing → Type 0
ShowsAlways n f Holds = operator.always n f ≡ true
ShowsAlways n f (FailsAt place) = IsFirst n f false true place
ShowsAlways n f _ = ⊥

abbrev pub ShowsSometime : ℕ → (ℕ → Bool) → Showing → Type 0
ShowsSometime n f (HoldsAt place) = IsFirst n f true false place
ShowsSometime n f HoldsNowhere = (k : ℕ) → k < n → f k ≡ false
ShowsSometime n f _ = ⊥

abbrev pub ShowsAtMostOnce : ℕ → (ℕ → Bool) → Showing → Type 0
ShowsAtMostOnce n f Holds = operator.at_most_once n f ≡ true
ShowsAtMostOnce n f (Again first gap again) = IsReturn n f first gap again
ShowsAtMostOnce n f _ = ⊥

abbrev pub ShowsSometimeAfter : ℕ → (ℕ → Bool) → (ℕ → Bool) → Showing → Type 0
ShowsSometimeAfter n f g Holds = operator.sometime_after n f g ≡ true
ShowsSometimeAfter n f g (FailsAt place) = IsUnanswered n f g place
ShowsSometimeAfter n f g _ = ⊥

abbrev pub ShowsSometimeBefore : ℕ → (ℕ → Bool) → (ℕ → Bool) → Showing → Type 0
ShowsSometimeBefore n f g Holds = operator.sometime_before n f g ≡ true
ShowsSometimeBefore n f g (FailsAt place) = IsUnprepared n f g place
ShowsSometimeBefore n f g _ = ⊥

-- the visited states that are shown show it
abbrev pub Shows : Task → List State → Environment → Modal → Showing → Type 0
Shows T W env (AtEnd f) showing = ShowsAtEnd (length W) (holds_at T W env f) showing
Shows T W env (Always f) showing = ShowsAlways (length W) (holds_at T W env f) showing
Shows T W env (Sometime f) showing = ShowsSometime (length W) (holds_at T W env f) showing
Shows T W env (AtMostOnce f) showing = ShowsAtMostOnce (length W) (holds_at T W env f) showing
Shows T W env (SometimeAfter f g) showing = ShowsSometimeAfter (length W) (holds_at T W env f) (holds_at T W env g) showing
Shows T W env (SometimeBefore f g) showing = ShowsSometimeBefore (length W) (holds_at T W env f) (holds_at T W env g) showing
