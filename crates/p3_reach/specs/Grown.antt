-- Sets of atoms that grow by what steps may add.
use Rattle.std.specs.Prelude.{◌≡◌, Bool, length, IsTrue}
use Rattle.p3_formula.specs.Forms.{State}
use Rattle.p3_reach.specs.Closed.{IsWithin}

-- the set has all that it had, and more only that each greater set has which keeps what is asked
pub record IsGrown (keeps : State → Bool) (old new : State) : Type 0 where
  pub size : length new ≡ length old
  pub within : IsWithin old new
  pub least : (other : State) → IsTrue (keeps other) → IsWithin old other → IsWithin new other
