-- What is refused of a text, and where.
use Rattle.std.specs.Prelude.{◌≡◌, ℕ, ◌+◌, ◌≤◌}
use Rattle.p3_base.specs.declared.refusal.Refusal.{Refusal}
use Rattle.p3_base.specs.declared.refusal.Role.{Role}

-- the refusal names that file, and the word at fault is bytes of its text, which has so many
pub record IsWithin (role : Role) (size : ℕ) (refusal : Refusal) : Type 0 where
  pub file : refusal.pos.role ≡ role
  pub within : refusal.pos.offset + refusal.len ≤ size
