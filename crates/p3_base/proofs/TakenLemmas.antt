-- Known bytes that are read piece by piece.
use Rattle.std.proofs.Common.{ℕ, List, Option, sym, subst}
use Rattle.std.specs.Io.KnownBytes.{Consumes}
use Rattle.std.proofs.KnownBytes.{Consumes-trans}
use Rattle.p3_base.specs.Outside.{IsTaken}

-- one piece more
pub taken_more : (first middle last : Option (List ℕ)) (old new : List ℕ) → Consumes first middle old → IsTaken middle last old new → Consumes first last new
taken_more first middle last old new before (bytes, is, more) = subst (λ (list : List ℕ). Consumes first last list) (sym is) (Consumes-trans first middle last old bytes before more)
