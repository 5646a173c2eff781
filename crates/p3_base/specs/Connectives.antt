-- Implication between truth values.
use Rattle.std.specs.Prelude.{Bool, not, ◌||◌}

infix 35 ◌implies◌
abbrev pub ◌implies◌ : Bool → Bool → Bool
first implies second = not first || second
