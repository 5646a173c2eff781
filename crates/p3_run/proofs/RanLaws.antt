-- The weights of a run stay.
use Rattle.std.proofs.Common.{◌≡◌}
