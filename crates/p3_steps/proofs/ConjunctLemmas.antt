-- The conditions that `and` alone joins, found one after another.
use Rattle.std.proofs.Common.{◌≡◌, ◌∙◌, ◌+◌, ◌<◌, ◌&&◌, [], ◌∷◌, ◌++◌}
