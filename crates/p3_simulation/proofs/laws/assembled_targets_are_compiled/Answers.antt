use Rattle.std.proofs.Common.{length}
use Rattle.p3_simulation.proofs.Assembling.{made_parts}
use Rattle.p3_simulation.proofs.CompiledLaw.{compiled}
use Rattle.p3_simulation.proofs.Named.{named}
use Rattle.p3_simulation.proofs.Sized.{sized}
use Rattle.p3_simulation.proofs.laws.assembled_targets_are_compiled.Goals as goal

pub returns : goal.returns
returns c = λ G weights X made ready is.
    compiled G weights X made.monitors made.go made.first made.last (length X.predicates) made.actions made.phase made.finish made.instances
    (made_parts G weights X made ready is) ready.names (named G weights X made ready is) (sized G weights X made ready is)
