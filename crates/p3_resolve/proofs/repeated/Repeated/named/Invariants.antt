use Rattle.std.proofs.Common.{[], ◌∷◌, take}
use Rattle.std.specs.Prelude.{flat_map}
use Rattle.p3_numbers.specs.Names.{Adds}
use Rattle.p3_resolve.specs.Fitting.{name_in}
use Rattle.p3_resolve.proofs.repeated.Repeated.named.Given as goal

abbrev pub invariant-loop-place : goal.invariant-loop-place
invariant-loop-place l = Adds [] (flat_map (λ place. name_in l.self.declarations.entries.items place ∷ []) (take l.place-index l.places)) l.names
