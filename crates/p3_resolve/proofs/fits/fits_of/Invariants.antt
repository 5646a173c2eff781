use Rattle.std.proofs.Common.{◌≡◌, map, take}
use Rattle.std.specs.Prelude.{All}
use Rattle.p3_task.specs.Types.{names_of}
use Rattle.p3_resolve.specs.Numbers.{names_in}
use Rattle.p3_resolve.proofs.fits.fits_of.Given as goal

abbrev pub invariant-loop-types : goal.invariant-loop-types
invariant-loop-types l = record {
  tasks : All (λ fit. fit.below.task.now ≡ l.kinds.task.now) l.fits.items;
  types : map (λ fit. names_of fit.below.types.now) l.fits.items ≡ names_in (take l.types-index l.lists);
}
