use Rattle.std.proofs.Common.{◌≡◌, ◌∙◌, ap, map, subst, sym}
use Rattle.std.specs.Prelude.{All}
use Prim.{∣◌∣₁}
use Rattle.p3_task.specs.Types.{names_of}
use Rattle.p3_resolve.specs.Numbers.{AreAllNumbers, headers_of, names_in}
use Rattle.p3_resolve.proofs.fits.Fits.of.Goals as goal

pub invariant_of-result : goal.invariant_of-result
invariant_of-result c =
    let same = sym c.in_ok-declared.ensures in
    let numbers = map (λ one. one.items) c.in_ok-lists.field-0.numbers.items in
    record {
      tasks = ∣ subst (λ T. All (λ fit. fit.below.task.now ≡ T) c.in_ok-fits.fits.items) (c.requires.kinds ∙ same) c.in_ok-fits.ensures.tasks ∣₁;
      numbered = subst (λ T. AreAllNumbers (map (λ fit. names_of fit.below.types.now) c.in_ok-fits.fits.items) numbers (headers_of T)) same
          (subst (λ lists. AreAllNumbers lists numbers (headers_of c.args.task.now)) (sym (c.in_ok-fits.ensures.types ∙ ap names_in c.deref.ensures.value)) c.in_ok-lists.ensures);
    }
