use Rattle.std.proofs.Common.{◌≡◌, ◌∙◌, true, map, refl}
use Rattle.std.proofs.Math.Bool.{Bool-set}
use Rattle.std.proofs.Math.Logic.{∥∥₁_elim}
use Rattle.p3_resolve.specs.Fitting.{object_fits_at}
use Rattle.p3_resolve.specs.Numbers.{headers_of, number_at}
use Rattle.p3_resolve.proofs.FoundLemmas.{none-found, one-found, found-told, object-told}
use Rattle.p3_resolve.proofs.fits.Fits.object_fits.Goals as goal

pub returns-in-None : goal.returns-in-None
returns-in-None c =
    let self = c.args.self.now in
    none-found (λ fit. fit.below.types.now) self.fits.items (map (λ one. one.items) self.numbers.items) (headers_of self.objects.task.now) c.args.header c.args.parameter
    (λ found. true ≡ object_fits_at self.objects.task.now found c.args.object.now) self.numbered c.in-None.ensures refl

pub returns-in-Some : goal.returns-in-Some
returns-in-Some c =
    let self = c.args.self.now in
    let fit = c.in-Some.fit.now in
    let numbers = map (λ one. one.items) self.numbers.items in
    one-found (λ fit. fit.below.types.now) self.fits.items numbers (headers_of self.objects.task.now) c.args.header c.args.parameter
    (λ found. c.has_object.result ≡ object_fits_at self.objects.task.now found c.args.object.now) fit self.numbered c.in-Some.ensures
    (λ declared same. c.has_object.ensures ∙ ∥∥₁_elim self.tasks (Bool-set _ _) (λ tasks.
    object-told self.objects.task.now fit.below.task.now
    (found-told (λ one. one.below.task.now ≡ self.objects.task.now) self.fits.items (number_at numbers c.args.header c.args.parameter) fit tasks c.in-Some.ensures)
    fit.below.types.now declared.types same fit.repeated c.args.object.now (map (λ item. item.now) c.of_object.result.now) fit.told (c.of_object.ensures c.args.object.now c.requires)))
