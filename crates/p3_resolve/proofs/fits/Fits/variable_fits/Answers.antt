use Rattle.std.proofs.Common.{◌≡◌, ◌∙◌, true, map, refl}
use Rattle.std.proofs.Math.Bool.{Bool-set}
use Rattle.std.proofs.Math.Logic.{∥∥₁_elim}
use Rattle.p3_task.specs.Types.{type_names}
use Rattle.p3_resolve.specs.Fitting.{variable_fits_at}
use Rattle.p3_resolve.specs.Numbers.{headers_of, number_at}
use Rattle.p3_resolve.proofs.FoundLemmas.{none-found, one-found, found-told, variable-told}
use Rattle.p3_resolve.proofs.fits.Fits.variable_fits.Goals as goal

pub returns-in-None : goal.returns-in-None
returns-in-None c =
    let self = c.args.self.now in
    none-found (λ fit. fit.below.types.now) self.fits.items (map (λ one. one.items) self.numbers.items) (headers_of self.objects.task.now) c.args.header c.args.parameter
    (λ found. true ≡ variable_fits_at self.objects.task.now found c.args.variable.now) self.numbered c.in-None.ensures refl

pub returns-in-Some : goal.returns-in-Some
returns-in-Some c =
    let self = c.args.self.now in
    let fit = c.in-Some.fit.now in
    let numbers = map (λ one. one.items) self.numbers.items in
    one-found (λ fit. fit.below.types.now) self.fits.items numbers (headers_of self.objects.task.now) c.args.header c.args.parameter
    (λ found. c.has_variable.result ≡ variable_fits_at self.objects.task.now found c.args.variable.now) fit self.numbered c.in-Some.ensures
    (λ declared same. c.has_variable.ensures ∙ ∥∥₁_elim self.tasks (Bool-set _ _) (λ tasks.
    variable-told self.objects.task.now fit.below.task.now
    (found-told (λ one. one.below.task.now ≡ self.objects.task.now) self.fits.items (number_at numbers c.args.header c.args.parameter) fit tasks c.in-Some.ensures)
    fit.below.types.now declared.types same (type_names c.args.variable.now.types)))
