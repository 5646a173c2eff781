use Rattle.std.proofs.Common.{◌∙◌, ap}
use Rattle.p3_regress.specs.Readers.{is_read_at}
use Rattle.p3_compile.proofs.StepLists.{both_of}
use Rattle.p3_compile.proofs.Touched.{are_touched}
use Rattle.p3_compile.proofs.changes.touched.Goals as goal

pub returns : goal.returns
returns c =
    let frame = c.args.frame.now in
    let step = c.args.regressed.now.effects in
    both_of c.places_read.result c.places_read.ensures.read c.places_read.ensures.rising
    (λ places read rising. are_touched step frame.monitors frame.readers.items places.items c.requires.read (λ place. read place ∙ ap (λ readers. is_read_at step readers place) c.deref.ensures.value) rising)
