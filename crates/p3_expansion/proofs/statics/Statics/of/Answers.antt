use Rattle.p3_expansion.specs.Statics.{AreStatics}
use Rattle.p3_expansion.specs.declared.statics.Statics.{Statics}
use Rattle.p3_expansion.proofs.StaticLemmas.{tell-statics}
use Rattle.p3_expansion.proofs.statics.Statics.of.Goals as goal

pub returns : goal.returns
returns c =
    let statics : Statics = record { changed = c.in_ok-changed.changed; facts = c.in_ok-facts.facts } in
    let are : AreStatics c.args.task.now statics = record { changed = c.in_ok-changed.ensures; facts = c.in_ok-facts.ensures } in
    record { are = are; tell = λ T well numbered. tell-statics T c.args.task.now statics well numbered are }
