use Rattle.std.proofs.Common.{◌∙◌, ◌++◌, ap, map}
use Rattle.p3_formula.specs.AtomLists.{atoms_of}
use Rattle.p3_regress.specs.Readers.{reader}
use Rattle.p3_regress.proofs.ReaderLemmas.{readers_next}
use Rattle.p3_regress.proofs.parts.readers.Goals as goal

pub loop-place-preserved : goal.loop-place-preserved
loop-place-preserved c =
    c.in_ok-push_readers.ensures
    ∙ ap (λ list. list ++ map (reader c.loop-place.place) (atoms_of c.index-parts-place.result)) c.loop-place.invariant
    ∙ readers_next atoms_of c.args.parts.now c.loop-place.place c.index-parts-place.result c.loop-place-test.true c.index-parts-place.is
