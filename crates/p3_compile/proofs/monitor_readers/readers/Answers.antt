use Rattle.std.proofs.Common.{◌∙◌, ◌++◌, ap, sym, map}
use Rattle.p3_regress.specs.Readers.{reader}
use Rattle.p3_regress.proofs.ReaderLemmas.{readers_next}
use Rattle.p3_compile.specs.Readers.{followed, read_atoms}
use Rattle.p3_monitors.specs.declared.monitoring.Monitor.{Monitor}
use Rattle.p3_compile.proofs.monitor_readers.readers.Goals as goal

pub loop-place-preserved : goal.loop-place-preserved
loop-place-preserved c =
    c.in_ok-push_modal.ensures
    ∙ ap (λ (one : Monitor). c.loop-place.readers.items ++ map (reader c.loop-place.place) (read_atoms one.modal)) (sym c.index-monitors-place.is)
    ∙ ap (λ list. list ++ map (reader c.loop-place.place) (read_atoms c.index-monitors-place.result.modal)) c.loop-place.invariant
    ∙ readers_next followed c.args.monitors.now c.loop-place.place c.index-monitors-place.result c.loop-place-test.true c.index-monitors-place.is
