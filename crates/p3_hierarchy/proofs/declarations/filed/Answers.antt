use Rattle.std.proofs.Common.{subst}
use Rattle.std.specs.Prelude.{bytes_eq}
use Rattle.std.specs.HashMap.{get}
use Rattle.p3_task.specs.Types.{type_names}
use Rattle.p3_hierarchy.specs.Typings.{FilesNumbers, typed}
use Rattle.p3_hierarchy.proofs.TypingLemmas.{numbered-more}
use Rattle.p3_hierarchy.proofs.declarations.filed.Goals as goal

pub loop-entry-preserved : goal.loop-entry-preserved
loop-entry-preserved c =
    let entry = c.entry-item.result in
    numbered-more c.args.entries.now c.loop-entry.entry-index entry (get (λ x y. bytes_eq x.now y.now) c.loop-entry.table) (get (λ x y. bytes_eq x.now y.now) c.file_types.new.table)
    c.loop-entry-test.true c.entry-item.is c.loop-entry.invariant
    (subst (λ types. FilesNumbers (typed entry.number (type_names types)) (get (λ x y. bytes_eq x.now y.now) c.loop-entry.table) (get (λ x y. bytes_eq x.now y.now) c.file_types.new.table)) c.items.ensures c.in_ok-file_types.ensures)
