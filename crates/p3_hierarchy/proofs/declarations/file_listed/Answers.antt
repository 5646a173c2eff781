use Rattle.std.proofs.Common.{subst}
use Rattle.std.specs.Prelude.{bytes_eq}
use Rattle.std.specs.HashMap.{get}
use Rattle.p3_hierarchy.specs.Typings.{FilesNumber}
use Rattle.p3_hierarchy.proofs.TypingLemmas.{files-none, files-type}
use Rattle.p3_hierarchy.proofs.declarations.file_listed.Goals as goal

pub loop-kind-init : goal.loop-kind-init
loop-kind-init c = files-none (get (λ x y. bytes_eq x.now y.now) c.args.table.now)

pub loop-kind-preserved : goal.loop-kind-preserved
loop-kind-preserved c =
    files-type c.args.types.now c.loop-kind.kind-index c.kind-item.result c.args.number (get (λ x y. bytes_eq x.now y.now) c.args.table.now) (get (λ x y. bytes_eq x.now y.now) c.loop-kind.table)
    (get (λ x y. bytes_eq x.now y.now) c.file.new.table) c.loop-kind-test.true c.kind-item.is c.loop-kind.invariant
    (subst (λ name. FilesNumber name c.args.number (get (λ x y. bytes_eq x.now y.now) c.loop-kind.table) (get (λ x y. bytes_eq x.now y.now) c.file.new.table)) c.bytes.ensures.bytes c.in_ok-file.ensures)
