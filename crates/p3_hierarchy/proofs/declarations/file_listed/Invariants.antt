use Rattle.std.proofs.Common.{take}
use Rattle.std.specs.Prelude.{bytes_eq}
use Rattle.std.specs.HashMap.{get}
use Rattle.p3_task.specs.Types.{names_of}
use Rattle.p3_hierarchy.specs.Typings.{FilesNumbers, typed}
use Rattle.p3_hierarchy.proofs.declarations.file_listed.Given as goal

abbrev pub invariant-loop-kind : goal.invariant-loop-kind
invariant-loop-kind l = FilesNumbers (typed l.number (names_of (take l.kind-index l.types))) (get (λ x y. bytes_eq x.now y.now) l.fn.table) (get (λ x y. bytes_eq x.now y.now) l.table)
