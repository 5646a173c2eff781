use Rattle.std.proofs.Common.{◌≡◌, ◌++◌, map, take}
use Rattle.p3_resolve.specs.Words.{named_in, names_in, name_of}
use Rattle.p3_resolve.proofs.names_of_task.push_names.Given as goal

abbrev pub invariant-loop-one : goal.invariant-loop-one
invariant-loop-one l = names_in l.words.items ≡ names_in l.fn.words.items ++ map name_of (named_in (take l.one-index l.named))
