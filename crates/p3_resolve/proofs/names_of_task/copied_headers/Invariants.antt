use Rattle.std.proofs.Common.{◌≡◌, take}
use Rattle.p3_numbers.specs.Tasks.{header_names}
use Rattle.p3_resolve.proofs.names_of_task.copied_headers.Given as goal

abbrev pub invariant-loop-header : goal.invariant-loop-header
invariant-loop-header l = l.names ≡ header_names (take l.header-index l.headers)
