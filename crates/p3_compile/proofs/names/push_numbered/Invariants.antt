use Rattle.std.proofs.Common.{◌≡◌}
use Rattle.p3_compile.specs.Monitored.{named_more}
use Rattle.p3_compile.proofs.names.push_numbered.Given as goal

-- one name more for each turn
abbrev pub invariant-loop : goal.invariant-loop
invariant-loop l = l.names ≡ named_more l.letter l.before l.fn.names l.counter
