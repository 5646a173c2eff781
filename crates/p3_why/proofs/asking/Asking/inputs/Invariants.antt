use Rattle.std.proofs.Common.{◌≡◌, ◌++◌, drop, map, zip}
use Rattle.p3_tree.specs.Commands.{input}
use Rattle.p3_cli.specs.Asked.{asked_inputs}
use Rattle.p3_why.proofs.asking.Asking.inputs.Given as goal

-- with those that are left they are all
abbrev pub invariant-loop-place : goal.invariant-loop-place
invariant-loop-place l = asked_inputs l.inputs.items ++ map input (zip (drop l.place l.roles) (drop l.place l.names)) ≡ map input (zip l.roles l.names)
