use Rattle.std.proofs.Common.{◌≡◌, None}
use Rattle.std.specs.List.{All}
use Rattle.p3_scenes.proofs.answering.unanswered.Given as goal

abbrev pub invariant-loop : goal.invariant-loop
invariant-loop l = All (λ answer. answer ≡ None) l.found.items
