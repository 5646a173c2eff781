use Rattle.std.proofs.Common.{◌≡◌, take}
use Rattle.p3_precprefs.proofs.choices.entry_added.Given as goal

-- the entries passed stand there once more
abbrev pub invariant-loop-earlier : goal.invariant-loop-earlier
invariant-loop-earlier l = l.new ≡ take l.earlier-index l.entries
