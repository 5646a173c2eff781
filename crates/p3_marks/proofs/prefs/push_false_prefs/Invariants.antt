use Rattle.std.proofs.Common.{◌≡◌, ◌++◌, take}
use Rattle.p3_marks.specs.Reasons.{pref_reasons}
use Rattle.p3_marks.proofs.prefs.push_false_prefs.Given as goal

abbrev pub invariant-loop-place : goal.invariant-loop-place
invariant-loop-place l = l.reasons ≡ l.fn.reasons ++ pref_reasons l.state l.step (take l.place l.prefs)
