use Rattle.std.proofs.Common.{◌≡◌, take}
use Rattle.p3_formula.specs.Literals.{said_of}
use Rattle.p3_precprefs.specs.Choices.{split_all}
use Rattle.p3_precprefs.proofs.choices.split_all.Given as goal

-- the choices are split by the preferences passed
abbrev pub invariant-loop-pref : goal.invariant-loop-pref
invariant-loop-pref l = l.choices ≡ split_all (said_of l.known) l.weights.by_name (take l.pref-index l.step.prefs) l.fn.first
