use Rattle.std.proofs.Common.{◌≡◌, take}
use Rattle.p3_compile.proofs.copying.prefs_copied.Given as goal

-- copies of the preferences passed stand there
abbrev pub invariant-loop-pref : goal.invariant-loop-pref
invariant-loop-pref l = l.all ≡ take l.pref-index l.prefs
