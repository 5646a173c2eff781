use Rattle.std.proofs.Common.{◌≡◌, ◌++◌, map, take}
use Rattle.p3_formula.specs.Constructors.{sets, clears}
use Rattle.p3_formula.proofs.guards.turned.Given as goal

-- the atoms passed are cleared
abbrev pub invariant-clearing : goal.invariant-clearing
invariant-clearing l = l.all.items ≡ l.fn.effects ++ map clears (take l.atom-index l.off)

-- all of those are cleared, and the atoms passed are set
abbrev pub invariant-setting : goal.invariant-setting
invariant-setting l = l.all.items ≡ (l.fn.effects ++ map clears l.off) ++ map sets (take l.atom-index l.on)
