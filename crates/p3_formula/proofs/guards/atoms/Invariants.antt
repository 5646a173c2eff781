use Rattle.std.proofs.Common.{◌≡◌, map, take}
use Rattle.p3_formula.specs.declared.form.Form.TheVariants.{Atom}
use Rattle.p3_formula.proofs.guards.atoms.Given as goal

-- a form for each of the atoms passed
abbrev pub invariant-loop-atom : goal.invariant-loop-atom
invariant-loop-atom l = l.forms.items ≡ map Atom (take l.atom-index l.atoms)
