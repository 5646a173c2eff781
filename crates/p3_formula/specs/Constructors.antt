-- Forms and changes that several crates make.
use Rattle.std.specs.Prelude.{ℕ, true, false, [], ◌∷◌}
use Rattle.p3_formula.specs.declared.form.Change.{Change}
use Rattle.p3_formula.specs.declared.form.Form.{Form}
use Rattle.p3_formula.specs.declared.form.Form.TheVariants.{True, And}

-- both hold
abbrev pub both : Form → Form → Form
both first second = And (first ∷ second ∷ [])

-- the atom is set, or cleared, whatever holds
abbrev pub sets : ℕ → Change
sets atom = record { cond = True; atom = atom; add = true }

abbrev pub clears : ℕ → Change
clears atom = record { cond = True; atom = atom; add = false }
