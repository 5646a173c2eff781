-- Equations of regressed forms and of their growth.
use Rattle.std.proofs.Common.{◌≡◌, ℕ, List, map, refl, ap}
use denote.Hole.Carrier.{hidden}
use Rattle.p3_formula.specs.declared.form.Change.{Change}
use Rattle.p3_formula.specs.declared.form.Form.{Form}
use Rattle.p3_formula.specs.declared.form.Form.TheBlock.{hidden-the_row-Form-0}
use Rattle.p3_formula.specs.declared.form.Form.TheVariants.{True, False, Atom, Not, And, Or}
use Rattle.p3_formula.proofs.FormLemmas.{fold_parts}
use Rattle.p3_regress.specs.Regressed.{atom_after, regressed, regressed_layer}

module _ (effects : List Change) where
  pub regressed-True : regressed effects True ≡ True
  unfolding regressed
  regressed-True = refl

  pub regressed-False : regressed effects False ≡ False
  unfolding regressed
  regressed-False = refl

  pub regressed-Atom : (atom : ℕ) → regressed effects (Atom atom) ≡ atom_after effects atom
  unfolding regressed
  regressed-Atom atom = refl

  pub regressed-Not : (part : Form) → regressed effects (Not part) ≡ Not (regressed effects part)
  unfolding regressed hidden-the_row-Form-0 hidden
  regressed-Not part = refl

  pub regressed-And : (parts : List Form) → regressed effects (And parts) ≡ And (map (regressed effects) parts)
  unfolding regressed
  regressed-And parts = ap And (fold_parts (regressed_layer effects) parts)

  pub regressed-Or : (parts : List Form) → regressed effects (Or parts) ≡ Or (map (regressed effects) parts)
  unfolding regressed
  regressed-Or parts = ap Or (fold_parts (regressed_layer effects) parts)

pub ruleset regressed_laws = (regressed-True, regressed-False, regressed-Atom, regressed-Not, regressed-And, regressed-Or)
