-- The action that a copy of a step is.
use Rattle.std.specs.Prelude.{ℕ, Bool, true, List, ◌∷◌, map, if◌then◌else◌}
use Rattle.p3_base.specs.Copies.{copy_name}
use Rattle.p3_formula.specs.Simplified.{joined, spread}
use Rattle.p3_formula.specs.declared.form.Form.{Form}
use Rattle.p3_formula.specs.declared.form.Form.TheVariants.{Atom}
use Rattle.p3_formula.specs.declared.target.TargetAction.{TargetAction}
use Rattle.p3_writer.specs.declared.copy_text.CopyParts.{CopyParts}

-- `1` where a preference is violated, else `0`
abbrev pub digits_of : List Bool → List ℕ
digits_of violated = map (λ one. if one then 49 else 48) violated

-- the atom is set, and the form holds
abbrev pub behind_atom : ℕ → Form → Form
behind_atom atom form = joined true (Atom atom ∷ spread form)

abbrev pub copied_action : CopyParts → TargetAction
copied_action copy = record {
  name = copy_name copy.number (digits_of copy.violated.now);
  pre = behind_atom copy.go copy.pre.now;
  effects = copy.changes.now;
  cost = copy.cost;
}
