-- The actions that are made of what a step comes to.
use Rattle.std.specs.Prelude.{ℕ, true, List, ◌∷◌, map}
use Rattle.std.specs.List.{All}
use Rattle.p3_base.specs.Copies.{copy_name}
use Rattle.p3_formula.specs.Simplified.{joined, spread}
use Rattle.p3_formula.specs.declared.form.Change.{Change}
use Rattle.p3_formula.specs.declared.form.Form.{Form}
use Rattle.p3_formula.specs.declared.form.Form.TheVariants.{Atom}
use Rattle.p3_formula.specs.declared.target.TargetAction.{TargetAction}
use Rattle.p3_precprefs.specs.declared.copies.StepCopy.{StepCopy}
use Rattle.p3_simulation.specs.Assembled.{AreCopyActions, IsCopyAction}
use Rattle.p3_simulation.specs.Naming.{pattern}
use Rattle.p3_compile.specs.Updated.{HasSimpler}
use Rattle.p3_compile.specs.declared.parts.StepCopies.{StepCopies}
use Rattle.p3_compile.specs.declared.parts.StepParts.{StepParts}
use Rattle.p3_compile.specs.declared.parts.StepParts.TheVariants.{Actions, Copies}
use Rattle.p3_compile.specs.declared.parts.TargetCopy.{TargetCopy}

-- the atom is set, and the form holds
abbrev pub behind_atom : ℕ → Form → Form
behind_atom atom form = joined true (Atom atom ∷ spread form)

-- the action of a copy of the step with that number, where that is the running atom
abbrev pub copied_action : ℕ → ℕ → TargetCopy → TargetAction
copied_action number go copy = record {
  name = copy_name number (pattern copy.violated);
  pre = behind_atom go copy.pre;
  effects = copy.effects;
  cost = copy.cost;
}

abbrev pub copied_actions : StepCopies → List TargetAction
copied_actions step = map (copied_action step.number step.go) step.copies

abbrev pub actions_of : StepParts → List TargetAction
actions_of (Actions actions) = actions
actions_of (Copies step) = copied_actions step

-- ---- copies of a step that makes these changes

-- what the copy is in a target, with changes that are no more than those
pub record IsCopied (effects : List Change) (copy : StepCopy) (made : TargetCopy) : Type 0 where
  pub is : (number go : ℕ) → IsCopyAction go number effects copy (copied_action number go made)
  pub simpler : (number go : ℕ) → HasSimpler effects (copied_action number go made)

pub record AreCopied (effects : List Change) (copies : List StepCopy) (made : List TargetCopy) : Type 0 where
  pub are : (number go : ℕ) → AreCopyActions go number effects copies (map (copied_action number go) made)
  pub simpler : (number go : ℕ) → All (HasSimpler effects) (map (copied_action number go) made)
