-- The changes that a monitor makes, from the forms that tell of turns by the step.
use Rattle.std.specs.Prelude.{◌≡◌, ℕ, ◌+◌, ◌≤◌, Bool, true, false, not, List, [], ◌∷◌, length, if◌then◌else◌}
use Rattle.std.specs.List.{flat_map}
use Rattle.p3_formula.specs.Constructors.{both}
use Rattle.p3_formula.specs.Forms.{nodes}
use Rattle.p3_formula.specs.declared.form.Change.{Change}
use Rattle.p3_formula.specs.declared.form.Form.{Form}
use Rattle.p3_formula.specs.Simplified.{constant, is_value}
use Rattle.p3_formula.specs.declared.form.Form.TheVariants.{True, False, Atom, Not, And}
use Rattle.p3_formula.specs.GroundModal.{GroundModal}
use Rattle.p3_base.specs.declared.operator.Operator.TheVariants as modal
use Rattle.p3_formula.specs.Trimmed.{unless_never}
use Rattle.p3_regress.specs.Regressed.{HasAtomsOfBoth, growth}
use Rattle.p3_regress.specs.Turned.{may_turn, IsTurnBefore}
use Rattle.p3_formula.specs.Kept.{is_own}
use Rattle.p3_monitors.specs.KeepsOn.{HasNone, AreOwn, KeepsOn, HasConditions, condition_nodes, most_nodes}

-- the atom is set, or else cleared, where the condition holds
abbrev pub change : Bool → ℕ → Form → Change
change add atom cond = record { cond = cond; atom = atom; add = add }

-- both hold, where the first may be a constant
abbrev pub joint : Form → Form → Form
joint first second = if is_value false first then False else (if is_value true first then second else both first second)

-- the atom is set, the form does not hold, and it does later, where that may be a constant
abbrev pub back : ℕ → Form → Form → Form
back base now later =
    if is_value false later then False else (if is_value true later then both (Atom base) (Not now) else And (Atom base ∷ Not now ∷ later ∷ []))

-- the form holds, and the atom is not set
abbrev pub early : ℕ → Form → Form
early base first = joint first (Not (Atom base))

-- the negation of a condition, and a constant for a constant
abbrev pub unless : Form → Form
unless cond = if is_value false cond then True else (if is_value true cond then False else Not cond)

-- the changes whose condition is not the constant that never holds
abbrev pub possible : List Change → List Change
possible effects = flat_map unless_never effects

abbrev pub always : ℕ → Form → List Change
always base later = change false base (unless later) ∷ []

abbrev pub sometime : ℕ → Form → List Change
sometime base later = change true base later ∷ []

abbrev pub at_most_once : ℕ → Form → Form → List Change
at_most_once base now later = change true base later ∷ change true (base + 1) (back base now later) ∷ []

-- the first holds, and the second does not
abbrev pub awaits : Form → Form → Form
awaits first second = both first (Not second)

abbrev pub sometime_after : ℕ → Form → Form → List Change
sometime_after base met awaited = change false base met ∷ change true base awaited ∷ []

abbrev pub sometime_before : ℕ → Form → Form → List Change
sometime_before base first second = change true base second ∷ change true (base + 1) (early base first) ∷ []

-- the form that holds where the monitor accepts
abbrev pub accept_form : ℕ → GroundModal → Form
accept_form base (modal.AtEnd f) = f
accept_form base (modal.Always f) = Atom base
accept_form base (modal.Sometime f) = Atom base
accept_form base (modal.AtMostOnce f) = Not (Atom (base + 1))
accept_form base (modal.SometimeAfter f g) = Not (Atom base)
accept_form base (modal.SometimeBefore f g) = Not (Atom (base + 1))

-- the form before a step that tells of the turns of one after it: what it says, that it is a constant where there are none, the atoms that it reads, and its size
pub record IsTurned (up : Bool) (step : List Change) (form before : Form) : Type 0 where
  pub truth : IsTurnBefore up step form before
  pub still : may_turn step up form ≡ false → before ≡ constant (not up)
  pub atoms : HasAtomsOfBoth step form before
  pub size : nodes before ≤ nodes form + growth step form

-- what the changes of a monitor are to be
pub record IsUpdate (base : ℕ) (modal : GroundModal) (step effects : List Change) : Type 0 where
  pub kept : HasNone (is_own base modal) step → KeepsOn base modal step effects
  pub own : AreOwn base modal effects
  pub atoms : HasConditions base modal step effects
  pub few : length effects ≤ 2
  pub size : condition_nodes effects ≤ most_nodes step modal
