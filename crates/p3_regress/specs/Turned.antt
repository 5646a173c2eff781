-- Which way the changes of a step may turn a form, and what to look at before them where the form is not yet turned.
use Rattle.std.specs.Prelude.{◌≡◌, ◌≤◌, Bool, true, false, not, if◌then◌else◌, List, filter, length, map}
use Rattle.std.specs.List.{list_any}
use Rattle.p3_formula.specs.Folds.{fold_form}
use Rattle.p3_formula.specs.Forms.{State, truth, HasAtomsOf, IsBelow, nodes}
use Rattle.p3_formula.specs.Next.{after}
use Rattle.p3_formula.specs.Simplified.{constant, joined}
use Rattle.p3_formula.specs.declared.form.Change.{Change}
use Rattle.p3_formula.specs.declared.form.Form.{Form, items-the_row-Form}
use Rattle.p3_formula.specs.declared.form.Form.TheVariants.{True, False, Atom, Not', And', Or'}
use Rattle.p3_formula.specs.declared.form.Form.TheOpen as layer
use Rattle.p3_regress.specs.Regressed.{is_of, growth, regressed}

abbrev pub turns_layer : List Change → layer.Form-F (Bool → Bool) → Bool → Bool
turns_layer effects layer.True up = false
turns_layer effects layer.False up = false
turns_layer effects (layer.Atom atom) up = list_any (is_of up atom) effects
turns_layer effects (layer.Not part) up = part (not up)
turns_layer effects (layer.And parts) up = list_any (λ part. part up) parts
turns_layer effects (layer.Or parts) up = list_any (λ part. part up) parts

-- the changes may turn the form true, or else false: some change sets an atom, or else clears it, and the other way round under a negation
unfoldable pub may_turn : List Change → Bool → Form → Bool
may_turn effects up form = fold_form (turns_layer effects) form up

-- in states in which the first form is not yet turned, the second holds exactly where the first holds after the changes; in no state does it tell of a turn that is none
pub record IsTurnBefore (up : Bool) (effects : List Change) (form before : Form) : Type 0 where
  pub turns : (state : State) → IsBelow (length state) form → truth state form ≡ not up → truth state before ≡ truth (after state effects) form
  pub only : (state : State) → IsBelow (length state) form → truth (after state effects) form ≡ not up → truth state before ≡ not up

-- after the changes the second form tells of each turn of the first, and of no other; it is no greater, and a constant where there is none
pub record IsNarrowed (up : Bool) (effects : List Change) (form part : Form) : Type 0 where
  pub turns : (state : State) → truth state form ≡ not up → truth (after state effects) part ≡ truth (after state effects) form
  pub only : (state : State) → truth (after state effects) form ≡ not up → truth (after state effects) part ≡ not up
  pub still : may_turn effects up form ≡ false → part ≡ constant (not up)
  pub atoms : HasAtomsOf part form
  pub size : nodes part ≤ nodes form
  pub growth : growth effects part ≤ growth effects form

-- ---- what the code makes of that

-- the parts that the changes may turn, before them
abbrev pub turned_parts : List Change → Bool → List Form → List Form
turned_parts changes up parts = map (regressed changes) (filter (may_turn changes up) parts)

abbrev pub turned_whole : List Change → Bool → Form → Form
turned_whole changes up form = if may_turn changes up form then regressed changes form else constant (not up)

-- the form before the changes; of a conjunction that may turn false, and of a disjunction that may turn true, the parts that may do so alone
abbrev pub turned : List Change → Bool → Form → Form
turned changes up True = turned_whole changes up True
turned changes up False = turned_whole changes up False
turned changes up (Atom atom) = turned_whole changes up (Atom atom)
turned changes up (Not' shape part) = turned_whole changes up (Not' shape part)
turned changes up (And' shape parts) = if up then turned_whole changes true (And' shape parts) else joined true (turned_parts changes false (items-the_row-Form _ parts))
turned changes up (Or' shape parts) = if up then joined false (turned_parts changes true (items-the_row-Form _ parts)) else turned_whole changes false (Or' shape parts)
