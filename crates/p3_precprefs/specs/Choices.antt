-- How the copies of a step are made: from choices of the preferences that are violated, each with what it asks of a state beside the precondition. A choice that no state meets is left out, and so are those that would come of it.
use Rattle.std.specs.Prelude.{ℕ, ◌+◌, ◌<◌, nat_lt, Bool, true, false, List, [], ◌∷◌, ◌++◌, map, if◌then◌else◌, Option}
use Rattle.std.specs.List.{All, flat_map}
use Rattle.p3_formula.specs.Literals.{fixed, said_of, with_all}
use Rattle.p3_formula.specs.Settled.{gathered_parts, settled}
use Rattle.p3_formula.specs.Simplified.{is_value, negated, spread}
use Rattle.p3_formula.specs.Weighted.{weight_of, weighted_cost}
use Rattle.p3_formula.specs.declared.form.Form.{Form}
use Rattle.p3_formula.specs.declared.form.Form.TheVariants as form
use Rattle.p3_formula.specs.declared.modal.GroundPref.{GroundPref}
use Rattle.p3_formula.specs.declared.target.Weights.{Weights}
use Rattle.p3_formula.specs.declared.task.GroundStep.{GroundStep}
use Rattle.p3_precprefs.specs.declared.choices.Choice.{Choice}
use Rattle.p3_precprefs.specs.declared.copies.StepCopy.{StepCopy}

-- what a precondition says of atoms where it holds
abbrev pub known_by : Form → ℕ → Option Bool
known_by pre = said_of (with_all [] (fixed pre true))

-- ---- choices

abbrev pub first_choice : Weights → GroundStep → Choice
first_choice weights step = record { violated = []; asked = form.True; cost = weighted_cost weights step }

-- the choice where a preference is satisfied
abbrev pub satisfied : Form → Choice → Choice
satisfied body choice = record { violated = choice.violated ++ false ∷ []; asked = gathered_parts true (choice.asked ∷ body ∷ []); cost = choice.cost }

-- the choice where its opposite holds, so that it is violated, at its weight
abbrev pub violating : Form → ℕ → Choice → Choice
violating opposite weight choice = record { violated = choice.violated ++ true ∷ []; asked = gathered_parts true (choice.asked ∷ opposite ∷ []); cost = choice.cost + weight }

abbrev pub unless_never : Choice → List Choice
unless_never choice = if is_value false choice.asked then [] else (choice ∷ [])

abbrev pub both_choices : Form → ℕ → Choice → List Choice
both_choices body weight choice = unless_never (satisfied body choice) ++ unless_never (violating (negated body) weight choice)

abbrev pub doubled : Form → ℕ → List Choice → List Choice
doubled body weight choices = flat_map (both_choices body weight) choices

-- a preference without weight changes nothing, and any other is settled once
abbrev pub split_by : (ℕ → Option Bool) → List ℕ → List Choice → GroundPref → List Choice
split_by known by_name choices pref = if nat_lt 0 (weight_of by_name pref) then doubled (settled known pref.body) (weight_of by_name pref) choices else choices

-- the choices after one preference after another
abbrev pub split_all : (ℕ → Option Bool) → List ℕ → List GroundPref → List Choice → List Choice
split_all known by_name [] choices = choices
split_all known by_name (pref ∷ prefs) choices = split_all known by_name prefs (split_by known by_name choices pref)

abbrev pub IsWithin : ℕ → List Choice → Type 0
IsWithin bound choices = All (λ (choice : Choice). choice.cost < bound) choices

-- ---- copies

-- the conjunction of two tidy forms, flat
abbrev pub conjoined : Form → Form → Form
conjoined first second = if is_value true first then second else if is_value true second then first else form.And (spread first ++ spread second)

abbrev pub copy_of : Form → Choice → StepCopy
copy_of pre choice = record { violated = choice.violated; pre = conjoined pre choice.asked; cost = choice.cost }

-- those of a step under a tidy precondition: none where it never holds
abbrev pub all_copies : Weights → GroundStep → Form → List StepCopy
all_copies weights step pre = if is_value false pre then [] else map (copy_of pre) (split_all (known_by pre) weights.by_name step.prefs (first_choice weights step ∷ []))
