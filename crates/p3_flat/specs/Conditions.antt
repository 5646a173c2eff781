-- The different conditions of an action's changes.
use Rattle.std.specs.Prelude.{nat_lt, Bool, true, ◌||◌, List, [], ◌∷◌, ◌++◌, fold, length, if◌then◌else◌}
use Rattle.std.specs.List.{list_any}
use Rattle.p3_task.specs.Refusals.Flat.{most_conditions}
use Rattle.p3_formula.specs.Same.{same_form}
use Rattle.p3_formula.specs.Simplified.{is_value}
use Rattle.p3_formula.specs.declared.form.Change.{Change}
use Rattle.p3_formula.specs.declared.form.Form.{Form}
use Rattle.p3_formula.specs.declared.target.TargetAction.{TargetAction}

abbrev pub has_form : List Form → Form → Bool
has_form forms form = list_any (λ other. same_form other form) forms

-- the forms so far, and one more, where it is new and is not True
abbrev pub with_form : List Form → Form → List Form
with_form seen form = if is_value true form || has_form seen form then seen else (seen ++ form ∷ [])

abbrev pub with_condition : List Form → Change → List Form
with_condition seen change = with_form seen change.cond

-- the different conditions of the changes other than True, in the order of their first uses
abbrev pub conditions : List Change → List Form
conditions effects = fold with_condition [] effects

-- there are too many of them
abbrev pub are_too_many : List Change → Bool
are_too_many effects = nat_lt most_conditions (length (conditions effects))

abbrev pub is_too_wide : TargetAction → Bool
is_too_wide action = are_too_many action.effects
