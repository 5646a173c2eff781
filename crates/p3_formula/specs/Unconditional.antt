-- Changes that happen whatever holds.
use Rattle.std.specs.Prelude.{◌≡◌, Bool, true, not}
use Rattle.std.specs.List.{All}
use Rattle.p3_formula.specs.Simplified.{is_value}
use Rattle.p3_formula.specs.declared.form.Change.{Change}
use Rattle.p3_formula.specs.declared.form.Form.TheVariants.{True}
use Rattle.p3_formula.specs.declared.target.TargetAction.{TargetAction}

-- the change may not happen
abbrev pub is_conditional : Change → Bool
is_conditional change = not (is_value true change.cond)

-- what the action changes happens always
abbrev pub HasNoConditions : TargetAction → Type 0
HasNoConditions action = All (λ (change : Change). change.cond ≡ True) action.effects
