-- Trees that are built from lists of parts, with all offsets 0.
use Rattle.std.proofs.Common.{◌≡◌, ◌∙◌, List, ◌∷◌, map, refl, sym, ap}
use mathlib.Core.Former.{Count}
use Rattle.p3_task.specs.Erased.{erased_formula, erased_formulas, erased_effect, erased_effects, erased_goal, erased_goals}
use Rattle.p3_task.specs.declared.formula.Formula.{Formula, Row_of-Formula, end_of-Formula, more_of-Formula, roll-Formula, roll-out-Formula, items-the_row-Formula, items_shown-the_row-Formula-0, items_hidden-the_row-Formula-0}
use Rattle.p3_task.specs.declared.formula.Formula.TheBlock.{hidden-the_row-Formula-0}
use Rattle.p3_task.specs.declared.formula.Formula.TheVariants as formula
use Rattle.p3_task.specs.declared.effect.Effect.{Effect, Row_of-Effect, end_of-Effect, more_of-Effect, roll-Effect, roll-out-Effect, items-the_row-Effect, items_shown-the_row-Effect-0, items_hidden-the_row-Effect-0}
use Rattle.p3_task.specs.declared.effect.Effect.TheBlock.{hidden-the_row-Effect-0}
use Rattle.p3_task.specs.declared.effect.Effect.TheVariants as effect
use Rattle.p3_task.specs.declared.goal.PreGoal.{PreGoal, Row_of-PreGoal, end_of-PreGoal, more_of-PreGoal, roll-PreGoal, roll-out-PreGoal, items-the_row-PreGoal, items_shown-the_row-PreGoal-0, items_hidden-the_row-PreGoal-0}
use Rattle.p3_task.specs.declared.goal.PreGoal.TheBlock.{hidden-the_row-PreGoal-0}
use Rattle.p3_task.specs.declared.goal.PreGoal.TheVariants as goal

-- ---- formulas

and_is : (shape : _) (parts : Row_of-Formula _) → formula.And' shape parts ≡ formula.And (items-the_row-Formula _ parts)
and_is shape parts =
    sym (roll-out-Formula (formula.And' shape parts)) ∙ ap roll-Formula (formula.outs-And' shape parts)
    ∙ formula.rolls-And _ ∙ ap formula.And (items_shown-the_row-Formula-0 shape parts)

or_is : (shape : _) (parts : Row_of-Formula _) → formula.Or' shape parts ≡ formula.Or (items-the_row-Formula _ parts)
or_is shape parts =
    sym (roll-out-Formula (formula.Or' shape parts)) ∙ ap roll-Formula (formula.outs-Or' shape parts)
    ∙ formula.rolls-Or _ ∙ ap formula.Or (items_shown-the_row-Formula-0 shape parts)

formula_items : {n : Count} (parts : Row_of-Formula n) → items-the_row-Formula n (erased_formulas parts) ≡ map erased_formula (items-the_row-Formula n parts)
formula_items end_of-Formula = refl
formula_items (more_of-Formula part rest) = ap (λ others. erased_formula part ∷ others) (formula_items rest)

hidden_formulas : (trees : List Formula) → items-the_row-Formula _ (erased_formulas (hidden-the_row-Formula-0 trees)) ≡ map erased_formula trees
hidden_formulas trees = formula_items (hidden-the_row-Formula-0 trees) ∙ ap (map erased_formula) (items_hidden-the_row-Formula-0 trees)

pub erased_and : (trees : List Formula) → erased_formula (formula.And trees) ≡ formula.And (map erased_formula trees)
erased_and trees = and_is _ _ ∙ ap formula.And (hidden_formulas trees)

pub erased_or : (trees : List Formula) → erased_formula (formula.Or trees) ≡ formula.Or (map erased_formula trees)
erased_or trees = or_is _ _ ∙ ap formula.Or (hidden_formulas trees)

-- ---- effects

all_is : (shape : _) (parts : Row_of-Effect _) → effect.All' shape parts ≡ effect.All (items-the_row-Effect _ parts)
all_is shape parts =
    sym (roll-out-Effect (effect.All' shape parts)) ∙ ap roll-Effect (effect.outs-All' shape parts)
    ∙ effect.rolls-All _ ∙ ap effect.All (items_shown-the_row-Effect-0 shape parts)

effect_items : {n : Count} (parts : Row_of-Effect n) → items-the_row-Effect n (erased_effects parts) ≡ map erased_effect (items-the_row-Effect n parts)
effect_items end_of-Effect = refl
effect_items (more_of-Effect part rest) = ap (λ others. erased_effect part ∷ others) (effect_items rest)

pub erased_all : (trees : List Effect) → erased_effect (effect.All trees) ≡ effect.All (map erased_effect trees)
erased_all trees =
    all_is _ _ ∙ ap effect.All (effect_items (hidden-the_row-Effect-0 trees) ∙ ap (map erased_effect) (items_hidden-the_row-Effect-0 trees))

-- ---- preconditions and goals

both_is : (shape : _) (parts : Row_of-PreGoal _) → goal.Both' shape parts ≡ goal.Both (items-the_row-PreGoal _ parts)
both_is shape parts =
    sym (roll-out-PreGoal (goal.Both' shape parts)) ∙ ap roll-PreGoal (goal.outs-Both' shape parts)
    ∙ goal.rolls-Both _ ∙ ap goal.Both (items_shown-the_row-PreGoal-0 shape parts)

goal_items : {n : Count} (parts : Row_of-PreGoal n) → items-the_row-PreGoal n (erased_goals parts) ≡ map erased_goal (items-the_row-PreGoal n parts)
goal_items end_of-PreGoal = refl
goal_items (more_of-PreGoal part rest) = ap (λ others. erased_goal part ∷ others) (goal_items rest)

pub erased_both : (trees : List PreGoal) → erased_goal (goal.Both trees) ≡ goal.Both (map erased_goal trees)
erased_both trees =
    both_is _ _ ∙ ap goal.Both (goal_items (hidden-the_row-PreGoal-0 trees) ∙ ap (map erased_goal) (items_hidden-the_row-PreGoal-0 trees))
