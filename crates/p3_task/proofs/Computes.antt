-- All definitions of the meaning of a task, to be unfolded together where a closed task is computed.
use denote.Hole.Carrier.{hidden}
use Rattle.std.specs.Fmt.{digits}
use Rattle.p3_task.specs.declared.formula.Formula.TheBlock.{hidden-the_row-Formula-0, hidden-the_row-Formula-1, shape-the_row-Formula-0, shape-the_row-Formula-1}
use Rattle.p3_task.specs.declared.effect.Effect.TheBlock.{hidden-the_row-Effect-0, hidden-the_row-Effect-1, shape-the_row-Effect-0, shape-the_row-Effect-1}
use Rattle.p3_task.specs.declared.goal.PreGoal.TheBlock.{hidden-the_row-PreGoal-0, hidden-the_row-PreGoal-1, shape-the_row-PreGoal-0, shape-the_row-PreGoal-1}
use Rattle.p3_task.specs.declared.constraint.Constraint.TheBlock.{hidden-the_row-Constraint-0, hidden-the_row-Constraint-1, shape-the_row-Constraint-0, shape-the_row-Constraint-1}
use Rattle.p3_task.specs.declared.metric.Num.TheBlock.{hidden-the_row-Num-0, hidden-the_row-Num-1, shape-the_row-Num-0, shape-the_row-Num-1}
use Rattle.p3_task.specs.Types.{below, objects}
use Rattle.p3_task.specs.States.{start}
use Rattle.p3_task.specs.Bindings.{tuples, bind, are_arguments}
use Rattle.p3_task.specs.Formulas.{holds}
use Rattle.p3_task.specs.Effects.{adds, dels, next}
use Rattle.p3_task.specs.Goals.{hard_holds, prefs}
use Rattle.p3_task.specs.Costs.{cost_places, given_value, increases, effect_cost}
use Rattle.p3_task.specs.Plans.{action_named, step_cost, fits, state_after, visited, steps_fit}
use Rattle.p3_task.specs.Constraints.{satisfies, sat, hard_modals, hard_list, operators, instances_of, instances}
use Rattle.p3_task.specs.Validity.{goal_holds, is_valid, misfit, step_fault, goal_fault, constraint_fault, first_fault}
use Rattle.p3_task.specs.Metrics.{step_prefs, violated, cost, quantity, metric_places, value, loss, base_loss, weight, cost_weight}
use Rattle.p3_task.specs.Uses.{formula_uses, effect_uses, goal_uses, constraint_uses, num_uses, domain_uses, problem_uses}
use Rattle.p3_task.specs.PreferenceNames.{named_in_goal, named_in_constraint, preference_names, ordered_names}
use Rattle.p3_task.specs.Offences.{domain_duplicates, problem_duplicates, domain_unknowns, problem_unknowns, domain_miscounts, problem_miscounts, domain_clashes, problem_clashes}
use Rattle.p3_task.specs.Lifting.{constrains, prefers, is_plain, is_formula_variable_free, is_effect_variable_free, is_goal_variable_free, is_constraint_variable_free, is_variable_free, steps, lifted_step, lift}
use Rattle.p3_task.specs.Faithful.{extra}
use Rattle.p3_task.specs.Explanations.{shown, reasons}
use Rattle.p3_task.specs.Literals.{literals}
use Rattle.p3_task.specs.Mentions.{formula_atoms}
use Rattle.p3_task.specs.Touching.{conds}
use Rattle.p3_task.specs.Unconditional.{is_effect_unconditional, is_unconditional}
use Rattle.p3_task.specs.Limits.{binding_count, formula_size, effect_size, goal_size, constraint_size, width, cost_bound}
use Rattle.p3_task.specs.declared.expression.Expression.TheBlock.{hidden-the_row-Expression-0, shape-the_row-Expression-0}
use Rattle.p3_task.specs.Tokens.{tokens_from}
use Rattle.p3_task.specs.Expressions.{expression_of}
use Rattle.p3_task.specs.Grammar.Formulas.{formula_place}
use Rattle.p3_task.specs.Grammar.Effects.{effect_place}
use Rattle.p3_task.specs.Grammar.Goals.{goal_place}
use Rattle.p3_task.specs.Grammar.Constraints.{inner_place, constraint_place}
use Rattle.p3_task.specs.Grammar.Metrics.{num_place}
use Rattle.p3_task.specs.Grammar.Halves.{domain_place, problem_place}

-- the trees
unfoldable pub trees_compute : Unit {0}
unfolding hidden hidden-the_row-Formula-0 hidden-the_row-Formula-1 shape-the_row-Formula-0 shape-the_row-Formula-1 hidden-the_row-Effect-0 hidden-the_row-Effect-1 shape-the_row-Effect-0 shape-the_row-Effect-1 hidden-the_row-PreGoal-0 hidden-the_row-PreGoal-1 shape-the_row-PreGoal-0 shape-the_row-PreGoal-1 hidden-the_row-Constraint-0 hidden-the_row-Constraint-1 shape-the_row-Constraint-0 shape-the_row-Constraint-1 hidden-the_row-Num-0 hidden-the_row-Num-1 shape-the_row-Num-0 shape-the_row-Num-1
trees_compute = tt

-- the trees and what they mean
unfoldable pub meaning_computes : Unit {0}
unfolding trees_compute digits below objects start tuples bind are_arguments holds adds dels next hard_holds prefs cost_places given_value increases effect_cost action_named step_cost fits state_after visited steps_fit satisfies sat hard_modals hard_list operators instances_of instances goal_holds is_valid misfit step_fault goal_fault constraint_fault first_fault step_prefs violated cost quantity metric_places value loss base_loss weight cost_weight constrains prefers is_plain is_formula_variable_free is_effect_variable_free is_goal_variable_free is_constraint_variable_free is_variable_free steps lifted_step lift extra binding_count formula_size effect_size goal_size constraint_size width cost_bound formula_uses effect_uses goal_uses constraint_uses num_uses domain_uses problem_uses domain_duplicates problem_duplicates named_in_goal named_in_constraint preference_names ordered_names domain_unknowns problem_unknowns domain_miscounts problem_miscounts domain_clashes problem_clashes shown reasons literals formula_atoms conds is_effect_unconditional is_unconditional
meaning_computes = trees_compute

-- texts, their expressions and their trees
unfoldable pub texts_compute : Unit {0}
unfolding trees_compute hidden-the_row-Expression-0 shape-the_row-Expression-0 tokens_from expression_of formula_place effect_place goal_place inner_place constraint_place num_place domain_place problem_place
texts_compute = trees_compute
