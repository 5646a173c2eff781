-- Trees with all offsets 0. No definition of meaning tells a tree from its erased form.
use Rattle.std.specs.Prelude.{List, map, option_map}
use mathlib.Core.Former.{Count}
use Rattle.p3_task.specs.Goals.{StatePref}
use Rattle.p3_task.specs.Constraints.{HardModal, Instance}
use Rattle.p3_task.specs.PreferenceNames.{Named}
use Rattle.p3_task.specs.Uses.{Use, Objects, Variables, AtomUse, FunctionUse, SideUse, NameUse}
use Rattle.p3_task.specs.declared.term.Ref.{Ref}
use Rattle.p3_task.specs.declared.term.Term.{Term}
use Rattle.p3_task.specs.declared.term.Term.TheVariants.{Var, Const}
use Rattle.p3_task.specs.declared.term.Typed.{Typed}
use Rattle.p3_task.specs.declared.formula.Formula.{Formula, Row_of-Formula, end_of-Formula, more_of-Formula}
use Rattle.p3_task.specs.declared.formula.Formula.TheVariants as formula
use Rattle.p3_task.specs.declared.effect.Numeral.{Numeral}
use Rattle.p3_task.specs.declared.effect.Amount.{Amount}
use Rattle.p3_task.specs.declared.effect.Amount.TheVariants as amount
use Rattle.p3_task.specs.declared.effect.Effect.{Effect, Row_of-Effect, end_of-Effect, more_of-Effect}
use Rattle.p3_task.specs.declared.effect.Effect.TheVariants as effect
use Rattle.p3_task.specs.declared.goal.Pref.{Pref}
use Rattle.p3_task.specs.declared.goal.PreGoal.{PreGoal, Row_of-PreGoal, end_of-PreGoal, more_of-PreGoal}
use Rattle.p3_task.specs.declared.goal.PreGoal.TheVariants as goal
use Rattle.p3_task.specs.Modal.{Modal}
use Rattle.p3_base.specs.Operators.{over}
use Rattle.p3_task.specs.declared.constraint.Constraint.{Constraint, Row_of-Constraint, end_of-Constraint, more_of-Constraint}
use Rattle.p3_task.specs.declared.constraint.Constraint.TheVariants as constraint
use Rattle.p3_task.specs.declared.metric.Metric.{Metric}
use Rattle.p3_task.specs.declared.metric.Num.{Num, Row_of-Num, end_of-Num, more_of-Num}
use Rattle.p3_task.specs.declared.metric.Num.TheVariants as num
use Rattle.p3_task.specs.declared.task.Kind.{Kind}
use Rattle.p3_task.specs.declared.task.Header.{Header}
use Rattle.p3_task.specs.declared.task.Action.{Action}
use Rattle.p3_task.specs.declared.task.Init.{Init}
use Rattle.p3_task.specs.declared.task.Init.TheVariants as init
use Rattle.p3_task.specs.declared.task.Domain.{Domain}
use Rattle.p3_task.specs.declared.task.Problem.{Problem}
use Rattle.p3_task.specs.declared.task.Task.{Task}

-- ---- words

abbrev pub erased_ref : Ref → Ref
erased_ref ref = record { name = ref.name; at = 0 }

abbrev pub erased_term : Term → Term
erased_term (Var ref) = Var (erased_ref ref)
erased_term (Const ref) = Const (erased_ref ref)

abbrev pub erased_terms : List Term → List Term
erased_terms terms = map erased_term terms

abbrev pub erased_typed : Typed → Typed
erased_typed typed = record { name = erased_ref typed.name; types = map erased_ref typed.types }

abbrev pub erased_all_typed : List Typed → List Typed
erased_all_typed list = map erased_typed list

abbrev pub erased_numeral : Numeral → Numeral
erased_numeral numeral = record numeral { at = 0; len = 0 }

abbrev pub erased_amount : Amount → Amount
erased_amount (amount.Number numeral) = amount.Number (erased_numeral numeral)
erased_amount (amount.Value function args) = amount.Value (erased_ref function) (erased_terms args)

-- ---- trees

abbrev mutual
  pub erased_formula : Formula → Formula
  erased_formula (formula.Atom pred args) = formula.Atom (erased_ref pred) (erased_terms args)
  erased_formula (formula.Equal left right) = formula.Equal (erased_term left) (erased_term right)
  erased_formula (formula.And' shape parts) = formula.And' shape (erased_formulas parts)
  erased_formula (formula.Or' shape parts) = formula.Or' shape (erased_formulas parts)
  erased_formula (formula.Not' shape part) = formula.Not' shape (erased_formulas part)
  erased_formula (formula.Imply' first_shape first second_shape second) = formula.Imply' first_shape (erased_formulas first) second_shape (erased_formulas second)
  erased_formula (formula.Exists' variables shape body) = formula.Exists' (erased_all_typed variables) shape (erased_formulas body)
  erased_formula (formula.Forall' variables shape body) = formula.Forall' (erased_all_typed variables) shape (erased_formulas body)

  pub erased_formulas : {n : Count} → Row_of-Formula n → Row_of-Formula n
  erased_formulas end_of-Formula = end_of-Formula
  erased_formulas (more_of-Formula part rest) = more_of-Formula (erased_formula part) (erased_formulas rest)

abbrev mutual
  pub erased_effect : Effect → Effect
  erased_effect (effect.Add pred args) = effect.Add (erased_ref pred) (erased_terms args)
  erased_effect (effect.Del pred args) = effect.Del (erased_ref pred) (erased_terms args)
  erased_effect (effect.All' shape parts) = effect.All' shape (erased_effects parts)
  erased_effect (effect.Each' variables shape body) = effect.Each' (erased_all_typed variables) shape (erased_effects body)
  erased_effect (effect.If' condition shape body) = effect.If' (erased_formula condition) shape (erased_effects body)
  erased_effect (effect.Cost at increase) = effect.Cost 0 (erased_amount increase)

  pub erased_effects : {n : Count} → Row_of-Effect n → Row_of-Effect n
  erased_effects end_of-Effect = end_of-Effect
  erased_effects (more_of-Effect part rest) = more_of-Effect (erased_effect part) (erased_effects rest)

abbrev pub erased_pref : Pref → Pref
erased_pref pref = record { at = 0; name = option_map erased_ref pref.name; body = erased_formula pref.body }

abbrev mutual
  pub erased_goal : PreGoal → PreGoal
  erased_goal (goal.Plain body) = goal.Plain (erased_formula body)
  erased_goal (goal.Both' shape parts) = goal.Both' shape (erased_goals parts)
  erased_goal (goal.Each' variables shape body) = goal.Each' (erased_all_typed variables) shape (erased_goals body)
  erased_goal (goal.Soft pref) = goal.Soft (erased_pref pref)

  pub erased_goals : {n : Count} → Row_of-PreGoal n → Row_of-PreGoal n
  erased_goals end_of-PreGoal = end_of-PreGoal
  erased_goals (more_of-PreGoal part rest) = more_of-PreGoal (erased_goal part) (erased_goals rest)

abbrev pub erased_modal : Modal → Modal
erased_modal modal = over erased_formula modal

abbrev mutual
  pub erased_constraint : Constraint → Constraint
  erased_constraint (constraint.Both' shape parts) = constraint.Both' shape (erased_constraints parts)
  erased_constraint (constraint.Each' variables shape body) = constraint.Each' (erased_all_typed variables) shape (erased_constraints body)
  erased_constraint (constraint.Single operator) = constraint.Single (erased_modal operator)
  erased_constraint (constraint.Soft' at name shape body) = constraint.Soft' 0 (option_map erased_ref name) shape (erased_constraints body)

  pub erased_constraints : {n : Count} → Row_of-Constraint n → Row_of-Constraint n
  erased_constraints end_of-Constraint = end_of-Constraint
  erased_constraints (more_of-Constraint part rest) = more_of-Constraint (erased_constraint part) (erased_constraints rest)

abbrev mutual
  pub erased_num : Num → Num
  erased_num (num.Number numeral) = num.Number (erased_numeral numeral)
  erased_num (num.TotalCost at) = num.TotalCost 0
  erased_num (num.Violated name) = num.Violated (erased_ref name)
  erased_num (num.Neg' at shape part) = num.Neg' 0 shape (erased_nums part)
  erased_num (num.Sub' at first_shape first second_shape second) = num.Sub' 0 first_shape (erased_nums first) second_shape (erased_nums second)
  erased_num (num.Sum' at shape parts) = num.Sum' 0 shape (erased_nums parts)
  erased_num (num.Product' at shape parts) = num.Product' 0 shape (erased_nums parts)

  pub erased_nums : {n : Count} → Row_of-Num n → Row_of-Num n
  erased_nums end_of-Num = end_of-Num
  erased_nums (more_of-Num part rest) = more_of-Num (erased_num part) (erased_nums rest)

abbrev pub erased_metric : Metric → Metric
erased_metric metric = record { direction = metric.direction; body = erased_num metric.body }

-- ---- tasks

abbrev pub erased_kind : Kind → Kind
erased_kind kind = record { name = erased_ref kind.name; parent = option_map erased_ref kind.parent }

abbrev pub erased_header : Header → Header
erased_header header = record { name = erased_ref header.name; params = erased_all_typed header.params }

abbrev pub erased_action : Action → Action
erased_action action = record {
  name = erased_ref action.name;
  params = erased_all_typed action.params;
  pre = record { at = 0; body = erased_goal action.pre.body };
  effect = record { at = 0; body = erased_effect action.effect.body };
}

abbrev pub erased_init : Init → Init
erased_init (init.True pred args) = init.True (erased_ref pred) (erased_terms args)
erased_init (init.False pred args) = init.False (erased_ref pred) (erased_terms args)
erased_init (init.Value function args number) = init.Value (erased_ref function) (erased_terms args) (erased_numeral number)

abbrev pub erased_domain : Domain → Domain
erased_domain D = record {
  name = erased_ref D.name;
  kinds = map erased_kind D.kinds;
  constants = erased_all_typed D.constants;
  predicates = map erased_header D.predicates;
  functions = map erased_header D.functions;
  constraints = record { at = 0; body = erased_constraint D.constraints.body };
  actions = map erased_action D.actions;
}

abbrev pub erased_problem : Problem → Problem
erased_problem P = record {
  name = erased_ref P.name;
  domain = erased_ref P.domain;
  objects = erased_all_typed P.objects;
  init = map erased_init P.init;
  goal = record { at = 0; body = erased_goal P.goal.body };
  constraints = record { at = 0; body = erased_constraint P.constraints.body };
  metric = option_map erased_metric P.metric;
}

abbrev pub erased : Task → Task
erased T = record { domain = erased_domain T.domain; problem = erased_problem T.problem }

-- ---- what definitions give of trees

abbrev pub erased_state_pref : StatePref → StatePref
erased_state_pref pref = record { at = 0; name = pref.name; body = erased_formula pref.body; env = pref.env }

abbrev pub erased_hard_modal : HardModal → HardModal
erased_hard_modal entry = record { modal = erased_modal entry.modal; env = entry.env }

abbrev pub erased_instance : Instance → Instance
erased_instance instance = record { at = 0; name = instance.name; body = erased_constraint instance.body; env = instance.env }

abbrev pub erased_named : Named → Named
erased_named named = record { at = 0; name = named.name }

abbrev pub erased_use : Use → Use
erased_use (Objects objects) = Objects (erased_all_typed objects)
erased_use (Variables variables) = Variables (erased_all_typed variables)
erased_use (AtomUse pred args scope) = AtomUse (erased_ref pred) (erased_terms args) scope
erased_use (FunctionUse function args scope) = FunctionUse (erased_ref function) (erased_terms args) scope
erased_use (SideUse side scope) = SideUse (erased_term side) scope
erased_use (NameUse name) = NameUse (erased_ref name)
