-- Texts of constraints.
use Rattle.std.specs.Prelude.{List, [], ◌∷◌, map, codes, if◌then◌else◌, Option, Some, None}
use Rattle.p3_task.specs.Names.{Name, is_empty}
use Rattle.p3_task.specs.Grammar.Words.{◌>>=◌, Place, ListPart, descend, raws, all_trees, only, pair, parts_place, is_word, headed, choose}
use Rattle.p3_task.specs.Grammar.Lists.{variables_place}
use Rattle.p3_task.specs.Grammar.Formulas.{formula_place}
use Rattle.p3_task.specs.Grammar.Goals.{preferred}
use Rattle.p3_task.specs.declared.expression.Expression.{Expression}
use Rattle.p3_task.specs.declared.term.Ref.{Ref}
use Rattle.p3_task.specs.declared.formula.Formula.{Formula}
use Rattle.p3_task.specs.Modal.{Modal}
use Rattle.p3_base.specs.declared.operator.Operator.TheVariants as modal
use Rattle.p3_task.specs.declared.constraint.Constraint.{Constraint}
use Rattle.p3_task.specs.declared.constraint.Constraint.TheVariants as constraint

-- ---- the operators

abbrev pub with_one : (Formula → Modal) → List Expression → Option Modal
with_one operator behind = only behind >>= λ e. formula_place e >>= λ tree. Some (operator tree)

abbrev pub with_two : (Formula → Formula → Modal) → List Expression → Option Modal
with_two operator behind = do
  both ← pair behind
  first ← formula_place both.0
  second ← formula_place both.1
  Some (operator first second)

-- `(at end` formula `)`
abbrev pub at_end_form : List Expression → Option Modal
at_end_form behind = do
  both ← pair behind
  word ← is_word (codes "end") both.0
  tree ← formula_place both.1
  Some (modal.AtEnd tree)

-- `(always` formula `)`, `(sometime` formula `)`, `(at-most-once` formula `)`, `(sometime-after` formula formula `)`, `(sometime-before` formula formula `)`
abbrev pub modal_forms : List (Name × (List Expression → Option Modal))
modal_forms = (codes "at", at_end_form) ∷ (codes "always", with_one modal.Always) ∷ (codes "sometime", with_one modal.Sometime) ∷ (codes "at-most-once", with_one modal.AtMostOnce)
    ∷ (codes "sometime-after", with_two modal.SometimeAfter) ∷ (codes "sometime-before", with_two modal.SometimeBefore) ∷ []

abbrev pub modal_in : List Expression → Option Modal
modal_in parts = headed (λ (part : Expression). part) parts >>= λ list. choose list.0.name modal_forms (λ behind. None) list.1

-- modal: one of these forms
abbrev pub modal_place : Place Modal
modal_place e = parts_place e >>= modal_in

-- ---- constraints, without preferences inside one

abbrev pub Parts : Type 0
Parts = List (ListPart (Option Constraint))

-- `(and` constraint* `)`, or `(and` inner* `)`
abbrev pub both_form : Ref → Parts → Option Constraint
both_form head behind = all_trees (map (λ (part : ListPart (Option Constraint)). part.tree) behind) >>= λ parts. Some (constraint.Both parts)

-- `(forall (` variable-list `)` constraint `)`, or with inner in its place
abbrev pub each_form : Ref → Parts → Option Constraint
each_form head behind = do
  both ← pair behind
  variables ← variables_place both.0.raw
  body ← both.1.tree
  Some (constraint.Each variables body)

abbrev pub inner_forms : List (Name × (Ref → Parts → Option Constraint))
inner_forms = (codes "and", both_form) ∷ (codes "forall", each_form) ∷ []

-- any other list: modal
abbrev pub single_form : Expression → Option Constraint
single_form e = modal_place e >>= λ operator. Some (constraint.Single operator)

abbrev pub constraint_in : List (Name × (Ref → Parts → Option Constraint)) → Expression → Parts → Option Constraint
constraint_in forms e parts = headed (λ (part : ListPart (Option Constraint)). part.raw) parts >>= λ list. choose list.0.name forms (λ head behind. single_form e) list.0 list.1

-- inner, which a preference prefers: `(and` inner* `)` | `(forall (` variable-list `)` inner `)` | modal
unfoldable pub inner_place : Place Constraint
inner_place = descend (λ word. None) (constraint_in inner_forms)

-- `(preference` [name] inner `)`
abbrev pub preference_form : Ref → Parts → Option Constraint
preference_form head behind = preferred inner_place (raws behind) >>= λ found. Some (constraint.Soft head.at found.0 found.1)

-- constraint: `(and` constraint* `)` | `(forall (` variable-list `)` constraint `)` | `(preference` [name] inner `)` | modal
unfoldable pub constraint_place : Place Constraint
constraint_place = descend (λ word. None) (constraint_in ((codes "preference", preference_form) ∷ inner_forms))

-- constraint | `()`, which means `(and)`
abbrev pub constraint_or_empty_place : Place Constraint
constraint_or_empty_place e = parts_place e >>= λ parts. if is_empty parts then Some (constraint.Both []) else constraint_place e
