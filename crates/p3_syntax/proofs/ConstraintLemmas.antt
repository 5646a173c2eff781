-- Constraints of lists.
use Rattle.std.proofs.Common.{◌≡◌, ◌∙◌, refl, ap, Bool, true, false, List, [], ◌∷◌, Option, Some, None}
use Rattle.std.specs.Prelude.{codes}
use Rattle.p3_task.specs.Grammar.Words.{◌>>=◌, Place, pair, parts_place, expressions, headed, choose}
use Rattle.p3_task.specs.Grammar.Lists.{variables_place}
use Rattle.p3_task.specs.Grammar.Formulas.{formula_place}
use Rattle.p3_task.specs.Grammar.Goals.{preferred}
use Rattle.p3_task.specs.Grammar.Constraints.{with_two, constraint_in, inner_forms, inner_place, constraint_place, single_form, each_form, preference_form}
use Rattle.p3_task.specs.declared.expression.Expression.{Expression, Group'}
use Rattle.p3_task.specs.declared.expression.Expression.TheVariants as expression
use Rattle.p3_task.specs.declared.formula.Formula.{Formula}
use Rattle.p3_task.specs.Modal.{Modal}
use Rattle.p3_task.specs.declared.constraint.Constraint.{Constraint}
use Rattle.p3_task.specs.declared.constraint.Constraint.TheVariants as constraint
use Rattle.p3_task.specs.declared.term.Ref.{Ref}
use Rattle.p3_syntax.specs.Trees.{listed, constraint_at, constraint_of}
use Rattle.p3_syntax.specs.Formulas.{two_formulas}
use Rattle.p3_syntax.proofs.TreeLemmas.{raws_listed, row_listed, headed_listed}
use Rattle.p3_syntax.proofs.GoalLemmas.{preferred_named}

abbrev both_of : Formula → Formula → Formula × Formula
both_of first second = (first, second)

-- two formulas, read before the operator over them is made
pub two_read : (operator : Formula → Formula → Modal) (list : List Expression) → with_two operator list ≡ two_formulas list >>= λ both. Some (operator both.0 both.1)
two_read operator list = by (pair list)
  where
    through : (first second : Option Formula)
        → (first >>= λ first. second >>= λ second. Some (operator first second)) ≡ (first >>= λ first. second >>= λ second. Some (both_of first second)) >>= λ both. Some (operator both.0 both.1)
    through None second = refl
    through (Some first) None = refl
    through (Some first) (Some second) = refl

    by : (both : Option (Expression × Expression))
        → (both >>= λ both. formula_place both.0 >>= λ first. formula_place both.1 >>= λ second. Some (operator first second))
        ≡ (both >>= λ both. formula_place both.0 >>= λ first. formula_place both.1 >>= λ second. Some (both_of first second)) >>= λ both. Some (operator both.0 both.1)
    by None = refl
    by (Some both) = through (formula_place both.0) (formula_place both.1)

pub each_listed : (head : Ref) (place : Place Constraint) (list : List Expression)
    → each_form head (listed place list) ≡ pair list >>= λ both. variables_place both.0 >>= λ variables. place both.1 >>= λ body. Some (constraint.Each variables body)
each_listed head place [] = refl
each_listed head place (e ∷ []) = refl
each_listed head place (e ∷ d ∷ []) = refl
each_listed head place (e ∷ d ∷ c ∷ list) = refl

pub preference_listed : (head : Ref) (place : Place Constraint) (list : List Expression)
    → preference_form head (listed place list)
    ≡ preferred {A = Expression} Some list >>= λ found. inner_place found.1 >>= λ body. Some (constraint.Soft head.at found.0 body)
preference_listed head place list =
    (λ i. preferred inner_place (raws_listed place list i) >>= λ found. Some (constraint.Soft head.at found.0 found.1)) ∙ preferred_named inner_place list (constraint.Soft head.at)

-- the constraint of an expression is that of its list, by the first word
pub constraint_of_list : (may_be_soft : Bool) (e : Expression)
    → constraint_at may_be_soft e ≡ parts_place e >>= λ parts. headed (λ (part : Expression). part) parts >>= λ list. constraint_of may_be_soft e list.0 list.1
unfolding constraint_place inner_place
constraint_of_list true (expression.Word at text) = refl
constraint_of_list false (expression.Word at text) = refl
constraint_of_list true (Group' at shape row) =
    let e : Expression = Group' at shape row in
    ap (constraint_in ((codes "preference", preference_form) ∷ inner_forms) e) (row_listed (λ word. None) (constraint_in ((codes "preference", preference_form) ∷ inner_forms)) row)
    ∙ headed_listed constraint_place (expressions row) (λ list. choose list.0.name ((codes "preference", preference_form) ∷ inner_forms) (λ head behind. single_form e) list.0 list.1)
constraint_of_list false (Group' at shape row) =
    let e : Expression = Group' at shape row in
    ap (constraint_in inner_forms e) (row_listed (λ word. None) (constraint_in inner_forms) row)
    ∙ headed_listed inner_place (expressions row) (λ list. choose list.0.name inner_forms (λ head behind. single_form e) list.0 list.1)
