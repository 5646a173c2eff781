-- Formulas of lists.
use Rattle.std.proofs.Common.{◌≡◌, ◌∙◌, refl, ap, List, [], ◌∷◌, Option, Some, None}
use Rattle.p3_task.specs.Grammar.Words.{◌>>=◌, only, pair, parts_place, expressions, headed, choose}
use Rattle.p3_task.specs.Grammar.Lists.{variables_place}
use Rattle.p3_task.specs.Grammar.Formulas.{formula_place, formula_in, formula_forms, atom_form, not_form, imply_form, exists_form, forall_form}
use Rattle.p3_task.specs.declared.expression.Expression.{Expression, Group'}
use Rattle.p3_task.specs.declared.expression.Expression.TheVariants as expression
use Rattle.p3_task.specs.declared.formula.Formula.{Formula}
use Rattle.p3_task.specs.declared.formula.Formula.TheVariants as formula
use Rattle.p3_task.specs.declared.term.Typed.{Typed}
use Rattle.p3_syntax.specs.Trees.{listed, formula_of}
use Rattle.p3_syntax.proofs.TreeLemmas.{row_listed, headed_listed}

pub not_listed : (list : List Expression) → not_form (listed formula_place list) ≡ only list >>= λ e. formula_place e >>= λ part. Some (formula.Not part)
not_listed [] = refl
not_listed (e ∷ []) = refl
not_listed (e ∷ d ∷ list) = refl

pub imply_listed : (list : List Expression)
    → imply_form (listed formula_place list) ≡ pair list >>= λ both. formula_place both.0 >>= λ first. formula_place both.1 >>= λ second. Some (formula.Imply first second)
imply_listed [] = refl
imply_listed (e ∷ []) = refl
imply_listed (e ∷ d ∷ []) = refl
imply_listed (e ∷ d ∷ c ∷ list) = refl

abbrev quantifier : List Typed → Formula → List Typed × Formula
quantifier variables body = (variables, body)

through : (variables : Option (List Typed)) (body : Option Formula) (f : List Typed → Formula → Formula)
    → ((variables >>= λ vs. body >>= λ b. Some (quantifier vs b)) >>= λ found. Some (f found.0 found.1)) ≡ variables >>= λ vs. body >>= λ b. Some (f vs b)
through None body f = refl
through (Some vs) None f = refl
through (Some vs) (Some b) f = refl

pub exists_listed : (list : List Expression)
    → exists_form (listed formula_place list) ≡ pair list >>= λ both. variables_place both.0 >>= λ variables. formula_place both.1 >>= λ body. Some (formula.Exists variables body)
exists_listed [] = refl
exists_listed (e ∷ []) = refl
exists_listed (e ∷ d ∷ []) = through (variables_place e) (formula_place d) formula.Exists
exists_listed (e ∷ d ∷ c ∷ list) = refl

pub forall_listed : (list : List Expression)
    → forall_form (listed formula_place list) ≡ pair list >>= λ both. variables_place both.0 >>= λ variables. formula_place both.1 >>= λ body. Some (formula.Forall variables body)
forall_listed [] = refl
forall_listed (e ∷ []) = refl
forall_listed (e ∷ d ∷ []) = through (variables_place e) (formula_place d) formula.Forall
forall_listed (e ∷ d ∷ c ∷ list) = refl

-- the first part of a list that begins with a word is that word
by_head : (parts : List Expression)
    → (headed (λ (part : Expression). part) parts >>= λ list. choose list.0.name formula_forms (λ behind. atom_form (listed formula_place parts)) (listed formula_place list.1))
    ≡ headed (λ (part : Expression). part) parts >>= λ list. formula_of list.0 list.1
by_head [] = refl
by_head (expression.Word at text ∷ parts) = refl
by_head (Group' at shape row ∷ parts) = refl

-- the formula of an expression is that of its list, by the first word
pub formula_of_list : (e : Expression) → formula_place e ≡ parts_place e >>= λ parts. headed (λ (part : Expression). part) parts >>= λ list. formula_of list.0 list.1
unfolding formula_place
formula_of_list (expression.Word at text) = refl
formula_of_list (Group' at shape row) =
    let parts : List Expression = expressions row in
    ap formula_in (row_listed (λ word. None) (λ list parts. formula_in parts) row)
    ∙ headed_listed formula_place parts (λ list. choose list.0.name formula_forms (λ behind. atom_form (listed formula_place parts)) list.1)
    ∙ by_head parts
