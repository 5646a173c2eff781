-- Preconditions and goals of lists.
use Rattle.std.proofs.Common.{◌≡◌, ◌∙◌, refl, ap, false, codes, if◌then◌else◌, List, [], ◌∷◌, Option, Some, None}
use Rattle.p3_task.specs.Grammar.Words.{◌>>=◌, Place, pair, parts_place, name_place, expressions, headed, choose}
use Rattle.p3_task.specs.Grammar.Lists.{variables_place}
use Rattle.p3_task.specs.Grammar.Formulas.{formula_place}
use Rattle.p3_task.specs.Grammar.Goals.{goal_place, goal_in, goal_forms, plain_form, preferred, both_form, each_form, preference_form}
use Rattle.p3_task.specs.Names.{same_name}
use Rattle.p3_task.specs.declared.expression.Expression.{Expression, Group'}
use Rattle.p3_task.specs.declared.expression.Expression.TheVariants as expression
use Rattle.p3_task.specs.declared.formula.Formula.{Formula}
use Rattle.p3_task.specs.declared.goal.PreGoal.{PreGoal}
use Rattle.p3_task.specs.declared.goal.PreGoal.TheVariants as goal
use Rattle.p3_task.specs.declared.term.Ref.{Ref}
use Rattle.p3_syntax.specs.Trees.{listed, formula_of, goal_of}
use Rattle.p3_syntax.proofs.FormulaLemmas.{formula_of_list}
use Rattle.p3_syntax.proofs.TreeLemmas.{raws_listed, row_listed, headed_listed}

-- what is preferred is read behind its name
pub preferred_named : {A B : Type 0} (place : Place A) (list : List Expression) (f : Option Ref → A → B)
    → (preferred place list >>= λ found. Some (f found.0 found.1)) ≡ preferred {A = Expression} Some list >>= λ found. place found.1 >>= λ tree. Some (f found.0 tree)
preferred_named {A} {B} place list f = by list
  where
    with_name : {X : Type 0} → Option Ref → X → Option Ref × X
    with_name name x = (name, x)

    one : (name : Option Ref) (tree : Option A) → ((tree >>= λ tree. Some (with_name name tree)) >>= λ found. Some (f found.0 found.1)) ≡ tree >>= λ tree. Some (f name tree)
    one name None = refl
    one name (Some tree) = refl

    two : (name : Option Ref) (e : Expression) → ((name >>= λ name. place e >>= λ tree. Some (with_name (Some name) tree)) >>= λ found. Some (f found.0 found.1))
        ≡ (name >>= λ name. Some (with_name (Some name) e)) >>= λ found. place found.1 >>= λ tree. Some (f found.0 tree)
    two None e = refl
    two (Some name) e = one (Some name) (place e)

    by : (list : List Expression) → (preferred place list >>= λ found. Some (f found.0 found.1)) ≡ preferred {A = Expression} Some list >>= λ found. place found.1 >>= λ tree. Some (f found.0 tree)
    by [] = refl
    by (e ∷ []) = one None (place e)
    by (e ∷ d ∷ []) = two (name_place e) d
    by (e ∷ d ∷ c ∷ list) = refl

pub each_listed : (head : Ref) (list : List Expression)
    → each_form head (listed goal_place list) ≡ pair list >>= λ both. variables_place both.0 >>= λ variables. goal_place both.1 >>= λ body. Some (goal.Each variables body)
each_listed head [] = refl
each_listed head (e ∷ []) = refl
each_listed head (e ∷ d ∷ []) = refl
each_listed head (e ∷ d ∷ c ∷ list) = refl

soft : Ref → Option Ref → Formula → PreGoal
soft head name body = goal.Soft (record { at = head.at; name = name; body = body })

pub preference_listed : (head : Ref) (list : List Expression)
    → preference_form head (listed goal_place list)
    ≡ preferred {A = Expression} Some list >>= λ found. formula_place found.1 >>= λ body. Some (goal.Soft (record { at = head.at; name = found.0; body = body }))
unfolding soft
preference_listed head list = (λ i. preferred formula_place (raws_listed goal_place list i) >>= λ found. Some (soft head found.0 found.1)) ∙ preferred_named formula_place list (soft head)

-- a formula that is a goal, by the first word of its list
by_head : (e : Expression) (parts : List Expression) → (formula_place e ≡ headed (λ (part : Expression). part) parts >>= λ list. formula_of list.0 list.1)
    → (headed (λ (part : Expression). part) parts >>= λ list. choose list.0.name goal_forms (λ head behind. plain_form e) list.0 (listed goal_place list.1))
    ≡ headed (λ (part : Expression). part) parts >>= λ list. goal_of list.0 list.1
by_head e [] is = refl
by_head e (Group' at shape row ∷ parts) is = refl
by_head e (expression.Word at text ∷ parts) is =
    let head : Ref = record { name = text; at = at } in
    ap (λ plain. choose text goal_forms (λ word others. plain >>= λ tree. Some (goal.Plain tree)) head (listed goal_place parts)) is

-- the goal of an expression is that of its list, by the first word
pub goal_of_list : (e : Expression) → goal_place e ≡ parts_place e >>= λ parts. headed (λ (part : Expression). part) parts >>= λ list. goal_of list.0 list.1
unfolding goal_place
goal_of_list (expression.Word at text) = refl
goal_of_list (Group' at shape row) =
    let e : Expression = Group' at shape row in
    ap (goal_in e) (row_listed (λ word. None) goal_in row)
    ∙ headed_listed goal_place (expressions row) (λ list. choose list.0.name goal_forms (λ head behind. plain_form e) list.0 list.1)
    ∙ by_head e (expressions row) (formula_of_list e)

-- a list that begins with none of these words is a formula
pub goal_plain : (head : Ref) (list : List Expression) → same_name (codes "and") head.name ≡ false → same_name (codes "forall") head.name ≡ false → same_name (codes "preference") head.name ≡ false
    → goal_of head list ≡ formula_of head list >>= λ tree. Some (goal.Plain tree)
goal_plain head list both each soft =
    λ i. (if both i then both_form else (if each i then each_form else (if soft i then preference_form else (λ word others. formula_of head list >>= λ tree. Some (goal.Plain tree))))) head (listed goal_place list)
