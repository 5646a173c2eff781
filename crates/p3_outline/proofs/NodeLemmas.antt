-- Nodes and what they stand for.
use Rattle.std.proofs.Common.{◌≡◌, ◌∙◌, refl, sym, ap, subst, ℕ, zero, suc, ◌-◌, ◌≤◌, ◌<◌, get_or, List, [], ◌∷◌, take, drop, length, arith}
use mathlib.Core.Former.{Count}
use Rattle.p3_task.specs.Grammar.Words.{expressions}
use Rattle.p3_task.specs.declared.expression.Expression.{Expression, Row_of-Expression, end_of-Expression, more_of-Expression, items-the_row-Expression, items_hidden-the_row-Expression-0}
use Rattle.p3_task.specs.declared.expression.Expression.TheBlock.{hidden-the_row-Expression-0}
use Rattle.p3_task.specs.declared.expression.Expression.TheVariants as expression
use Rattle.p3_outline.specs.declared.view.Node.{Node}
use Rattle.p3_outline.specs.declared.view.Node.TheVariants as node
use Rattle.p3_outline.specs.Nodes.{decoded, word_of, expressions_in, expression_in, below_of, first_of, elements, IsList}
use Rattle.std.proofs.Common.{length-drop}
use Rattle.std.proofs.Math.Seq.{take-length}
use Rattle.std.proofs.lemmas.List.{length-take}

-- more fuel changes nothing
enough : (fuel more : ℕ) (text : List ℕ) (nodes : List Node) → length nodes ≤ fuel → length nodes ≤ more → decoded fuel text nodes ≡ decoded more text nodes
unfolding decoded
enough zero zero text nodes less also = refl
enough zero (suc more) text [] less also = refl
enough zero (suc more) text (n ∷ nodes) less also = absurd (omega (arith, less))
enough (suc fuel) zero text [] less also = refl
enough (suc fuel) zero text (n ∷ nodes) less also = absurd (omega (arith, also))
enough (suc fuel) (suc more) text [] less also = refl
enough (suc fuel) (suc more) text (node.Word at len ∷ nodes) less also = ap (λ es. word_of text at len ∷ es) (enough fuel more text nodes (omega (arith, less)) (omega (arith, also)))
enough (suc fuel) (suc more) text (node.List at below ∷ nodes) less also =
    let first = enough fuel more text (take below nodes) (omega (arith, less, length-take below nodes)) (omega (arith, also, length-take below nodes)) in
    let others = enough fuel more text (drop below nodes) (omega (arith, less, length-drop below nodes)) (omega (arith, also, length-drop below nodes)) in
    ap (λ es. expression.Group at es ∷ decoded fuel text (drop below nodes)) first ∙ ap (λ es. expression.Group at (decoded more text (take below nodes)) ∷ es) others

pub no_node : (text : List ℕ) → expressions_in text [] ≡ []
unfolding decoded
no_node text = refl

pub next_word : (text : List ℕ) (at len : ℕ) (nodes : List Node) → expressions_in text (node.Word at len ∷ nodes) ≡ word_of text at len ∷ expressions_in text nodes
unfolding decoded
next_word text at len nodes = refl

pub next_list : (text : List ℕ) (at below : ℕ) (nodes : List Node)
    → expressions_in text (node.List at below ∷ nodes) ≡ expression.Group at (expressions_in text (take below nodes)) ∷ expressions_in text (drop below nodes)
unfolding decoded
next_list text at below nodes =
    let first = enough (length nodes) (length (take below nodes)) text (take below nodes) (omega (arith, length-take below nodes)) (omega arith) in
    let others = enough (length nodes) (length (drop below nodes)) text (drop below nodes) (omega (arith, length-drop below nodes)) (omega arith) in
    ap (λ es. expression.Group at es ∷ decoded (length nodes) text (drop below nodes)) first ∙ ap (λ es. expression.Group at (expressions_in text (take below nodes)) ∷ es) others

pub next_node : (text : List ℕ) (n : Node) (nodes : List Node) → expressions_in text (n ∷ nodes) ≡ expression_in text n (take (below_of n) nodes) ∷ expressions_in text (drop (below_of n) nodes)
next_node text (node.Word at len) nodes = next_word text at len nodes
next_node text (node.List at below) nodes = next_list text at below nodes

pub first_node : (text : List ℕ) (d : Node) (nodes below later : List Node) → 1 ≤ length nodes → below ≡ take (below_of (get_or nodes 0 d)) (drop 1 nodes) → later ≡ drop (below_of (get_or nodes 0 d)) (drop 1 nodes)
    → expressions_in text nodes ≡ expression_in text (get_or nodes 0 d) below ∷ expressions_in text later
first_node text d [] below later some is_below is_later = absurd (omega (arith, some))
first_node text d (n ∷ nodes) below later some is_below is_later =
    next_node text n nodes ∙ ap (λ b. expression_in text n b ∷ expressions_in text (drop (below_of n) nodes)) (sym is_below) ∙ ap (λ l. expression_in text n below ∷ expressions_in text l) (sym is_later)

pub no_nodes : (text : List ℕ) (nodes : List Node) → length nodes < 1 → expressions_in text nodes ≡ []
no_nodes text [] none = no_node text
no_nodes text (n ∷ nodes) none = absurd (omega (arith, none))

pub rest_same : (nodes : List Node) → take (length nodes - 1) (drop 1 nodes) ≡ drop 1 nodes
rest_same nodes = ap (λ n. take n (drop 1 nodes)) (sym (length-drop 1 nodes)) ∙ take-length (drop 1 nodes)

-- ---- expressions of views

expressions_items : {n : Count} (row : Row_of-Expression n) → expressions row ≡ items-the_row-Expression n row
expressions_items end_of-Expression = refl
expressions_items (more_of-Expression part rest) = ap (λ es. part ∷ es) (expressions_items rest)

pub elements_of_list : (at : ℕ) (parts : List Expression) → elements (expression.Group at parts) ≡ parts
elements_of_list at parts = expressions_items (hidden-the_row-Expression-0 parts) ∙ items_hidden-the_row-Expression-0 parts

-- the view of a list
module _ (text : List ℕ) (n : Node) (at count : ℕ) (below : List Node) (is : n ≡ node.List at count) where
  pub view_is_list : IsList (expression_in text n below)
  view_is_list = subst (λ n. IsList (expression_in text n below)) (sym is) (ap (expression.Group at) (sym (elements_of_list at (expressions_in text below))))

  pub view_elements : expressions_in text below ≡ elements (expression_in text n below)
  view_elements = sym (ap (λ n. elements (expression_in text n below)) is ∙ elements_of_list at (expressions_in text below))

pub no_root : (text : List ℕ) (nodes : List Node) → expressions_in text nodes ≡ [] → expression.Group 0 (expressions_in text []) ≡ first_of (expressions_in text nodes)
no_root text nodes none = ap (expression.Group 0) (no_node text) ∙ sym (ap first_of none)

pub first_root : (text : List ℕ) (nodes : List Node) (e : Expression) (es : List Expression) → expressions_in text nodes ≡ e ∷ es → e ≡ first_of (expressions_in text nodes)
first_root text nodes e es is = sym (ap first_of is)
