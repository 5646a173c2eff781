-- Folds of expressions at sums, and that an expression is rebuilt in the order of evaluation.
use Rattle.std.proofs.Common.{◌≡◌, ◌∙◌, refl, sym, ap, ℕ, List, [], ◌∷◌, ◌++◌, map}
use denote.Hole.Carrier.{hidden, shown}
use mathlib.Core.Former.{Count}
use Rattle.p3_task.specs.Folds.{fold_num, fold_nums}
use Rattle.p3_task.specs.Refusals.Metric.{Evaluated, order_layer, trees, folds, operations}
use Rattle.p3_task.proofs.FoldLemmas.{fold_num-Product}
use Rattle.p3_task.specs.declared.effect.Numeral.{Numeral}
use Rattle.p3_task.specs.declared.term.Ref.{Ref}
use Rattle.p3_task.specs.declared.metric.Num.{Num, Num-F, Row_of-Num, end_of-Num, more_of-Num, roll-Num, roll-out-Num, items-the_row-Num, items_shown-the_row-Num-1, items_hidden-the_row-Num-1}
use Rattle.p3_task.specs.declared.metric.Num.TheBlock.{hidden-the_row-Num-0, hidden-the_row-Num-1, shown-the_row-Num-0}
use Rattle.p3_task.specs.declared.metric.Num.TheVariants as num
use Rattle.p3_task.specs.declared.metric.Num.TheOpen as num_layer
use Rattle.p3_metric.specs.Operations.{operations_from}

module _ {A : Type 0} (layer : Num-F A → A) where
  pub row_nums : {n : Count} (row : Row_of-Num n) → fold_nums layer row ≡ map (fold_num layer) (items-the_row-Num n row)
  row_nums end_of-Num = refl
  row_nums (more_of-Num part rest) = λ i. fold_num layer part ∷ row_nums rest i

  pub fold_num-Sum : (at : ℕ) (parts : List Num) → fold_num layer (num.Sum at parts) ≡ layer (num_layer.Sum at (map (fold_num layer) parts))
  fold_num-Sum at parts = ap (λ results. layer (num_layer.Sum at results)) (row_nums (hidden-the_row-Num-1 parts) ∙ ap (map (fold_num layer)) (items_hidden-the_row-Num-1 parts))

-- ---- an expression is rebuilt

sum_is : (at : ℕ) (shape : _) (parts : Row_of-Num _) → num.Sum' at shape parts ≡ num.Sum at (items-the_row-Num _ parts)
sum_is at shape parts = sym (roll-out-Num (num.Sum' at shape parts)) ∙ ap roll-Num (num.outs-Sum' at shape parts) ∙ num.rolls-Sum at _ ∙ ap (num.Sum at) (items_shown-the_row-Num-1 shape parts)

product_is : (at : ℕ) (shape : _) (parts : Row_of-Num _) → num.Product' at shape parts ≡ num.Product at (items-the_row-Num _ parts)
product_is at shape parts = sym (roll-out-Num (num.Product' at shape parts)) ∙ ap roll-Num (num.outs-Product' at shape parts) ∙ num.rolls-Product at _ ∙ ap (num.Product at) (items_shown-the_row-Num-1 shape parts)

neg_is : (at : ℕ) (shape : _) (part : Num) (rest : _) → num.Neg' at shape (more_of-Num part rest) ≡ num.Neg at part
unfolding shown-the_row-Num-0 shown
neg_is at shape part rest = sym (roll-out-Num (num.Neg' at shape (more_of-Num part rest))) ∙ ap roll-Num (num.outs-Neg' at shape (more_of-Num part rest)) ∙ num.rolls-Neg at _

sub_is : (at : ℕ) (shape : _) (first : Num) (rest : _) (other_shape : _) (second : Num) (others : _) → num.Sub' at shape (more_of-Num first rest) other_shape (more_of-Num second others) ≡ num.Sub at first second
unfolding shown-the_row-Num-0 shown
sub_is at shape first rest other_shape second others =
    sym (roll-out-Num (num.Sub' at shape (more_of-Num first rest) other_shape (more_of-Num second others))) ∙ ap roll-Num (num.outs-Sub' at shape (more_of-Num first rest) other_shape (more_of-Num second others)) ∙ num.rolls-Sub at _ _

mutual
  pub rebuilt : (tree : Num) → (fold_num order_layer tree).tree ≡ tree
  rebuilt (num.Number numeral) = refl
  rebuilt (num.TotalCost at) = refl
  rebuilt (num.Violated name) = refl
  rebuilt (num.Neg' at shape (more_of-Num part rest)) = ap (num.Neg at) (rebuilt part) ∙ sym (neg_is at shape part rest)
  rebuilt (num.Sub' at shape (more_of-Num first rest) other_shape (more_of-Num second others)) = (λ i. num.Sub at (rebuilt first i) (rebuilt second i)) ∙ sym (sub_is at shape first rest other_shape second others)
  rebuilt (num.Sum' at shape parts) = ap (num.Sum at) (all_rebuilt parts) ∙ sym (sum_is at shape parts)
  rebuilt (num.Product' at shape parts) = ap (num.Product at) (all_rebuilt parts) ∙ sym (product_is at shape parts)

  all_rebuilt : {n : Count} (row : Row_of-Num n) → trees (fold_nums order_layer row) ≡ items-the_row-Num n row
  all_rebuilt end_of-Num = refl
  all_rebuilt (more_of-Num part rest) = λ i. rebuilt part i ∷ all_rebuilt rest i

-- ---- the operations in the order of evaluation

folds_are : (operator : List Num → Num) (done parts : List Num) → folds operator done (map (fold_num order_layer) parts) ≡ operations_from operator done parts
unfolding operations
folds_are operator done [] = refl
folds_are operator done (part ∷ parts) =
    (λ i. operations part ++ operator (done ++ rebuilt part i ∷ []) ∷ folds operator (done ++ rebuilt part i ∷ []) (map (fold_num order_layer) parts))
    ∙ ap (λ rest. operations part ++ operator (done ++ part ∷ []) ∷ rest) (folds_are operator (done ++ part ∷ []) parts)

pub operations-Number : (numeral : Numeral) → operations (num.Number numeral) ≡ []
unfolding operations
operations-Number numeral = refl

pub operations-TotalCost : (at : ℕ) → operations (num.TotalCost at) ≡ []
unfolding operations
operations-TotalCost at = refl

pub operations-Violated : (name : Ref) → operations (num.Violated name) ≡ []
unfolding operations
operations-Violated name = refl

pub operations-Neg : (at : ℕ) (part : Num) → operations (num.Neg at part) ≡ operations part ++ num.Neg at part ∷ []
unfolding operations hidden-the_row-Num-0 hidden
operations-Neg at part = ap (λ tree. operations part ++ num.Neg at tree ∷ []) (rebuilt part)

pub operations-Sub : (at : ℕ) (first second : Num) → operations (num.Sub at first second) ≡ operations first ++ operations second ++ num.Sub at first second ∷ []
unfolding operations hidden-the_row-Num-0 hidden
operations-Sub at first second = λ i. operations first ++ operations second ++ num.Sub at (rebuilt first i) (rebuilt second i) ∷ []

pub operations-Sum : (at : ℕ) (parts : List Num) → operations (num.Sum at parts) ≡ operations_from (num.Sum at) [] parts
unfolding operations
operations-Sum at parts = ap (λ (e : Evaluated). e.order) (fold_num-Sum order_layer at parts) ∙ folds_are (num.Sum at) [] parts

pub operations-Product : (at : ℕ) (parts : List Num) → operations (num.Product at parts) ≡ operations_from (num.Product at) [] parts
unfolding operations
operations-Product at parts = ap (λ (e : Evaluated). e.order) (fold_num-Product order_layer at parts) ∙ folds_are (num.Product at) [] parts
