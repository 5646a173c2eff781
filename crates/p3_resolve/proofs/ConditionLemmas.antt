-- The condition that a formula becomes, form by form.
use Rattle.std.proofs.Common.{◌≡◌, ◌∙◌, List, ◌++◌, map, refl, ap}
use Rattle.std.proofs.lemmas.Simd.{map-map}
use Rattle.p3_task.proofs.Computes.{trees_compute}
use Rattle.p3_task.proofs.FoldLemmas.{fold_formula-And, fold_formula-Or}
use Rattle.p3_task.specs.declared.formula.Formula.{Formula}
use Rattle.p3_task.specs.declared.formula.Formula.TheVariants as formula
use Rattle.p3_task.specs.declared.term.Ref.{Ref}
use Rattle.p3_task.specs.declared.term.Term.{Term}
use Rattle.p3_task.specs.declared.term.Typed.{Typed}
use Rattle.p3_numbers.specs.Conditions.{condition_of, condition_layer}
use Rattle.p3_numbers.specs.Places.{Variables, number_in, numbered_term, numbered_terms, ranges_of, words_of}
use Rattle.p3_numbers.specs.declared.condition.NumberedCondition.TheVariants as condition
use Rattle.p3_numbers.specs.declared.numbers.Numbers.{Numbers}

module _ (N : Numbers) (scope : Variables) where
  pub condition_of-Atom : (pred : Ref) (args : List Term) → condition_of N (formula.Atom pred args) scope ≡ condition.Atom (number_in N.predicates pred.name) (numbered_terms N scope args)
  unfolding condition_of
  condition_of-Atom pred args = refl

  pub condition_of-Equal : (left right : Term) → condition_of N (formula.Equal left right) scope ≡ condition.Equal (numbered_term N scope left) (numbered_term N scope right)
  unfolding condition_of
  condition_of-Equal left right = refl

  pub condition_of-And : (parts : List Formula) → condition_of N (formula.And parts) scope ≡ condition.And (map (λ part. condition_of N part scope) parts)
  unfolding condition_of
  condition_of-And parts = ap (λ made. made scope) (fold_formula-And (condition_layer N) parts) ∙ ap condition.And (map-map _ _ parts)

  pub condition_of-Or : (parts : List Formula) → condition_of N (formula.Or parts) scope ≡ condition.Or (map (λ part. condition_of N part scope) parts)
  unfolding condition_of
  condition_of-Or parts = ap (λ made. made scope) (fold_formula-Or (condition_layer N) parts) ∙ ap condition.Or (map-map _ _ parts)

  pub condition_of-Not : (part : Formula) → condition_of N (formula.Not part) scope ≡ condition.Not (condition_of N part scope)
  unfolding condition_of trees_compute
  condition_of-Not part = refl

  pub condition_of-Imply : (first second : Formula) → condition_of N (formula.Imply first second) scope ≡ condition.Imply (condition_of N first scope) (condition_of N second scope)
  unfolding condition_of trees_compute
  condition_of-Imply first second = refl

  pub condition_of-Exists : (variables : List Typed) (body : Formula) → condition_of N (formula.Exists variables body) scope ≡ condition.Exists (ranges_of N variables) (condition_of N body (scope ++ words_of variables))
  unfolding condition_of trees_compute
  condition_of-Exists variables body = refl

  pub condition_of-Forall : (variables : List Typed) (body : Formula) → condition_of N (formula.Forall variables body) scope ≡ condition.Forall (ranges_of N variables) (condition_of N body (scope ++ words_of variables))
  unfolding condition_of trees_compute
  condition_of-Forall variables body = refl

pub ruleset condition_laws = (condition_of-Atom, condition_of-Equal, condition_of-And, condition_of-Or, condition_of-Not, condition_of-Imply, condition_of-Exists, condition_of-Forall)
