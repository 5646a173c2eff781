-- The numbered effect that an effect becomes, form by form.
use Rattle.std.proofs.Common.{◌≡◌, ◌∙◌, ℕ, List, ◌++◌, map, refl, ap}
use Rattle.std.proofs.lemmas.Simd.{map-map}
use Rattle.p3_task.proofs.Computes.{trees_compute}
use Rattle.p3_task.proofs.FoldLemmas.{fold_effect-All}
use Rattle.p3_task.specs.declared.effect.Amount.{Amount}
use Rattle.p3_task.specs.declared.effect.Effect.{Effect}
use Rattle.p3_task.specs.declared.effect.Effect.TheVariants as effect
use Rattle.p3_task.specs.declared.formula.Formula.{Formula}
use Rattle.p3_task.specs.declared.term.Ref.{Ref}
use Rattle.p3_task.specs.declared.term.Term.{Term}
use Rattle.p3_task.specs.declared.term.Typed.{Typed}
use Rattle.p3_numbers.specs.Conditions.{condition_of}
use Rattle.p3_numbers.specs.Effects.{amount_of, effect_of, effect_layer}
use Rattle.p3_numbers.specs.Places.{Variables, number_in, numbered_terms, ranges_of, words_of}
use Rattle.p3_numbers.specs.declared.effect.NumberedEffect.TheVariants as numbered_effect
use Rattle.p3_numbers.specs.declared.numbers.Numbers.{Numbers}

module _ (N : Numbers) (scope : Variables) where
  pub effect_of-Add : (pred : Ref) (args : List Term) → effect_of N (effect.Add pred args) scope ≡ numbered_effect.Add (number_in N.predicates pred.name) (numbered_terms N scope args)
  unfolding effect_of
  effect_of-Add pred args = refl

  pub effect_of-Del : (pred : Ref) (args : List Term) → effect_of N (effect.Del pred args) scope ≡ numbered_effect.Del (number_in N.predicates pred.name) (numbered_terms N scope args)
  unfolding effect_of
  effect_of-Del pred args = refl

  pub effect_of-All : (parts : List Effect) → effect_of N (effect.All parts) scope ≡ numbered_effect.All (map (λ part. effect_of N part scope) parts)
  unfolding effect_of
  effect_of-All parts = ap (λ made. made scope) (fold_effect-All (effect_layer N) parts) ∙ ap numbered_effect.All (map-map _ _ parts)

  pub effect_of-Each : (variables : List Typed) (body : Effect) → effect_of N (effect.Each variables body) scope ≡ numbered_effect.Each (ranges_of N variables) (effect_of N body (scope ++ words_of variables))
  unfolding effect_of trees_compute
  effect_of-Each variables body = refl

  pub effect_of-If : (formula : Formula) (body : Effect) → effect_of N (effect.If formula body) scope ≡ numbered_effect.If (condition_of N formula scope) (effect_of N body scope)
  unfolding effect_of trees_compute
  effect_of-If formula body = refl

  pub effect_of-Cost : (at : ℕ) (increase : Amount) → effect_of N (effect.Cost at increase) scope ≡ numbered_effect.Cost (amount_of N increase scope)
  unfolding effect_of
  effect_of-Cost at increase = refl

pub ruleset effect_laws = (effect_of-Add, effect_of-Del, effect_of-All, effect_of-Each, effect_of-If, effect_of-Cost)
