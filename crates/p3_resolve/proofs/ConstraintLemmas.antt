-- The numbered constraint that a constraint becomes, form by form.
use Rattle.std.proofs.Common.{◌≡◌, ◌∙◌, ℕ, Option, List, ◌++◌, map, refl, ap}
use Rattle.std.proofs.lemmas.Simd.{map-map}
use Rattle.p3_task.proofs.Computes.{trees_compute}
use Rattle.p3_task.proofs.FoldLemmas.{fold_constraint-Both}
use Rattle.p3_task.specs.Modal.{Modal}
use Rattle.p3_task.specs.declared.constraint.Constraint.{Constraint}
use Rattle.p3_task.specs.declared.constraint.Constraint.TheVariants as constraint
use Rattle.p3_task.specs.declared.term.Ref.{Ref}
use Rattle.p3_task.specs.declared.term.Typed.{Typed}
use Rattle.p3_numbers.specs.Constraints.{modal_of, constraint_of, constraint_layer}
use Rattle.p3_numbers.specs.Goals.{numbered_name}
use Rattle.p3_numbers.specs.Places.{Variables, ranges_of, words_of}
use Rattle.p3_numbers.specs.declared.constraint.NumberedConstraint.TheVariants as numbered_constraint
use Rattle.p3_numbers.specs.declared.numbers.Numbers.{Numbers}

module _ (N : Numbers) (scope : Variables) where
  pub constraint_of-Both : (parts : List Constraint) → constraint_of N (constraint.Both parts) scope ≡ numbered_constraint.Both (map (λ part. constraint_of N part scope) parts)
  unfolding constraint_of
  constraint_of-Both parts = ap (λ made. made scope) (fold_constraint-Both (constraint_layer N) parts) ∙ ap numbered_constraint.Both (map-map _ _ parts)

  pub constraint_of-Each : (variables : List Typed) (body : Constraint) → constraint_of N (constraint.Each variables body) scope ≡ numbered_constraint.Each (ranges_of N variables) (constraint_of N body (scope ++ words_of variables))
  unfolding constraint_of trees_compute
  constraint_of-Each variables body = refl

  pub constraint_of-Single : (operator : Modal) → constraint_of N (constraint.Single operator) scope ≡ numbered_constraint.Single (modal_of N operator scope)
  unfolding constraint_of
  constraint_of-Single operator = refl

  pub constraint_of-Soft : (at : ℕ) (name : Option Ref) (body : Constraint) → constraint_of N (constraint.Soft at name body) scope ≡ numbered_constraint.Soft at (numbered_name N name) (constraint_of N body scope)
  unfolding constraint_of trees_compute
  constraint_of-Soft at name body = refl

pub ruleset constraint_laws = (constraint_of-Both, constraint_of-Each, constraint_of-Single, constraint_of-Soft)
