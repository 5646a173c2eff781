-- The names of a target with one action.
use Rattle.std.proofs.Common.{◌≡◌, ◌∙◌, not, [], ◌∷◌, ap}
use Rattle.std.specs.Prelude.{codes}
use Rattle.std.specs.List.{list_all}
use Rattle.p3_base.specs.Words.{are_different, is_name}
use Rattle.p3_formula.specs.Targets.{action_names, ends_with_c_number}
use Rattle.p3_formula.specs.declared.target.Target.{Target}
use Rattle.p3_formula.specs.declared.target.TargetAction.{TargetAction}
use Rattle.p3_flat.specs.Copies.{names_of}
use Rattle.p3_flat.specs.Flattened.{CanBeFlattened}

pub one_action : (X : Target) (action : TargetAction) → X.actions ≡ action ∷ [] → action.name ≡ codes "s0v" → CanBeFlattened X
one_action X action are is = record {
  names = ap (list_all is_name) own;
  different = ap are_different own;
  endings = ap (list_all (λ name. not (ends_with_c_number name))) own;
}
  where
    own : action_names X ≡ codes "s0v" ∷ []
    own = ap names_of are ∙ ap (λ name. name ∷ []) is
