use Rattle.std.proofs.Common.{◌≡◌, ◌∙◌, ℕ, List, Option, ap, map, length, subst}
use Rattle.std.proofs.lemmas.List.{length-map}
use Rattle.p3_formula.specs.Targets.{lifted_number}
use Rattle.p3_formula.specs.declared.target.TargetAction.{TargetAction}
use Rattle.p3_embed.specs.Actions.{AreCopies}
use Rattle.p3_embed.proofs.actions.actions_of.Goals as goal

pub returns : goal.returns
returns c =
    let each = λ (action : TargetAction). lifted_number c.args.task.now action.name in
    let counts : c.in_ok-counts.counts.items ≡ map each c.args.target.now.actions = c.in_ok-counts.ensures ∙ ap (map each) c.items.ensures in
    record {
      counts = counts;
      indexed = record {
        all = ap (λ (list : List (Option ℕ)). length list) counts ∙ length-map c.args.target.now.actions each;
        copies = subst (λ (list : List (Option ℕ)). AreCopies list c.in_ok-copies.copies.items) c.as_slice.ensures.value c.in_ok-copies.ensures;
      };
    }
