use Rattle.std.proofs.Common.{◌∙◌, sym, ap, subst}
use Rattle.std.proofs.Math.Bool.{Bool-set}
use Rattle.std.proofs.Math.Logic.{∥∥₁_elim}
use Rattle.std.proofs.lemmas.List.Elements.{All-push}
use Rattle.std.specs.List.{All}
use Rattle.std.specs.Prelude.{IfSome}
use Rattle.p3_steps.specs.Conjuncts.{AreConjuncts}
use Rattle.p3_steps.specs.Links.{Tells, TellsOf}
use Rattle.p3_steps.proofs.LinkLemmas.{tells-goal}
use Rattle.p3_steps.proofs.links.all_links.Goals as goal
use Rattle.p3_steps.proofs.links.all_links.Goals.{in-Some+in_ok-push, in_default}

pub loop-condition-preserved : goal.loop-condition-preserved
loop-condition-preserved c =
    let test = c.args.test.now in
    let N = test.numbers.now in
    let S = test.statics.now in
    let count = c.args.count in
    let conjuncts = c.as_slice-condition-items.result.now in
    elim c.match-branch-2.branch [
      | in-Some+in_ok-push w ↦ subst (All (Tells N S test.goal.now count)) (sym (ap (λ all. all.items) w.all-is ∙ w.in_ok-push.ensures.items))
          (All-push (Tells N S test.goal.now count) c.loop-condition.all.items w.in-Some.links c.loop-condition.invariant
          (λ slots object size missing. ∥∥₁_elim test.are (Bool-set _ _)
          (λ are. tells-goal N S test.goal.now count conjuncts (subst (AreConjuncts test.goal.now) (sym c.as_slice-condition-items.ensures.value) are) c.loop-condition.condition-index
          c.condition-item.result c.loop-condition-test.true c.condition-item.is w.in-Some.links
          (subst (λ found. IfSome found (TellsOf N S count c.condition-item.result.now)) w.in-Some.is c.in_ok-links.ensures) slots object size missing)))
      | in_default w ↦ subst (All (Tells N S test.goal.now count)) (sym (ap (λ all. all.items) w.all-is)) c.loop-condition.invariant
    ]
