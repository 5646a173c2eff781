use Rattle.std.proofs.Common.{◌∙◌, ap, take}
use Rattle.p3_numbers.specs.Tasks.{numbered_action}
use Rattle.p3_resolve.specs.NumbersOf.{numbers_of}
use Rattle.p3_resolve.specs.Walk.{Walked, uses_of_action, uses_of_each}
use Rattle.p3_resolve.proofs.FormLemmas.{tree-more, words-kept}
use Rattle.p3_resolve.proofs.WalkLemmas.{map-more}
use Rattle.p3_resolve.proofs.actions.numbered_actions.Goals as goal

pub numbered_action-requires : goal.numbered_action-requires
numbered_action-requires c =
    ap (λ (walk : Walked). walk.words) c.loop-action.invariant.walk
    ∙ words-kept c.args.tables.now.task.now (uses_of_each uses_of_action (take c.loop-action.action-index c.args.actions.now)) c.args.walk.now ∙ c.requires

pub loop-action-preserved : goal.loop-action-preserved
loop-action-preserved c = record {
  walk = tree-more uses_of_action c.args.tables.now.task.now c.args.walk.now c.loop-action.walk c.numbered_action.new.walk c.args.actions.now c.loop-action.action-index c.action-item.result
      c.loop-action-test.true c.action-item.is c.loop-action.invariant.walk c.in_ok-numbered_action.ensures.walk;
  made = map-more (numbered_action (numbers_of c.args.tables.now)) c.loop-action.made c.push.new.self c.args.actions.now c.loop-action.action-index c.action-item.result c.in_ok-numbered_action.field-0
      c.loop-action-test.true c.action-item.is c.loop-action.invariant.made c.in_ok-numbered_action.ensures.made c.in_ok-push.ensures.ok;
}
