use Rattle.std.proofs.Common.{List, map, sym, subst, take}
use Rattle.std.proofs.lemmas.List.{take_more}
use Rattle.p3_base.specs.declared.showing.Reason.{Reason}
use Rattle.p3_scenes.specs.Seen.{seen_pref}
use Rattle.p3_unmet.specs.Sketches.{seen_draft}
use Rattle.p3_unmet.specs.Stages.{AreSketched, AreStepScenes, goal_sketches, seen_stage}
use Rattle.p3_unmet.proofs.StageLaws.{more-sketched, none-sketched}
use Rattle.p3_unmet.proofs.drafting.drafts.Goals as goal

pub loop-reason-init : goal.loop-reason-init
loop-reason-init c =
    let stage = seen_stage c.args.stage.now in
    record {
      own = subst (λ n. AreStepScenes stage n (map seen_pref c.in_ok-own.own.scenes)) (sym c.in_ok-own.ensures.step) c.in_ok-own.ensures.are;
      drafted = none-sketched stage (goal_sketches stage c.args.holds) (map seen_draft c.in_ok-drafts.drafts) c.in_ok-drafts.ensures;
    }

pub loop-reason-preserved : goal.loop-reason-preserved
loop-reason-preserved c =
    let stage = seen_stage c.args.stage.now in
    let first = goal_sketches stage c.args.holds in
    let list = c.args.reasons.now in
    let k = c.loop-reason.reason-index in
    record {
      own = c.in_ok-found.ensures.own;
      drafted = subst (λ (told : List Reason). AreSketched stage first told (map seen_draft c.keep.new.drafts)) (sym (take_more list k _ c.loop-reason-test.true))
          (more-sketched stage first (take k list) (map seen_draft c.loop-reason.drafts) (map seen_draft c.keep.new.drafts) _ _ c.loop-reason.invariant.drafted c.in_ok-found.ensures.found c.in_ok-keep.ensures);
    }
