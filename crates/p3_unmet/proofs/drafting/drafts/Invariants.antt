use Rattle.std.proofs.Common.{map, take}
use Rattle.p3_scenes.specs.Seen.{seen_pref}
use Rattle.p3_unmet.specs.Sketches.{seen_draft}
use Rattle.p3_unmet.specs.Stages.{AreSketched, AreStepScenes, goal_sketches, seen_stage}
use Rattle.p3_unmet.proofs.drafting.drafts.Given as goal

-- the reasons passed are drafted
abbrev pub invariant-loop-reason : goal.invariant-loop-reason
invariant-loop-reason l = record {
  own : AreStepScenes (seen_stage l.stage) l.own.step (map seen_pref l.own.scenes);
  drafted : AreSketched (seen_stage l.stage) (goal_sketches (seen_stage l.stage) l.holds) (take l.reason-index l.reasons) (map seen_draft l.drafts);
}
