use Rattle.std.proofs.Common.{map, subst}
use Rattle.p3_scenes.specs.Seen.{seen_pref}
use Rattle.p3_unmet.specs.Stages.{AreStepScenes, seen_stage}
use Rattle.p3_unmet.proofs.step_scenes.StepScenes.turn_to.Goals as goal

pub returns-else-self-step-clause-are : goal.returns-else-self-step-clause-are
returns-else-self-step-clause-are c = subst (λ n. AreStepScenes (seen_stage c.args.stage.now) n (map seen_pref c.args.self.now.scenes)) c.if-self-step.false c.requires
