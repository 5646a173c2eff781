use Rattle.std.proofs.Common.{map, sym, subst}
use Rattle.std.specs.Prelude.{OnOk}
use Rattle.std.specs.declared.result.Result.{Result}
use Rattle.std.specs.declared.result.Result.TheVariants.{Ok, Err}
use Rattle.p3_scenes.specs.Seen.{seen_pref}
use Rattle.p3_unmet.specs.Stages.{AreStepScenes, seen_stage}
use Rattle.p3_unmet.proofs.stage.Stage.subject.Goals as goal

both-ok : {T E P Q R : Type 0} (r : Result T E) → (P → Q → R) → OnOk r P → OnOk r Q → OnOk r R
both-ok (Ok x) then first second = then first second
both-ok (Err e) then first second = tt

pub returns-in-Pre-clause-own : goal.returns-in-Pre-clause-own
returns-in-Pre-clause-own c =
    both-ok c.step_preference.result (λ step own. subst (λ n. AreStepScenes (seen_stage c.args.self.now) n (map seen_pref c.step_preference.new.own.scenes)) (sym step) own) c.step_preference.ensures.step c.step_preference.ensures.own
