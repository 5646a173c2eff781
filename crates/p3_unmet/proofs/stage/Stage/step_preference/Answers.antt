use Rattle.std.proofs.Common.{◌∙◌, sym, ap, Some}
use Rattle.std.specs.Prelude.{option_map}
use Rattle.std.proofs.lemmas.Option.{slice_get-map}
use Rattle.p3_scenes.specs.Seen.{seen_pref}
use Rattle.p3_unmet.specs.Stages.{seen_stage, step_sketch}
use Rattle.p3_unmet.proofs.stage.Stage.step_preference.Goals as goal

pub returns-in_ok-step_preference_of-in-Some-clause-found : goal.returns-in_ok-step_preference_of-in-Some-clause-found
returns-in_ok-step_preference_of-in-Some-clause-found c =
    let sketch = step_sketch (seen_stage c.args.self.now) c.args.step in
    ap Some c.in_ok-step_preference_of-in-Some.ensures ∙ sym (ap (option_map sketch) (slice_get-map seen_pref c.turn_to.new.self.scenes c.args.pref ∙ ap (option_map seen_pref) (sym c.in-Some.ensures.value)))

pub returns-in-None-clause-found : goal.returns-in-None-clause-found
returns-in-None-clause-found c =
    let sketch = step_sketch (seen_stage c.args.self.now) c.args.step in
    sym (ap (option_map sketch) (slice_get-map seen_pref c.turn_to.new.self.scenes c.args.pref ∙ ap (option_map seen_pref) (sym c.in-None.ensures.value)))
