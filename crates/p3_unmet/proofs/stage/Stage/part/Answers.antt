use Rattle.std.proofs.Common.{◌∙◌, sym, ap, Some}
use Rattle.std.specs.Prelude.{option_map}
use Rattle.std.proofs.lemmas.Option.{slice_get-map}
use Rattle.p3_scenes.specs.Seen.{seen, seen_soft}
use Rattle.p3_unmet.specs.Stages.{preference_sketch, seen_stage}
use Rattle.p3_unmet.proofs.stage.Stage.part.Goals as goal

pub returns-in_ok-preference_of-in-Some : goal.returns-in_ok-preference_of-in-Some
returns-in_ok-preference_of-in-Some c =
    let sketch = preference_sketch (seen_stage c.args.self.now) (seen_soft c.args.soft.now) c.args.showing in
    ap Some c.in_ok-preference_of-in-Some.ensures ∙ sym (ap (option_map sketch) (slice_get-map seen c.args.soft.now.operators c.args.part ∙ ap (option_map seen) (sym c.in-Some.ensures.value)))

pub returns-in-None : goal.returns-in-None
returns-in-None c =
    let sketch = preference_sketch (seen_stage c.args.self.now) (seen_soft c.args.soft.now) c.args.showing in
    sym (ap (option_map sketch) (slice_get-map seen c.args.soft.now.operators c.args.part ∙ ap (option_map seen) (sym c.in-None.ensures.value)))
