use Rattle.std.proofs.Common.{◌∙◌, ap}
use Rattle.std.specs.Str.{str_to_ascii_lowercase}
use Rattle.std.proofs.lemmas.Result.{IfOk-weaker}
use Rattle.p3_endphase.proofs.ActionLemmas.{with_same}
use Rattle.p3_endphase.proofs.phase.collect_action.Goals as goal

pub returns : goal.returns
returns c = IfOk-weaker c.moving.result _ _
    (λ made. with_same _ _ _ _ _ _ made
    (c.in_ok-name.ensures ∙ ap str_to_ascii_lowercase (c.as_bytes.ensures.value ∙ c.in_ok-collect_name.ensures.name) ∙ c.in_ok-collect_name.ensures.lowered)
    c.in_ok-condition.ensures)
    c.moving.ensures
