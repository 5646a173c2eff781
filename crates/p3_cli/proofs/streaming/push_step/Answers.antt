use Rattle.std.proofs.Common.{◌∙◌, length}
use Rattle.std.specs.List.{list_all}
use Rattle.std.proofs.lemmas.Result.{on_ok_weaker}
use Rattle.p3_compile.specs.Parts.{actions_of}
use Rattle.p3_formula.specs.Targets.{is_sized_action}
use Rattle.p3_cli.proofs.streaming.push_step.Goals as goal

pub push_parts-pushed-requires : goal.push_parts-pushed-requires
push_parts-pushed-requires c = (λ i. list_all (is_sized_action (length (c.requires.names i))) (actions_of c.in_ok-parts.parts)) ∙ c.in_ok-parts.ensures.sized

pub returns : goal.returns
returns c = on_ok_weaker c.push_parts-pushed.result
    (λ are. record { actions = actions_of c.in_ok-parts.parts; made = c.in_ok-parts.ensures; are = are })
    c.push_parts-pushed.ensures
