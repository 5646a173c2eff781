use Rattle.std.proofs.Common.{◌≡◌, ◌∙◌, None, ap, rules, sym}
use Rattle.std.proofs.lemmas.Int.{to_z-of_z}
use mir.Syntax.{w128}
use mir.Val.{SFits}
use Rattle.std.specs.Prelude.{option_map}
use Rattle.p3_task.specs.Validity.{first_fault}
use Rattle.p3_task.proofs.ValidityLemmas.{valid_where_no_fault}
use Rattle.p3_eval.specs.Judged.{fault_in}
use Rattle.p3_cli.proofs.EvaluationLemmas.{all_left, plan_judged, still_together}
use Rattle.p3_cli.proofs.sampling.value_of.Goals as goal

pub unreachable-requires : goal.unreachable-requires
unreachable-requires c =
    let whole = c.args.whole.now in
    let T = whole.checked.task in
    let G = whole.ground_task in
    let steps = c.args.steps.now in
    let run = c.in_ok-run in
    let some = c.requires.some in
    let judged = plan_judged T G whole.weights steps run.run' c.judge_steps.new.self c.judge_steps.result run.ensures.task (all_left T G run.ensures.left_out steps.numbers.items) run.ensures.begun c.judge_steps.ensures.judged some.plan some.are in
    let none : first_fault T some.plan ≡ None = (valid_where_no_fault T some.plan).0 (c.requires.valid some.plan some.are) in
    let other = sym none ∙ judged.fault ∙ ap (option_map fault_in) c.in-Some.is in
    cc

pub returns : goal.returns
returns c = λ plan are.
    let whole = c.args.whole.now in
    let T = whole.checked.task in
    let G = whole.ground_task in
    let steps = c.args.steps.now in
    let run = c.in_ok-run in
    let left = all_left T G run.ensures.left_out steps.numbers.items in
    let new = c.judge_steps.new.self in
    let judged = plan_judged T G whole.weights steps run.run' new c.judge_steps.result run.ensures.task left run.ensures.begun c.judge_steps.ensures.judged plan are in
    let fits : SFits w128 c.metric.result = search rules in
    to_z-of_z w128 c.metric.result fits
    ∙ c.metric.ensures T (still_together T G whole.weights steps run.run' new c.judge_steps.result run.ensures.task left run.ensures.begun c.judge_steps.ensures.judged plan are c.in-None.is) plan (judged.done c.in-None.is).numbers
