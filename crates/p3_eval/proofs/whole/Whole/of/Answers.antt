use Prim.{∣◌∣₁}
use Rattle.p3_metric.proofs.AcceptedLaws.{linear_where_accepted}
use Rattle.p3_eval.proofs.ReadyLaws.{grounding_is_ready}
use Rattle.p3_eval.proofs.RefusalLaws.{accepted_from, no_metric, well_formed_from}
use Rattle.p3_eval.proofs.whole.Whole.of.Goals as goal

pub invariant_of-result : goal.invariant_of-result
invariant_of-result c =
    let checked = c.args.accepted.checked in
    let T = checked.task in
    record {
      grounding = ∣ c.requires.grounding ∣₁;
      weighing = ∣ c.requires.weights ∣₁;
      linear = ∣ linear_where_accepted checked.side T (no_metric checked.side T (well_formed_from T checked.well_formed) (accepted_from checked.side T c.args.accepted.accepted)) ∣₁;
      accepted = c.args.accepted.accepted;
    }

pub returns-clause-ready : goal.returns-clause-ready
returns-clause-ready c =
    let checked = c.args.accepted.checked in
    let T = checked.task in
    grounding_is_ready checked.side T c.args.ground_task c.args.accepted.weights (well_formed_from T checked.well_formed) c.requires.grounding c.requires.weights (accepted_from checked.side T c.args.accepted.accepted)
