use Rattle.p3_eval.proofs.RefusalLaws.{accepted_from, well_formed_from}
use Rattle.p3_eval.proofs.StepCounts.{few_steps}
use Rattle.p3_watch.proofs.watch.Watch.checked.Goals as goal

pub returns-clause-accepted : goal.returns-clause-accepted
returns-clause-accepted c = accepted_from _ _ c.args.self.now.accepted

pub returns-clause-few : goal.returns-clause-few
returns-clause-few c =
    let checked = c.args.self.now.checked.now in
    few_steps checked.side checked.task (well_formed_from checked.task checked.well_formed) (accepted_from checked.side checked.task c.args.self.now.accepted)

pub returns-clause-together : goal.returns-clause-together
returns-clause-together c =
    let watch = c.args.self.now in
    let checked = watch.checked.now in
    record {
      side = checked.side;
      well = well_formed_from checked.task checked.well_formed;
      short = checked.short;
      accepted = accepted_from checked.side checked.task watch.accepted;
      stands = watch.standing;
      weights = watch.weighing;
    }
