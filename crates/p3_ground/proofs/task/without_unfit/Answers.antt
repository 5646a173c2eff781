use Rattle.std.proofs.Common.{◌∙◌, sym, subst}
use Rattle.p3_ground.specs.Sparse.{IsGroundingOf}
use Rattle.p3_ground.proofs.WholeLaws.{whole-below, whole-grounds}
use Rattle.p3_ground.proofs.task.without_unfit.Goals as goal

pub reachable-requires-clause-atoms : goal.reachable-requires-clause-atoms
reachable-requires-clause-atoms c = (whole-below c.args.checked.now.task c.args.checked.now.numbered c.args.task c.requires).0

pub reachable-requires-clause-bits : goal.reachable-requires-clause-bits
reachable-requires-clause-bits c = (whole-below c.args.checked.now.task c.args.checked.now.numbered c.args.task c.requires).1

pub returns : goal.returns
returns c =
    let marks = c.in_ok-marks.marks in
    subst (IsGroundingOf c.args.checked.now.task) (sym (c.in_ok-kept.ensures marks.atoms (c.items.ensures ∙ c.in_ok-marks.ensures.steps)))
    (whole-grounds c.args.checked.now.task c.args.checked.now.numbered c.args.task marks.atoms c.requires c.in_ok-marks.ensures.closed c.in_ok-marks.ensures.least)
