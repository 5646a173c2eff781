use Rattle.std.proofs.Common.{◌+◌, ◌||◌, not, take, sym, subst}
use Rattle.std.specs.List.{list_all}
use Rattle.std.proofs.lemmas.List.{take_all}
use Rattle.p3_formula.specs.Forms.{is_set}
use Rattle.p3_reach.specs.Closed.{change_keeps}
use Rattle.p3_reach.specs.Models.{Says}
use Rattle.p3_reach.proofs.LeadLaws.{changes_same, changes_next}
use Rattle.p3_reach.proofs.leading.lead_changes.Goals as goal
use Rattle.p3_reach.proofs.leading.lead_changes.Goals.{then-change+in_ok-lead, else-change}

pub loop-change-preserved : goal.loop-change-preserved
loop-change-preserved c =
    let changes = c.args.changes.now in
    let at = c.loop-change.change-index in
    let change = c.change-item.result in
    let old = c.args.theory.now in
    let mid = c.loop-change.theory in
    let goes = Says (λ set. not (is_set set c.args.fits) || list_all (change_keeps set) (take (at + 1) changes)) old in
    elim c.if-change.branch [
      | then-change+in_ok-lead w ↦ subst goes (sym w.theory-is)
          (changes_next c.args.fits changes at change c.loop-change-test.true c.change-item.is old mid c.requires.below c.loop-change.invariant w.lead.new.theory c.requires.fits w.if-change.true w.in_ok-lead.ensures)
      | else-change w ↦ subst goes (sym w.theory-is)
          (changes_same c.args.fits changes at change c.loop-change-test.true c.change-item.is old mid c.requires.below c.loop-change.invariant w.if-change.false)
    ]

pub returns : goal.returns
returns c = subst (λ changes. Says (λ set. not (is_set set c.args.fits) || list_all (change_keeps set) changes) c.args.theory.now c.loop-change.theory)
    (take_all c.loop-change.change-index c.args.changes.now c.loop-change-test.false) c.loop-change.invariant
