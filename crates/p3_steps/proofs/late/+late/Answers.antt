use Rattle.std.proofs.Common.{sym, subst}
use Rattle.p3_steps.specs.Late.{JoinsAllLate, JoinsLate}
use Rattle.p3_steps.proofs.LateLemmas.{joins-Both}
use Rattle.p3_steps.proofs.late.+late.Goals as goal

pub push_late-returns-in_ok-push_all_late-in-Both : goal.push_late-returns-in_ok-push_all_late-in-Both
push_late-returns-in_ok-push_all_late-in-Both t c =
    let N = c.args.numbers.now in
    let S = c.args.statics.now in
    let old = c.args.found.now.items in
    let new = c.push_all_late.new.found.items in
    subst (λ one. JoinsLate N S one old new) (sym c.in-Both.is) (joins-Both N S c.in-Both.parts old new (subst (λ parts. JoinsAllLate N S parts old new) c.items.ensures c.in_ok-push_all_late-in-Both.ensures))
