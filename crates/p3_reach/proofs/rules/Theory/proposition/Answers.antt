use Rattle.std.proofs.Common.{false, ◌≤◌, ⊎_elim, length, ap, arith}
use Rattle.std.proofs.lemmas.List.{length_push}
use Rattle.p3_reach.proofs.RuleLaws.{either, rules_below_more}
use Rattle.p3_reach.proofs.rules.Theory.proposition.Goals as goal

pub invariant_of-self : goal.invariant_of-self
invariant_of-self c =
    let old = c.args.self.now in
    let longer : length old.facts ≤ length c.push.new.self = ⊎_elim
    (λ more. omega (arith, ap length more, length_push old.facts false))
    (λ same. omega (arith, ap length same))
    (either c.push.result c.push.ensures.ok c.push.ensures.err) in
    record { room = let room = old.room in omega (arith, room, longer); within = rules_below_more (length old.facts) (length c.push.new.self) old.rules longer old.within }
