use Rattle.std.proofs.Common.{◌≤◌, ◌<◌, List, ℕ, length, get_or, sym, subst, arith}
use Rattle.std.specs.Prelude.{filter_map}
use Rattle.p3_task.specs.Types.{pair_of}
use Rattle.p3_hierarchy.specs.Walks.{IsReached}
use Rattle.p3_hierarchy.specs.declared.reaches.Reach.{Reach}
use Rattle.p3_hierarchy.proofs.ReachLemmas.{own-all, reach-joined}
use Rattle.p3_hierarchy.proofs.reaches.reach_of.Goals as goal

pub loop-reach-init : goal.loop-reach-init
loop-reach-init c =
    let pairs = filter_map pair_of c.args.filed.now.kinds.now in
    let own = c.own_reach-reach.result in
    subst (λ end. IsReached pairs c.args.walk.now.names c.args.place end own.least own.most) (sym c.own_reach-reach.ensures.end)
    (own-all pairs c.args.walk.now.names c.args.place own.least own.most c.requires.within c.own_reach-reach.ensures.own)

pub loop-reach-preserved : goal.loop-reach-preserved
loop-reach-preserved c =
    let pairs = filter_map pair_of c.args.filed.now.kinds.now in
    let names = c.args.walk.now.names in
    let from = c.args.walk.now.from.items in
    let reach = c.loop-reach.reach in
    let nothing : Reach = record { end = 0; least = 0; most = 0 } in
    let next = get_or c.args.reaches.now reach.end nothing in
    let goes : (reach.end < length from) × (c.args.place ≤ get_or from reach.end 0) × (get_or from reach.end 0 < reach.end) =
    subst (λ (from : List ℕ). (reach.end < length from) × (c.args.place ≤ get_or from reach.end 0) × (get_or from reach.end 0 < reach.end)) c.deref.ensures.value (c.goes_on.ensures c.loop-reach-test.true) in
    let known = c.requires.known.reached reach.end nothing (omega (arith, c.loop-reach.invariant.after)) (omega (arith, goes.0, c.requires.walked.long)) in
    subst (λ end. IsReached pairs names c.args.place end c.joined-reach.result.least c.joined-reach.result.most) (sym c.joined-reach.ensures.end)
    (reach-joined pairs names c.args.place from reach.end reach.least reach.most next.end next.least next.most c.joined-reach.result.least c.joined-reach.result.most
    c.requires.walked goes.0 goes.1 goes.2 c.loop-reach.invariant known c.joined-reach.ensures.least c.joined-reach.ensures.most)
