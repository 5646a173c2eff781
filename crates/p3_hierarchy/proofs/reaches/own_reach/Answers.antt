use Rattle.std.proofs.Common.{◌≡◌, ◌∙◌, [], ap, map, sym, subst}
use Rattle.std.specs.Prelude.{filter_map}
use Rattle.p3_task.specs.Types.{pair_of}
use Rattle.p3_hierarchy.specs.Kinds.{lows_under, words_in}
use Rattle.p3_hierarchy.specs.Walks.{IsOwn, kind_at}
use Rattle.p3_hierarchy.proofs.ReachLemmas.{got-at, lows-listed, own-none}
use Rattle.p3_hierarchy.proofs.reaches.own_reach.Goals as goal

pub returns-in-None-clause-own : goal.returns-in-None-clause-own
returns-in-None-clause-own c =
    let pairs = filter_map pair_of c.args.filed.now.kinds.now in
    let here : kind_at c.args.names.now c.args.place ≡ c.at.result.now = got-at c.args.names.now c.args.place c.at.result.now [] c.at.ensures in
    subst (λ lows. IsOwn pairs c.args.names.now c.args.place lows c.args.place c.args.place)
    (ap words_in c.in-None.ensures.value ∙ c.args.filed.now.filed c.at.result ∙ ap (lows_under pairs) (sym here))
    (own-none pairs c.args.names.now c.args.place)

pub returns-in-Some-clause-own : goal.returns-in-Some-clause-own
returns-in-Some-clause-own c =
    let pairs = filter_map pair_of c.args.filed.now.kinds.now in
    let here : kind_at c.args.names.now c.args.place ≡ c.at.result.now = got-at c.args.names.now c.args.place c.at.result.now [] c.at.ensures in
    let listed : map (λ low. low.now) c.items.result.now ≡ lows_under pairs (kind_at c.args.names.now c.args.place) =
    ap (map (λ low. low.now)) c.items.ensures ∙ ap words_in c.in-Some.ensures.value ∙ c.args.filed.now.filed c.at.result ∙ ap (lows_under pairs) (sym here) in
    subst (λ lows. IsOwn pairs c.args.names.now c.args.place lows c.with_lows.result.least c.with_lows.result.most) listed
    (c.with_lows.ensures.own pairs c.requires.within (lows-listed pairs (kind_at c.args.names.now c.args.place) c.items.result.now listed) (own-none pairs c.args.names.now c.args.place))
