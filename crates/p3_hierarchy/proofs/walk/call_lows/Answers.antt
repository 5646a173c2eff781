use Rattle.std.proofs.Common.{◌∙◌, ap, map}
use Rattle.std.specs.Prelude.{filter_map}
use Rattle.p3_task.specs.Types.{pair_of}
use Rattle.p3_hierarchy.specs.Kinds.{words_in}
use Rattle.p3_hierarchy.proofs.ReachLemmas.{lows-next}
use Rattle.p3_hierarchy.proofs.walk.call_lows.Goals as goal

pub returns-in_ok-call-in-Some : goal.returns-in_ok-call-in-Some
returns-in_ok-call-in-Some c names at before =
    let pairs = filter_map pair_of c.args.filed.now.kinds.now in
    c.in_ok-call-in-Some.ensures pairs names
    (lows-next pairs names c.args.high.now c.args.from c.items.result.now
    (ap (map (λ low. low.now)) c.items.ensures ∙ ap words_in c.in-Some.ensures.value ∙ c.args.filed.now.filed c.args.high) at)
    before
