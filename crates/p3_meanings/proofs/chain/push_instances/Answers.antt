use Rattle.std.proofs.Common.{◌≡◌, ◌∙◌, ◌<◌, ◌∷◌, [], ◌++◌, ◌+◌, drop, get_or, length, map, sym, ap, arith}
use Rattle.std.proofs.lemmas.List.{drop_more}
use Rattle.p3_formula.specs.declared.modal.GroundSoft.{GroundSoft}
use Rattle.p3_scenes.specs.Seen.{seen_soft}
use Rattle.p3_accounts.specs.Vocabularies.{vocabulary}
use Rattle.p3_unmet.specs.Sources.{texts}
use Rattle.p3_meanings.specs.Heard.{chain_heard, heard, next_heard}
use Rattle.p3_meanings.proofs.SaidLemmas.{left_more}
use Rattle.p3_meanings.proofs.chain.push_instances.Goals as goal

pub loop-place-preserved : goal.loop-place-preserved
loop-place-preserved c =
    let V = vocabulary c.args.telling.now.terms.now in
    let S = texts c.args.telling.now.sources.now in
    let softs = c.args.softs.now in
    let scenes = c.args.scenes.now in
    let k = c.loop-place.place in
    let soft : GroundSoft = get_or softs k c.index-softs-place.result in
    let scene = c.index-scenes-place.result in
    let within : k < length softs = omega (arith, c.requires, c.loop-place-test.true) in
    let next_soft : drop k softs ≡ soft ∷ drop (k + 1) softs = drop_more softs k c.index-softs-place.result within in
    let next_scene : drop k scenes ≡ scene ∷ drop (k + 1) scenes = drop_more scenes k scene c.loop-place-test.true ∙ ap (λ one. one ∷ drop (k + 1) scenes) (sym c.index-scenes-place.is) in
    left_more (map (heard V) c.loop-place.found) (map (heard V) c.push_next.new.found) (next_heard V S soft.name (seen_soft scene) ∷ []) (chain_heard V S (map (λ (one : GroundSoft). one.name) (drop (k + 1) softs)) (map seen_soft (drop (k + 1) scenes))) _
    c.in_ok-push_next.ensures
    ((λ i. map (heard V) c.loop-place.found ++ chain_heard V S (map (λ (one : GroundSoft). one.name) (sym next_soft i)) (map seen_soft (sym next_scene i))) ∙ c.loop-place.invariant)
