use Rattle.std.proofs.Common.{◌≡◌, ◌∙◌, ◌∷◌, ◌++◌, ◌+◌, drop, map, sym, ap}
use Rattle.std.proofs.lemmas.List.{drop_more}
use Rattle.p3_scenes.specs.Seen.{seen}
use Rattle.p3_accounts.specs.Vocabularies.{vocabulary}
use Rattle.p3_unmet.specs.Sources.{texts}
use Rattle.p3_meanings.specs.Heard.{constraint_heard, hard_heard, heard}
use Rattle.p3_meanings.proofs.SaidLemmas.{left_more}
use Rattle.p3_meanings.proofs.monitors.push_hard.Goals as goal

pub loop-place-preserved : goal.loop-place-preserved
loop-place-preserved c =
    let V = vocabulary c.args.telling.now.terms.now in
    let S = texts c.args.telling.now.sources.now in
    let scenes = c.args.scenes.now in
    let k = c.loop-place.place in
    let scene = c.index-scenes-place.result in
    let next : drop k scenes ≡ scene ∷ drop (k + 1) scenes = drop_more scenes k scene c.loop-place-test.true ∙ ap (λ one. one ∷ drop (k + 1) scenes) (sym c.index-scenes-place.is) in
    left_more (map (heard V) c.loop-place.found) (map (heard V) c.push_constraint.new.found) (constraint_heard V S k (seen scene)) (hard_heard V S (k + 1) (map seen (drop (k + 1) scenes))) _ c.in_ok-push_constraint.ensures
    (ap (λ left. map (heard V) c.loop-place.found ++ hard_heard V S k (map seen left)) (sym next) ∙ c.loop-place.invariant)
