use Rattle.std.proofs.Common.{◌≡◌, ◌++◌, drop, map}
use Rattle.p3_formula.specs.declared.modal.GroundSoft.{GroundSoft}
use Rattle.p3_scenes.specs.Seen.{seen_soft}
use Rattle.p3_accounts.specs.Vocabularies.{vocabulary}
use Rattle.p3_unmet.specs.Sources.{texts}
use Rattle.p3_meanings.specs.Heard.{heard, soft_heard}
use Rattle.p3_meanings.proofs.monitors.push_soft.Given as goal

-- what is said so far, and what is left to be said, is all
abbrev pub invariant-loop-place : goal.invariant-loop-place
invariant-loop-place l =
    let V = vocabulary l.telling.terms.now in
    let S = texts l.telling.sources.now in
    map (heard V) l.found ++ soft_heard V S (map (λ (soft : GroundSoft). soft.name) (drop l.place l.softs)) (map seen_soft (drop l.place l.scenes))
    ≡ map (heard V) l.fn.found ++ soft_heard V S (map (λ (soft : GroundSoft). soft.name) l.softs) (map seen_soft l.scenes)
