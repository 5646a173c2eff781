use Rattle.std.proofs.Common.{◌≡◌, ◌++◌, drop, map}
use Rattle.std.specs.Prelude.{flat_map}
use Rattle.p3_scenes.specs.Seen.{seen, seen_soft}
use Rattle.p3_accounts.specs.Vocabularies.{vocabulary}
use Rattle.p3_unmet.specs.Sources.{texts}
use Rattle.p3_meanings.specs.Heard.{heard, part_heard}
use Rattle.p3_meanings.proofs.monitors.push_instance.Given as goal

-- what is said so far, and what is left to be said, is all
abbrev pub invariant-loop-place : goal.invariant-loop-place
invariant-loop-place l =
    let V = vocabulary l.telling.terms.now in
    let S = texts l.telling.sources.now in
    map (heard V) l.found ++ flat_map (part_heard V S l.name (seen_soft l.instance)) (map seen (drop l.place l.scenes))
    ≡ map (heard V) l.fn.found ++ flat_map (part_heard V S l.name (seen_soft l.instance)) (map seen l.scenes)
