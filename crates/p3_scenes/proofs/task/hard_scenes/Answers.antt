use Rattle.std.proofs.Common.{◌≡◌, ◌∙◌, false, [], ◌++◌, map, sym, ap, subst}
use Rattle.std.specs.List.{AllZip}
use Rattle.p3_base.specs.declared.refusal.Role.TheVariants.{Domain, Problem}
use Rattle.p3_task.specs.Constraints.{hard_list}
use Rattle.p3_numbers.proofs.KnownLaws.{task-known}
use Rattle.p3_scenes.specs.Bound.{IsBound}
use Rattle.p3_scenes.specs.Scenes.{Scene, hard_scenes, scenes}
use Rattle.p3_scenes.specs.Seen.{seen}
use Rattle.p3_scenes.proofs.BoundLaws.{hard-scenes-bound, hard-scenes-roles}
use Rattle.p3_scenes.proofs.task.hard_scenes.Goals as goal

whole : (c : goal.In_ok-push_operators-2) → map seen c.push_operators-2.new.found ≡ hard_scenes c.args.task.now c.args.numbered.now.numbers
whole c =
    let T = c.args.task.now in
    let N = c.args.numbered.now.numbers in
    c.in_ok-push_operators-2.ensures
    ∙ ap (λ front. front ++ scenes N Problem false T.problem.constraints.body [] [])
    (c.in_ok-push_operators.ensures ∙ ap (λ start. map seen start ++ scenes N Domain false T.domain.constraints.body [] []) c.new-found.ensures)

pub returns-clause-bound : goal.returns-clause-bound
returns-clause-bound c =
    let T = c.args.task.now in
    let X = c.args.numbered.now in
    subst (AllZip (IsBound X.numbers) (hard_list T)) (sym (whole c)) (hard-scenes-bound T X.numbers c.requires.numbered.numbering (task-known T X.numbers c.requires.well_formed c.requires.numbered.covers))

pub returns-clause-roles : goal.returns-clause-roles
returns-clause-roles c =
    let T = c.args.task.now in
    let X = c.args.numbered.now in
    ap (map (λ (scene : Scene). scene.role)) (whole c) ∙ hard-scenes-roles T X.numbers c.requires.numbered.numbering (task-known T X.numbers c.requires.well_formed c.requires.numbered.covers)
