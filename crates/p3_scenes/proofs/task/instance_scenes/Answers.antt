use Rattle.std.proofs.Common.{◌≡◌, ◌∙◌, [], ◌++◌, map, sym, ap, subst, append_assoc}
use Rattle.std.specs.List.{AllZip}
use Rattle.p3_base.specs.declared.refusal.Role.TheVariants.{Domain, Problem}
use Rattle.p3_task.specs.Constraints.{instances}
use Rattle.p3_numbers.proofs.KnownLaws.{task-known}
use Rattle.p3_scenes.specs.Bound.{IsBoundSoft}
use Rattle.p3_scenes.specs.Scenes.{SoftScene, at_end, soft_scenes, state_scenes, task_scenes}
use Rattle.p3_scenes.specs.Seen.{seen_pref, seen_soft}
use Rattle.p3_scenes.proofs.BoundLaws.{soft-scenes-bound, soft-scenes-roles}
use Rattle.p3_scenes.proofs.task.instance_scenes.Goals as goal

whole : (c : goal.In_ok-push_at_end) → map seen_soft c.push_at_end.new.found ≡ task_scenes c.args.task.now c.args.numbered.now.numbers
whole c =
    let T = c.args.task.now in
    let N = c.args.numbered.now.numbers in
    let domain = soft_scenes N Domain T.domain.constraints.body [] [] in
    let problem = soft_scenes N Problem T.problem.constraints.body [] [] in
    let goal : map seen_pref c.push_preferences.new.found ≡ state_scenes N T.problem.goal.body [] [] = c.in_ok-push_preferences.ensures ∙ ap (λ start. map seen_pref start ++ state_scenes N T.problem.goal.body [] []) c.new-goal.ensures in
    let front : map seen_soft c.push_instances-2.new.found ≡ domain ++ problem = c.in_ok-push_instances-2.ensures
    ∙ ap (λ front. front ++ problem) (c.in_ok-push_instances.ensures ∙ ap (λ start. map seen_soft start ++ domain) c.new-found.ensures) in
    c.in_ok-push_at_end.ensures ∙ (λ i. front i ++ map at_end (goal i)) ∙ append_assoc domain problem (map at_end (state_scenes N T.problem.goal.body [] []))

pub returns-clause-bound : goal.returns-clause-bound
returns-clause-bound c =
    let T = c.args.task.now in
    let X = c.args.numbered.now in
    subst (AllZip (IsBoundSoft T X.numbers) (instances T)) (sym (whole c)) (soft-scenes-bound T X.numbers c.requires.numbered.numbering (task-known T X.numbers c.requires.well_formed c.requires.numbered.covers))

pub returns-clause-roles : goal.returns-clause-roles
returns-clause-roles c =
    let T = c.args.task.now in
    let X = c.args.numbered.now in
    ap (map (λ (scene : SoftScene). scene.role)) (whole c) ∙ soft-scenes-roles T X.numbers c.requires.numbered.numbering (task-known T X.numbers c.requires.well_formed c.requires.numbered.covers)
