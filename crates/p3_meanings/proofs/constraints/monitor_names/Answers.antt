use Rattle.std.proofs.Common.{◌≡◌, ◌∙◌, ◌++◌, map, ap, subst}
use Rattle.std.specs.Prelude.{flat_map}
use Rattle.std.specs.List.{AllZip}
use Rattle.std.proofs.lemmas.Result.{IfOk-weaker}
use Rattle.p3_task.specs.Constraints.{hard_list}
use Rattle.p3_task.specs.declared.task.Task.{Task}
use Rattle.p3_formula.specs.declared.modal.GroundSoft.{GroundSoft}
use Rattle.p3_numbers.specs.declared.task.NumberedTask.{NumberedTask}
use Rattle.p3_scenes.specs.Bound.{IsBound, hard_roles}
use Rattle.p3_scenes.specs.Scenes.{Scene}
use Rattle.p3_scenes.specs.Seen.{seen, seen_soft}
use Rattle.p3_accounts.specs.Meanings.{meaning_line}
use Rattle.p3_accounts.specs.Vocabularies.{vocabulary}
use Rattle.p3_unmet.specs.Sources.{texts}
use Rattle.p3_meanings.specs.Heard.{hard_heard, heard, numbered_from, soft_heard}
use Rattle.p3_meanings.specs.Monitors.{monitors_said}
use Rattle.p3_meanings.specs.Said.{said_lines}
use Rattle.p3_meanings.proofs.SceneLemmas.{as_many, monitors_are_said}
use Rattle.p3_meanings.proofs.constraints.monitor_names.Goals as goal

pub push_soft-requires : goal.push_soft-requires
push_soft-requires c = as_many c.args.checked.now.task c.args.checked.now.numbered.numbers c.args.softs.now c.args.instances.now c.requires.named c.requires.scenes

pub returns : goal.returns
returns c =
    let T = c.args.checked.now.task in
    let X = c.args.checked.now.numbered in
    let V = vocabulary c.args.telling.now.terms.now in
    let S = texts c.args.telling.now.sources.now in
    let hard = c.in_ok-hard.hard in
    let instances = map seen_soft c.args.instances.now in
    let soft = soft_heard V S (map (λ (one : GroundSoft). one.name) c.args.softs.now) instances in
    let found = c.push_soft.new.found in
    let bound : AllZip (IsBound X.numbers) (hard_list T) (map seen hard) =
    subst (λ (Y : NumberedTask). AllZip (IsBound Y.numbers) (hard_list T) (map seen hard)) c.numbered.ensures.task
    (subst (λ (U : Task). AllZip (IsBound c.numbered.result.now.numbers) (hard_list U) (map seen hard)) c.task.ensures.task c.in_ok-hard.ensures.bound)
    in
    let roles : map (λ (scene : Scene). scene.role) (map seen hard) ≡ hard_roles T = c.in_ok-hard.ensures.roles ∙ ap hard_roles c.task.ensures.task in
    let is : map (heard V) found ≡ hard_heard V S 0 (map seen hard) ++ soft =
    c.in_ok-push_soft.ensures
    ∙ ap (λ front. front ++ soft) (c.in_ok-push_hard.ensures ∙ (λ i. map (heard V) (c.new-found.ensures i) ++ hard_heard V S 0 (map seen (c.items.ensures i))))
    in
    IfOk-weaker c.numbered-2.result (λ meanings. meanings ≡ numbered_from 0 found) (λ meanings. flat_map (meaning_line V) meanings ≡ said_lines V 0 (monitors_said S T))
    (λ meanings. monitors_are_said T X V S c.numbered.ensures.numbered c.requires.words c.args.softs.now instances c.requires.named c.requires.scenes (map seen hard) found meanings bound roles is) c.numbered-2.ensures
