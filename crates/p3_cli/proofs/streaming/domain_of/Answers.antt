use Rattle.std.proofs.Common.{◌∙◌, ap, subst, length}
use Rattle.p3_compile.specs.Compiling.{IsCompiledTo}
use Rattle.p3_compile.proofs.EndActions.{ends_named}
use Rattle.p3_writer.specs.DomainText.{BegunDomain, first_text}
use Rattle.p3_cli.specs.Streaming.{HasWrittenAll, HasWrittenEnds}
use Rattle.p3_cli.proofs.ResultLemmas.{if_both}
use Rattle.p3_cli.proofs.StreamingLemmas.{all_actions, can_be_written, has_domain, whole}
use Rattle.p3_cli.proofs.streaming.domain_of.Goals as goal

pub push_steps-requires : goal.push_steps-requires
push_steps-requires g c = (c.requires, ap (λ (text : BegunDomain). text.names) c.in_ok-text.ensures ∙ c.names.ensures)

pub push_ends-requires-clause-named : goal.push_ends-requires-clause-named
push_ends-requires-clause-named g c = ends_named g.task c.args.weights.now c.args.begun.now c.requires.is

pub push_ends-requires-clause-names : goal.push_ends-requires-clause-names
push_ends-requires-clause-names g c = ap (λ (text : BegunDomain). text.names) c.in_ok-push_steps.ensures.are.written ∙ ap (λ (text : BegunDomain). text.names) c.in_ok-text.ensures ∙ c.names.ensures

pub returns : goal.returns
returns g c =
    let G = g.task in
    let weights = c.args.weights.now in
    let begun = c.args.begun.now in
    let mid = c.push_steps.new.text in
    let new = c.push_ends.new.text in
    let steps : HasWrittenAll G weights begun (first_text begun.names) mid = subst (λ old. HasWrittenAll G weights begun old mid) (c.in_ok-text.ensures ∙ ap first_text c.names.ensures) c.in_ok-push_steps.ensures in
    let ends : HasWrittenEnds begun (length begun.instances) mid new = c.in_ok-push_ends.ensures in
    let X = whole G weights begun mid new steps ends in
    let is : IsCompiledTo G weights X = c.begun_targets_are_compiled.ensures G weights begun steps.actions ends.actions c.requires.ready c.requires.is steps.made ends.made in
    let all = all_actions G weights begun mid new steps ends in
    if_both c.finish.result (λ text layout is_text. has_domain G weights begun mid new steps ends is text.items layout is_text)
    (c.finish.ensures.layout X all) (c.finish.ensures.text X all (can_be_written G weights begun mid new steps ends is))
