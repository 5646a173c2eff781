use Rattle.std.proofs.Common.{◌∙◌, ◌<◌, length, sym, ap, subst}
use Rattle.std.specs.List.{list_all}
use Rattle.p3_formula.specs.Targets.{is_sized_action}
use Rattle.p3_formula.specs.declared.form.Form.TheVariants.{True}
use Rattle.p3_endphase.specs.declared.phase.SoftEnd.{SoftEnd}
use Rattle.p3_writer.specs.DomainText.{BegunDomain, with_actions}
use Rattle.p3_writer.specs.Layout.{is_small}
use Rattle.p3_cli.proofs.StreamingLemmas.{ends_begun, one_settled}
use Rattle.p3_cli.proofs.streaming.push_ends.Goals as goal

-- an instance that is read at no place
none : SoftEnd
none = record { accept = True; weight = 0 }

pub push-requires : goal.push-requires
push-requires c =
    let begun = c.args.begun.now in
    ap (list_all (is_sized_action (length c.args.text.now.names))) c.begin.ensures
    ∙ (λ i. list_all (is_sized_action (length (c.requires.names i))) begun.begin) ∙ c.requires.named.begin

pub loop-number-init : goal.loop-number-init
loop-number-init c =
    let begun = c.args.begun.now in
    let text = c.args.text.now in
    ends_begun begun text c.push.new.self (record {
      written = c.in_ok-push.ensures.layout ∙ ap (with_actions text) c.begin.ensures;
      small = ap (list_all is_small) (sym c.begin.ensures) ∙ c.in_ok-push.ensures.small;
    })

pub settling-requires-clause-within : goal.settling-requires-clause-within
settling-requires-clause-within c = subst (λ count. c.loop-number.number < count) c.instance_count-number-end.ensures c.loop-number-test.true

pub push-requires-in-loop-number : goal.push-requires-in-loop-number
push-requires-in-loop-number c =
    let begun = c.args.begun.now in
    let number = c.loop-number.number in
    let within = subst (λ count. number < count) c.instance_count-number-end.ensures c.loop-number-test.true in
    let names = ap (λ (text : BegunDomain). text.names) c.loop-number.invariant.are.written ∙ c.requires.names in
    ap (list_all (is_sized_action (length c.loop-number.text.names))) c.items.ensures
    ∙ (λ i. list_all (is_sized_action (length (names i))) c.in_ok-actions.actions)
    ∙ c.requires.named.settling number none c.in_ok-actions.actions within (c.in_ok-actions.ensures none)

pub loop-number-preserved : goal.loop-number-preserved
loop-number-preserved c =
    let begun = c.args.begun.now in
    let number = c.loop-number.number in
    let within = subst (λ count. number < count) c.instance_count-number-end.ensures c.loop-number-test.true in
    one_settled begun number none c.in_ok-actions.actions c.args.text.now c.loop-number.text c.push-in-loop-number.new.self within (c.in_ok-actions.ensures none) c.loop-number.invariant (record {
      written = c.in_ok-push-2.ensures.layout ∙ ap (with_actions c.loop-number.text) c.items.ensures;
      small = ap (list_all is_small) (sym c.items.ensures) ∙ c.in_ok-push-2.ensures.small;
    })
