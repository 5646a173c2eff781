use Rattle.std.proofs.Common.{◌<◌, ◌∙◌, length, get_or, ap, subst}
use Rattle.std.specs.List.{list_all}
use Rattle.p3_compile.specs.Parts.{copied_actions}
use Rattle.p3_formula.specs.Targets.{is_sized_action}
use Rattle.p3_writer.specs.DomainText.{BegunDomain}
use Rattle.p3_cli.proofs.StreamingLemmas.{none_written, one_copy_sized, one_copy_written}
use Rattle.p3_cli.proofs.streaming.push_copies.Goals as goal

pub loop-copy-init : goal.loop-copy-init
loop-copy-init c = none_written c.args.text.now

pub push_copy-requires : goal.push_copy-requires
push_copy-requires c =
    let step = c.args.step.now in
    let names = ap (λ (text : BegunDomain). text.names) c.loop-copy.invariant.written in
    one_copy_sized step.number step.go step.copies c.loop-copy.copy-index c.copy-item.result
    (subst (λ copies. c.loop-copy.copy-index < length copies) c.items-copy-items.ensures c.loop-copy-test.true)
    (c.copy-item.is ∙ ap (λ copies. get_or copies c.loop-copy.copy-index c.copy-item.result) c.items-copy-items.ensures)
    (length c.loop-copy.text.names) ((λ i. list_all (is_sized_action (length (names i))) (copied_actions step)) ∙ c.requires)

pub loop-copy-preserved : goal.loop-copy-preserved
loop-copy-preserved c =
    let step = c.args.step.now in
    one_copy_written step.number step.go step.copies c.loop-copy.copy-index c.copy-item.result
    (subst (λ copies. c.loop-copy.copy-index < length copies) c.items-copy-items.ensures c.loop-copy-test.true)
    (c.copy-item.is ∙ ap (λ copies. get_or copies c.loop-copy.copy-index c.copy-item.result) c.items-copy-items.ensures)
    c.args.text.now c.loop-copy.text c.push_copy.new.text c.loop-copy.invariant c.in_ok-push_copy.ensures
