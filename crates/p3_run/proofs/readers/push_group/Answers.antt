use Rattle.std.proofs.Common.{◌≡◌, ◌∙◌, ◌+◌, ◌<◌, List, length, get_or, sym, ap, subst}
use Rattle.std.proofs.lemmas.List.{get_or_default}
use Rattle.p3_formula.specs.declared.form.Form.TheVariants.{True}
use Rattle.p3_formula.specs.GroundModal.{GroundModal}
use Rattle.p3_base.specs.declared.operator.Operator.TheVariants.{AtEnd}
use Rattle.p3_run.specs.Groups.{modal_at, modals_at, IsReader}
use Rattle.p3_formula.specs.AtomLists.{modal_atoms}
use Rattle.p3_run.specs.Readers.{filed_all, AreFiledTo}
use Rattle.p3_run.specs.declared.readers.OperatorReader.{OperatorReader}
use Rattle.p3_run.proofs.ReaderLaws.{filed_one}
use Rattle.p3_run.proofs.readers.push_group.Goals as goal

pub loop-place-preserved : goal.loop-place-preserved
loop-place-preserved c =
    let G = c.args.task.now in
    let place = c.loop-place.place in
    let modals = c.modals_at-modals.result.now in
    let readers = c.loop-place.readers.items in
    let reader : OperatorReader = record { group = c.args.group; place = place } in
    let are : modals ≡ modals_at G c.args.group = c.modals_at-modals.ensures in
    let is : IsReader G reader = record { group = c.requires.within; place = subst (λ (list : List GroundModal). place < length list) are c.loop-place-test.true } in
    let one : c.index-modals-place.result ≡ modal_at G reader =
    c.index-modals-place.is ∙ get_or_default modals place c.index-modals-place.result (AtEnd True) c.loop-place-test.true
    ∙ ap (λ (list : List GroundModal). get_or list place (AtEnd True)) are in
    subst (AreFiledTo G c.args.group (place + 1)) (sym (c.in_ok-push_modal.ensures ∙ ap (λ (modal : GroundModal). filed_all reader readers (modal_atoms modal)) one))
    (filed_one G c.requires.below readers reader is c.loop-place.invariant)
