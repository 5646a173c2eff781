use Rattle.std.proofs.Common.{◌∙◌, ◌+◌, ◌∷◌, [], IsTrue, drop, take, subst, sym, ap, arith}
use Rattle.std.proofs.lemmas.List.{drop_more, take_all}
use Rattle.p3_base.specs.Outside.{IsHeld}
use Rattle.p3_cli.specs.Asked.{asked_input, asked_inputs}
use Rattle.p3_cli.specs.Outcome.{ReadsAll, ReadFails}
use Rattle.p3_cli.specs.Store.{AreStored}
use Rattle.p3_cli.specs.Texts.{all_texts, with_text}
use Rattle.p3_cli.proofs.StoreLemmas.{asked_more, asked_parts, one_more_text, read_fails_here}
use Rattle.p3_cli.proofs.store.read_all.Goals as goal

pub returns-in-Err-clause-err : goal.returns-in-Err-clause-err
returns-in-Err-clause-err g c =
    let files = g.F.Files in
    let held = (files.seen c.args.files.now).held in
    let inputs = c.args.inputs.now in
    let input = c.input-item.result in
    let i = c.loop-input.input-index in
    let before = (files.seen c.args.files.now).read_faults in
    let after = (files.seen c.read_one.new.files).read_faults in
    let fails = subst (λ told. ReadFails told (asked_input input ∷ []) (files.seen c.loop-input.files).read_faults after c.in-Err.ending) c.loop-input.invariant.held c.in-Err.ensures.err in
    subst (λ all. ReadFails held all before after c.in-Err.ending) (asked_parts inputs i input c.loop-input-test.true c.input-item.is)
    (read_fails_here held (asked_inputs (take i inputs)) (asked_input input) (asked_inputs (drop (i + 1) inputs)) (all_texts c.loop-input.texts)
    before _ after c.in-Err.ending c.loop-input.invariant.read c.loop-input.invariant.reads fails)

pub loop-input-preserved : goal.loop-input-preserved
loop-input-preserved g c =
    let files = g.F.Files in
    let held = (files.seen c.args.files.now).held in
    let inputs = c.args.inputs.now in
    let input = c.input-item.result in
    let i = c.loop-input.input-index in
    let text = c.in-Ok.text.items in
    let cut = drop_more inputs i input c.loop-input-test.true ∙ ap (λ x. x ∷ drop (i + 1) inputs) (sym c.input-item.is) in
    let is_held = subst (λ told. IsHeld told input.name.now text) c.loop-input.invariant.held c.in-Ok.ensures.ok in
    record {
      held = c.in-Ok.ensures.held_stays ∙ c.loop-input.invariant.held;
      reads = omega (arith, c.in-Ok.ensures.read_faults_grow, c.loop-input.invariant.reads);
      writes = omega (arith, c.in-Ok.ensures.write_faults_grow, c.loop-input.invariant.writes);
      named = λ sure. (subst (λ rest. AreStored held (asked_inputs rest)) cut (c.loop-input.invariant.named (subst IsTrue c.in-Ok.ensures.sure_stays sure))).1;
      read = subst (ReadsAll held (asked_inputs (take (i + 1) inputs))) (sym c.put.ensures)
          (subst (λ those. ReadsAll held those (with_text input.role text (all_texts c.loop-input.texts))) (asked_more inputs i input c.loop-input-test.true c.input-item.is)
          (one_more_text held (asked_inputs (take i inputs)) (asked_input input) (all_texts c.loop-input.texts) text c.loop-input.invariant.read is_held c.in-Ok.ensures.within));
    }

pub returns-clause-ok : goal.returns-clause-ok
returns-clause-ok g c =
    let held = (g.F.Files.seen c.args.files.now).held in
    let inputs = c.args.inputs.now in
    subst (λ those. ReadsAll held (asked_inputs those) (all_texts c.loop-input.texts)) (take_all c.loop-input.input-index inputs c.loop-input-test.false) c.loop-input.invariant.read
