use Rattle.std.proofs.Common.{get_or, ◌∙◌, ◌<◌, All, map, length, ap, sym, subst, arith}
use Rattle.std.proofs.lemmas.Result.{IfOk-weaker}
use Rattle.p3_formula.specs.Nodes.{form_of, node_form, IsNodeBelow}
use Rattle.p3_formula.specs.declared.form.Form.TheVariants as form
use Rattle.p3_formula.proofs.NodeLemmas.{more-below, more-stand}
use Rattle.p3_regress.specs.Regressed as made
use Rattle.p3_regress.specs.Sorted.{lent}
use Rattle.p3_regress.proofs.MemoryLemmas.{goes_on_trans, goes_on_add, goes_on_then, goes_on_unnoted, goes_on_noted, answered_stands, answered_within, node_answer, next_regressed}
use Rattle.p3_regress.proofs.RegressedLemmas.{regressed-True, regressed-False, regressed-Atom, regressed-Not, regressed-And, regressed-Or}
use Rattle.p3_regress.proofs.regression.+before.Goals as goal

pub all_before-loop-number-preserved : goal.all_before-loop-number-preserved
all_before-loop-number-preserved t c =
    let changes = lent c.args.changes.now in
    let first = c.args.memory.now.table in
    let old = c.loop-number.memory.table in
    let new = c.before-in-loop-number.new.memory.table in
    let goes = c.before-in-loop-number.ensures.goes_on in
    let so_far = c.loop-number.invariant in
    let answer = c.in_ok-before.field-0 in
    let number = get_or c.args.numbers.now c.loop-number.number-index 0 in
    let inside : number < length first = omega (arith, c.requires.parts c.loop-number.number-index 0 c.loop-number-test.true, c.requires.within) in record {
      goes_on = goes_on_trans so_far.goes_on goes;
      below = subst (All (λ before. before < length new)) (sym c.in_ok-push.ensures.ok) (more-below old new c.loop-number.befores answer goes.grows so_far.below (answered_within goes number answer c.in_ok-before.ensures.answered));
      stand = ap (map (form_of new)) c.in_ok-push.ensures.ok
          ∙ more-stand old new c.loop-number.befores answer _ _ goes.grows so_far.below so_far.stand (answered_stands (goes_on_trans so_far.goes_on goes) number answer inside c.in_ok-before.ensures.answered)
          ∙ next_regressed changes (form_of first) c.args.numbers.now c.loop-number.number-index c.loop-number-test.true;
    }

pub answered-returns-in_err-note-clause-goes_on : goal.answered-returns-in_err-note-clause-goes_on
answered-returns-in_err-note-clause-goes_on t c =
    goes_on_unnoted c.node_before.ensures.goes_on c.note.ensures.table c.args.number c.note.ensures.others c.in_err-note.ensures.err

pub answered-returns-clause-goes_on : goal.answered-returns-clause-goes_on
answered-returns-clause-goes_on t c =
    goes_on_noted c.node_before.ensures.goes_on c.note.ensures.table c.args.number c.note.ensures.others c.in_ok-before.before c.requires.new
    (node_answer c.in_ok-node.node c.args.number c.in_ok-before.before c.node_before.ensures.goes_on.grows c.requires.within c.in_ok-before.ensures.within c.in_ok-node.ensures.stands c.in_ok-before.ensures.stands)
    c.in_ok-note.ensures.noted

pub node_before-add-requires-in-Not : goal.node_before-add-requires-in-Not
node_before-add-requires-in-Not t c = answered_within c.before-in-Not.ensures.goes_on c.in-Not.part c.in_ok-part-in-Not.part c.in_ok-part-in-Not.ensures.answered

-- ---- nodes go on

pub node_before-returns-in-True-clause-goes_on : goal.node_before-returns-in-True-clause-goes_on
node_before-returns-in-True-clause-goes_on t c = goes_on_add c.add.ensures.grows (ap (λ answers. answers.items) c.add.ensures.answers) c.requires.right

pub node_before-returns-in-False-clause-goes_on : goal.node_before-returns-in-False-clause-goes_on
node_before-returns-in-False-clause-goes_on t c = goes_on_add c.add-in-False.ensures.grows (ap (λ answers. answers.items) c.add-in-False.ensures.answers) c.requires.right

pub node_before-returns-in_ok-form-in-Atom-clause-goes_on : goal.node_before-returns-in_ok-form-in-Atom-clause-goes_on
node_before-returns-in_ok-form-in-Atom-clause-goes_on t c = goes_on_add c.of.ensures.grows (ap (λ answers. answers.items) c.of.ensures.answers) c.requires.right

pub node_before-returns-in_ok-part-in-Not-clause-goes_on : goal.node_before-returns-in_ok-part-in-Not-clause-goes_on
node_before-returns-in_ok-part-in-Not-clause-goes_on t c = goes_on_then c.before-in-Not.ensures.goes_on c.add-in-Not.ensures.grows (ap (λ answers. answers.items) c.add-in-Not.ensures.answers)

pub node_before-returns-in_ok-parts-in-And-clause-goes_on : goal.node_before-returns-in_ok-parts-in-And-clause-goes_on
node_before-returns-in_ok-parts-in-And-clause-goes_on t c = goes_on_then c.all_before.ensures.goes_on c.add-in-And.ensures.grows (ap (λ answers. answers.items) c.add-in-And.ensures.answers)

pub node_before-returns-in_ok-parts-in-Or-clause-goes_on : goal.node_before-returns-in_ok-parts-in-Or-clause-goes_on
node_before-returns-in_ok-parts-in-Or-clause-goes_on t c = goes_on_then c.all_before-in-Or.ensures.goes_on c.add-in-Or.ensures.grows (ap (λ answers. answers.items) c.add-in-Or.ensures.answers)

-- ---- what nodes stand for

pub node_before-returns-in-True-clause-stands : goal.node_before-returns-in-True-clause-stands
node_before-returns-in-True-clause-stands t c =
    let changes = lent c.args.changes.now in
    IfOk-weaker c.add.result _ _ (λ before is. is ∙ sym (ap (λ node. made.regressed changes (node_form (form_of c.args.memory.now.table) node)) c.in-True.is ∙ regressed-True changes)) c.add.ensures.stands

pub node_before-returns-in-False-clause-stands : goal.node_before-returns-in-False-clause-stands
node_before-returns-in-False-clause-stands t c =
    let changes = lent c.args.changes.now in
    IfOk-weaker c.add-in-False.result _ _ (λ before is. is ∙ sym (ap (λ node. made.regressed changes (node_form (form_of c.args.memory.now.table) node)) c.in-False.is ∙ regressed-False changes)) c.add-in-False.ensures.stands

pub node_before-returns-in_ok-form-in-Atom-clause-stands : goal.node_before-returns-in_ok-form-in-Atom-clause-stands
node_before-returns-in_ok-form-in-Atom-clause-stands t c =
    let changes = lent c.args.changes.now in
    IfOk-weaker c.of.result _ _
    (λ before is. is ∙ c.in_ok-form-in-Atom.ensures ∙ c.changes_of.ensures.after ∙ sym (ap (λ node. made.regressed changes (node_form (form_of c.args.memory.now.table) node)) c.in-Atom.is ∙ regressed-Atom changes c.in-Atom.atom))
    c.of.ensures.stands

pub node_before-returns-in_ok-part-in-Not-clause-stands : goal.node_before-returns-in_ok-part-in-Not-clause-stands
node_before-returns-in_ok-part-in-Not-clause-stands t c =
    let changes = lent c.args.changes.now in
    let old = c.args.memory.now.table in
    let part = c.in-Not.part in
    let below : part < c.args.count = subst (IsNodeBelow c.args.count) c.in-Not.is c.requires.parts in
    let inside : part < length old = omega (arith, below, c.requires.within) in
    IfOk-weaker c.add-in-Not.result _ _
    (λ before is.
    is ∙ ap form.Not (answered_stands c.before-in-Not.ensures.goes_on part c.in_ok-part-in-Not.part inside c.in_ok-part-in-Not.ensures.answered)
    ∙ sym (ap (λ node. made.regressed changes (node_form (form_of old) node)) c.in-Not.is ∙ regressed-Not changes (form_of old part)))
    c.add-in-Not.ensures.stands

pub node_before-returns-in_ok-parts-in-And-clause-stands : goal.node_before-returns-in_ok-parts-in-And-clause-stands
node_before-returns-in_ok-parts-in-And-clause-stands t c =
    let changes = lent c.args.changes.now in
    let old = c.args.memory.now.table in
    IfOk-weaker c.add-in-And.result _ _
    (λ before is.
    is ∙ ap form.And (c.in_ok-parts-in-And.ensures.stand ∙ ap (λ parts. map (made.regressed changes) (map (form_of old) parts)) c.items.ensures)
    ∙ sym (ap (λ node. made.regressed changes (node_form (form_of old) node)) c.in-And.is ∙ regressed-And changes (map (form_of old) c.in-And.parts)))
    c.add-in-And.ensures.stands

pub node_before-returns-in_ok-parts-in-Or-clause-stands : goal.node_before-returns-in_ok-parts-in-Or-clause-stands
node_before-returns-in_ok-parts-in-Or-clause-stands t c =
    let changes = lent c.args.changes.now in
    let old = c.args.memory.now.table in
    IfOk-weaker c.add-in-Or.result _ _
    (λ before is.
    is ∙ ap form.Or (c.in_ok-parts-in-Or.ensures.stand ∙ ap (λ parts. map (made.regressed changes) (map (form_of old) parts)) c.items-in-Or.ensures)
    ∙ sym (ap (λ node. made.regressed changes (node_form (form_of old) node)) c.in-Or.is ∙ regressed-Or changes (map (form_of old) c.in-Or.parts)))
    c.add-in-Or.ensures.stands
