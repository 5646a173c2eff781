use Rattle.std.proofs.Common.{◌∙◌, true, false, not, sym, ap, subst, arith, rules}
use Rattle.std.specs.List.{list_all, list_any}
use Rattle.std.proofs.lemmas.List.{take_all}
use Rattle.std.proofs.lemmas.Result.{on_ok_weaker}
use Rattle.p3_formula.specs.Forms.{is_set}
use Rattle.p3_formula.specs.declared.form.Form.TheViews.{the_lemmas}
use Rattle.p3_formula.proofs.FormLemmas.{below-Atom, below-Not, below-And, below-Or}
use Rattle.p3_reach.specs.May.{may_be}
use Rattle.p3_reach.specs.Models.{Says, leads}
use Rattle.p3_reach.proofs.MayLemmas.{be-True, be-False, be-Atom, be-Not, hold-And, hold-Or, fail-And, fail-Or}
use Rattle.p3_reach.proofs.LeadLaws.{led, led_by_next, named_next, led_by_all}
use Rattle.p3_reach.proofs.leading.+leading.Goals as goal

pub lead-link_atom-requires-clause-atom : goal.lead-link_atom-requires-clause-atom
lead-link_atom-requires-clause-atom t c =
    let below = below-Atom c.args.theory.now.atoms c.args.form.now c.in-Atom.atom c.in-Atom.is c.requires.below in
    let room = c.args.theory.now.room in
    omega (arith, below, room)

pub lead-lead-requires : goal.lead-lead-requires
lead-lead-requires t c = (search (rules, the_lemmas), (rw c.get.ensures (below-Not _ _ _ c.in-Not.is c.requires.below), (c.requires.given, c.requires.gives)))

pub lead-lead_by_all-requires : goal.lead-lead_by_all-requires
lead-lead_by_all-requires t c = (search (rules, the_lemmas), (rw c.items.ensures (below-And _ _ _ c.in-And.is c.requires.below), (c.requires.given, c.requires.gives)))

pub lead-lead_by_some-requires : goal.lead-lead_by_some-requires
lead-lead_by_some-requires t c = (search (rules, the_lemmas), (rw c.items-else-holds-2.ensures (below-And _ _ _ c.in-And.is c.requires.below), (c.requires.given, c.requires.gives)))

pub lead-lead_by_some-requires-then-holds-3 : goal.lead-lead_by_some-requires-then-holds-3
lead-lead_by_some-requires-then-holds-3 t c = (search (rules, the_lemmas), (rw c.items-then-holds-3.ensures (below-Or _ _ _ c.in-Or.is c.requires.below), (c.requires.given, c.requires.gives)))

pub lead-lead_by_all-requires-else-holds-3 : goal.lead-lead_by_all-requires-else-holds-3
lead-lead_by_all-requires-else-holds-3 t c = (search (rules, the_lemmas), (rw c.items-else-holds-3.ensures (below-Or _ _ _ c.in-Or.is c.requires.below), (c.requires.given, c.requires.gives)))

pub lead-returns-in-True : goal.lead-returns-in-True
lead-returns-in-True t c = led c.lead_where.result c.args.given c.args.gives (λ set. c.args.holds) (λ set. may_be c.args.holds set c.args.form.now) c.args.theory.now c.lead_where.new.theory
    (λ set. sym (ap (may_be c.args.holds set) c.in-True.is ∙ be-True set c.args.holds)) c.lead_where.ensures

pub lead-returns-in-False : goal.lead-returns-in-False
lead-returns-in-False t c = led c.lead_where-in-False.result c.args.given c.args.gives (λ set. not c.args.holds) (λ set. may_be c.args.holds set c.args.form.now) c.args.theory.now c.lead_where-in-False.new.theory
    (λ set. sym (ap (may_be c.args.holds set) c.in-False.is ∙ be-False set c.args.holds)) c.lead_where-in-False.ensures

pub lead-returns-then-holds : goal.lead-returns-then-holds
lead-returns-then-holds t c = led c.link_atom.result c.args.given c.args.gives (λ set. is_set set c.in-Atom.atom) (λ set. may_be c.args.holds set c.args.form.now) c.args.theory.now c.link_atom.new.theory
    (λ set. sym ((λ i. may_be (c.if-holds.true i) set (c.in-Atom.is i)) ∙ be-Atom set true c.in-Atom.atom)) c.link_atom.ensures

pub lead-returns-else-holds : goal.lead-returns-else-holds
lead-returns-else-holds t c = led c.link.result c.args.given c.args.gives (λ set. true) (λ set. may_be c.args.holds set c.args.form.now) c.args.theory.now c.link.new.theory
    (λ set. sym ((λ i. may_be (c.if-holds.false i) set (c.in-Atom.is i)) ∙ be-Atom set false c.in-Atom.atom)) c.link.ensures

pub lead-returns-in-Not : goal.lead-returns-in-Not
lead-returns-in-Not t c = led c.lead.result c.args.given c.args.gives (λ set. may_be (not c.args.holds) set c.get.result.now) (λ set. may_be c.args.holds set c.args.form.now) c.args.theory.now c.lead.new.theory
    (λ set. ap (may_be (not c.args.holds) set) c.get.ensures ∙ sym (ap (may_be c.args.holds set) c.in-Not.is ∙ be-Not set c.args.holds c.in-Not.part)) c.lead.ensures

pub lead-returns-then-holds-2 : goal.lead-returns-then-holds-2
lead-returns-then-holds-2 t c = led c.lead_by_all.result c.args.given c.args.gives (λ set. list_all (may_be true set) c.items.result.now) (λ set. may_be c.args.holds set c.args.form.now) c.args.theory.now c.lead_by_all.new.theory
    (λ set. ap (list_all (may_be true set)) c.items.ensures ∙ sym ((λ i. may_be (c.if-holds-2.true i) set (c.in-And.is i)) ∙ hold-And set c.in-And.parts)) c.lead_by_all.ensures

pub lead-returns-else-holds-2 : goal.lead-returns-else-holds-2
lead-returns-else-holds-2 t c = led c.lead_by_some.result c.args.given c.args.gives (λ set. list_any (may_be false set) c.items-else-holds-2.result.now) (λ set. may_be c.args.holds set c.args.form.now) c.args.theory.now c.lead_by_some.new.theory
    (λ set. ap (list_any (may_be false set)) c.items-else-holds-2.ensures ∙ sym ((λ i. may_be (c.if-holds-2.false i) set (c.in-And.is i)) ∙ fail-And set c.in-And.parts)) c.lead_by_some.ensures

pub lead-returns-then-holds-3 : goal.lead-returns-then-holds-3
lead-returns-then-holds-3 t c = led c.lead_by_some-then-holds-3.result c.args.given c.args.gives (λ set. list_any (may_be true set) c.items-then-holds-3.result.now) (λ set. may_be c.args.holds set c.args.form.now) c.args.theory.now c.lead_by_some-then-holds-3.new.theory
    (λ set. ap (list_any (may_be true set)) c.items-then-holds-3.ensures ∙ sym ((λ i. may_be (c.if-holds-3.true i) set (c.in-Or.is i)) ∙ hold-Or set c.in-Or.parts)) c.lead_by_some-then-holds-3.ensures

pub lead-returns-else-holds-3 : goal.lead-returns-else-holds-3
lead-returns-else-holds-3 t c = led c.lead_by_all-else-holds-3.result c.args.given c.args.gives (λ set. list_all (may_be false set) c.items-else-holds-3.result.now) (λ set. may_be c.args.holds set c.args.form.now) c.args.theory.now c.lead_by_all-else-holds-3.new.theory
    (λ set. ap (list_all (may_be false set)) c.items-else-holds-3.ensures ∙ sym ((λ i. may_be (c.if-holds-3.false i) set (c.in-Or.is i)) ∙ fail-Or set c.in-Or.parts)) c.lead_by_all-else-holds-3.ensures

pub lead_by_all-loop-part-preserved : goal.lead_by_all-loop-part-preserved
lead_by_all-loop-part-preserved t c =
    named_next c.args.holds c.args.given c.args.parts.now c.loop-part.part-index c.part-item.result c.loop-part-test.true c.part-item.is c.args.theory.now c.loop-part.theory c.requires.below
    c.loop-part.reached c.in_ok-next.next c.proposition.new.self c.lead.new.theory c.loop-part.invariant
    c.in_ok-next.ensures.number c.in_ok-next.ensures.atoms c.in_ok-next.ensures.facts c.in_ok-next.ensures.rules c.in_ok-lead.ensures

pub lead_by_all-returns : goal.lead_by_all-returns
lead_by_all-returns t c =
    let given = c.args.given in
    let parts = c.args.parts.now in
    on_ok_weaker c.link.result (λ said. led_by_all c.args.holds given parts c.loop-part.part-index c.loop-part.reached c.args.gives c.args.theory.now c.loop-part.theory c.link.new.theory
    c.loop-part-test.false c.requires.gives c.loop-part.invariant said) c.link.ensures

pub lead_by_some-loop-part-preserved : goal.lead_by_some-loop-part-preserved
lead_by_some-loop-part-preserved t c =
    led_by_next c.args.holds c.args.given c.args.parts.now c.loop-part.part-index c.part-item.result c.loop-part-test.true c.part-item.is c.args.theory.now c.loop-part.theory c.requires.below
    c.args.gives c.lead.new.theory c.requires.given c.requires.gives c.loop-part.invariant c.in_ok-lead.ensures

pub lead_by_some-returns : goal.lead_by_some-returns
lead_by_some-returns t c =
    subst (λ parts. Says (leads c.args.given (λ set. list_any (may_be c.args.holds set) parts) c.args.gives) c.args.theory.now c.loop-part.theory)
    (take_all c.loop-part.part-index c.args.parts.now c.loop-part-test.false) c.loop-part.invariant
