use Rattle.std.proofs.Common.{◌∙◌, sym, ap}
use Rattle.std.specs.Prelude.{bytes_eq}
use Rattle.std.specs.List.{list_any}
use Rattle.p3_expansion.specs.Statics.{is_decided}
use Rattle.p3_expansion.proofs.ExpansionLemmas.{makes-decided, makes-added}
use Rattle.p3_expansion.proofs.condition.atom_form.Goals as goal

pub returns-then-is_decided : goal.returns-then-is_decided
returns-then-is_decided c =
    makes-decided c.args.numbers.now c.args.statics.now c.args.work.now c.spell.new.self c.args.slots.now c.args.predicate c.args.args.now c.has-holds.result c.constant.result
    (ap (is_decided c.args.numbers.now c.args.statics.now) (sym (c.as_slice.ensures.value ∙ c.in_ok-spell.ensures.words)) ∙ sym c.is_decided.ensures ∙ c.if-is_decided.true)
    (c.has-holds.ensures ∙ ap (λ words. list_any (bytes_eq words) c.args.statics.now.facts) (c.as_slice-then-is_decided.ensures.value ∙ c.in_ok-spell.ensures.words))
    c.in_ok-spell.ensures.grows c.constant.ensures

pub returns : goal.returns
returns c =
    makes-added c.args.numbers.now c.args.statics.now c.args.work.now c.spell.new.self c.atom_form.new.self c.args.slots.now c.args.predicate c.args.args.now c.spell.new.self.words.items c.in_ok-form.form
    c.in_ok-spell.ensures.words c.in_ok-spell.ensures.grows c.in_ok-form.ensures.grows (c.in_ok-form.ensures.stands c.args.numbers.now c.args.statics.now) c.in_ok-form.ensures.tidy
