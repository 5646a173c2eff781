use Rattle.std.proofs.Common.{◌<◌, ◌∙◌, length, take, get_or, sym, ap, subst}
use Rattle.p3_formula.specs.Literals.{said_of}
use Rattle.p3_formula.specs.Weighted.{weighted_cost}
use Rattle.p3_precprefs.specs.Choices.{IsWithin, first_choice, split_all, split_by}
use Rattle.p3_precprefs.proofs.CopyLemmas.{next_split, next_weight, within_so_far}
use Rattle.p3_precprefs.proofs.choices.split_all.Goals as goal

pub split_by-requires-clause-weight : goal.split_by-requires-clause-weight
split_by-requires-clause-weight c =
    next_weight (said_of c.args.known.now) c.args.weights.now.by_name c.args.step.now.prefs c.loop-pref.pref-index c.pref-item.result
    (subst (λ prefs. c.loop-pref.pref-index < length prefs) c.items-pref-items.ensures c.loop-pref-test.true)
    (c.pref-item.is ∙ ap (λ prefs. get_or prefs c.loop-pref.pref-index c.pref-item.result) c.items-pref-items.ensures)
    (weighted_cost c.args.weights.now c.args.step.now) _ c.requires.room

pub split_by-requires-clause-costs : goal.split_by-requires-clause-costs
split_by-requires-clause-costs c =
    subst (IsWithin 4611686018427387904) (sym (c.loop-pref.invariant ∙ ap (split_all (said_of c.args.known.now) c.args.weights.now.by_name (take c.loop-pref.pref-index c.args.step.now.prefs)) c.requires.first))
    (within_so_far (said_of c.args.known.now) c.args.weights.now.by_name c.args.step.now.prefs c.loop-pref.pref-index _ (first_choice c.args.weights.now c.args.step.now) c.requires.room)

pub loop-pref-preserved : goal.loop-pref-preserved
loop-pref-preserved c =
    c.in_ok-choices.ensures ∙ ap (λ choices. split_by (said_of c.args.known.now) c.args.weights.now.by_name choices c.pref-item.result) c.loop-pref.invariant
    ∙ next_split (said_of c.args.known.now) c.args.weights.now.by_name c.args.step.now.prefs c.loop-pref.pref-index c.pref-item.result
    (subst (λ prefs. c.loop-pref.pref-index < length prefs) c.items-pref-items.ensures c.loop-pref-test.true)
    (c.pref-item.is ∙ ap (λ prefs. get_or prefs c.loop-pref.pref-index c.pref-item.result) c.items-pref-items.ensures)
    c.args.first
