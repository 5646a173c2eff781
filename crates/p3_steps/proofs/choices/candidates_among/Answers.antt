use Rattle.std.proofs.Common.{◌≡◌, ◌∙◌, ◌-◌, ◌<◌, true, map, sym, ap, subst}
use Rattle.std.specs.List.{All, filter}
use Rattle.std.proofs.lemmas.Result.{IfOk-weaker}
use Rattle.p3_numbers.specs.Choices.{choice, choice_count}
use Rattle.p3_steps.specs.Candidates.{candidates_among}
use Rattle.p3_steps.specs.Possible.{may_begin, may_yet_begin}
use Rattle.p3_steps.proofs.AmongLemmas.{among-below}
use Rattle.p3_steps.proofs.LateLemmas.{begin-within, open-pass}
use Rattle.p3_steps.proofs.choices.candidates_among.Goals as goal

pub begun-requires-clause-within : goal.begun-requires-clause-within
begun-requires-clause-within c =
    let N = c.args.numbers.now in
    let S = c.args.statics.now in
    let ranges = c.args.ranges.now in
    let pre = c.args.goal.now in
    subst (All (λ number. number < choice_count N ranges)) (sym c.in_ok-choices.ensures)
    (among-below N S ranges pre c.args.first c.args.those.now (λ number. may_yet_begin N S (choice N ranges number) pre) (choice_count N ranges) c.requires.from c.requires.within)

pub begun-requires-clause-yet : goal.begun-requires-clause-yet
begun-requires-clause-yet c =
    let N = c.args.numbers.now in
    let S = c.args.statics.now in
    let ranges = c.args.ranges.now in
    subst (All (λ number. may_yet_begin N S (choice N ranges number) c.args.goal.now ≡ true)) (sym c.in_ok-choices.ensures) (open-pass N S ranges c.args.goal.now (map (λ n. n - c.args.first) c.args.those.now))

pub returns : goal.returns
returns c =
    let N = c.args.numbers.now in
    let S = c.args.statics.now in
    let ranges = c.args.ranges.now in
    let pre = c.args.goal.now in
    let those = map (λ n. n - c.args.first) c.args.those.now in
    IfOk-weaker c.begun.result (λ kept. kept.items ≡ filter (λ number. may_begin N S (choice N ranges number) pre) c.in_ok-choices.choices.items) (λ kept. kept.items ≡ candidates_among N S ranges pre c.args.first c.args.those.now)
    (λ kept is. is ∙ ap (filter (λ number. may_begin N S (choice N ranges number) pre)) c.in_ok-choices.ensures ∙ begin-within N S ranges pre those)
    c.begun.ensures
