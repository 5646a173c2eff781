use Rattle.std.proofs.Common.{◌∙◌, ◌<◌, ◌^◌, sym, ap, subst}
use Rattle.std.specs.List.{All}
use Rattle.std.proofs.lemmas.Result.{IfOk-weaker}
use Rattle.p3_formula.specs.declared.target.Weights.{Weights}
use Rattle.p3_eval.specs.Runs.{OfRun}
use Rattle.p3_accounts.specs.Shares.{AreShares}
use Rattle.p3_shares.specs.Adding.{AddsUp}
use Rattle.p3_shares.specs.Sharing.{AreFound, CanShare}
use Rattle.p3_shares.proofs.ShareLemmas.{found_add_up, found_are}
use Rattle.p3_shares.proofs.metric.shares_of.Goals as goal

pub returns-clause-are : goal.returns-clause-are
returns-clause-are c =
    let grounded = c.args.grounded.now in
    let ran = c.args.run.now in
    let checked = grounded.checked.now in
    let same = c.items.ensures ∙ ap (λ (w : Weights). w.by_name) (c.weights.ensures ∙ sym c.requires.done.done.weights) in
    let can : CanShare grounded ran = record { done = c.requires.done; few = c.requires.few; small = subst (All (λ weight. weight < 2 ^ 64)) same c.bounded-by_name.ensures.small } in
    IfOk-weaker c.shares_by.result (AreFound checked.task ran) (λ shares. OfRun checked.task ran (λ plan. AreShares checked.numbered.numbers checked.task plan shares))
    (λ shares found plan numbers. found_are grounded ran can shares found plan numbers) c.shares_by.ensures

pub returns-clause-adds_up : goal.returns-clause-adds_up
returns-clause-adds_up c =
    let grounded = c.args.grounded.now in
    let ran = c.args.run.now in
    let same = c.items.ensures ∙ ap (λ (w : Weights). w.by_name) (c.weights.ensures ∙ sym c.requires.done.done.weights) in
    let can : CanShare grounded ran = record { done = c.requires.done; few = c.requires.few; small = subst (All (λ weight. weight < 2 ^ 64)) same c.bounded-by_name.ensures.small } in
    IfOk-weaker c.shares_by.result (AreFound grounded.checked.now.task ran) (AddsUp grounded.checked.now.task) (λ shares found. found_add_up grounded ran can shares found) c.shares_by.ensures
