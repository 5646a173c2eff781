use Rattle.std.proofs.Common.{◌≡◌, ◌∙◌, ℕ, List, true, length, sym, ap, subst}
use Rattle.std.specs.List.{All, filter}
use Rattle.std.proofs.lemmas.Bool.{eqb-true}
use Rattle.std.proofs.lemmas.List.{nil_from_length}
use Rattle.std.proofs.lemmas.Result.{IfOk-weaker}
use Rattle.p3_numbers.specs.Choices.{choice}
use Rattle.p3_steps.specs.Late.{AreLate, all_begin}
use Rattle.p3_steps.specs.Possible.{may_begin, may_yet_begin}
use Rattle.p3_steps.proofs.LateLemmas.{late-decide, none-late}
use Rattle.p3_steps.proofs.choices.begun.Goals as goal

pub returns-then-is_empty : goal.returns-then-is_empty
returns-then-is_empty c =
    let N = c.args.numbers.now in
    let S = c.args.statics.now in
    let pre = c.args.goal.now in
    let parts = c.as_slice-late.result.now in
    none-late N S c.args.ranges.now pre parts c.args.choices.items (subst (AreLate N S pre) (sym c.as_slice-late.ensures.value) c.in_ok-late.ensures) c.requires.yet
    (nil_from_length parts (eqb-true (length parts) 0 (sym c.is_empty.ensures ∙ c.if-is_empty.true)))

pub returns : goal.returns
returns c =
    let N = c.args.numbers.now in
    let S = c.args.statics.now in
    let ranges = c.args.ranges.now in
    let pre = c.args.goal.now in
    let parts = c.as_slice-late.result.now in
    let numbers = c.as_slice.result.now in
    let late : AreLate N S pre parts = subst (AreLate N S pre) (sym c.as_slice-late.ensures.value) c.in_ok-late.ensures in
    let yet : All (λ number. may_yet_begin N S (choice N ranges number) pre ≡ true) numbers = subst (All (λ number. may_yet_begin N S (choice N ranges number) pre ≡ true)) (sym c.as_slice.ensures.value) c.requires.yet in
    let begin : List ℕ → List ℕ = λ all. filter (λ number. may_begin N S (choice N ranges number) pre) all in
    IfOk-weaker c.sifted.result (λ kept. kept.items ≡ filter (λ number. all_begin N S (choice N ranges number) parts) numbers) (λ kept. kept.items ≡ begin c.args.choices.items)
    (λ kept is. is ∙ late-decide N S ranges pre parts numbers late yet ∙ ap begin c.as_slice.ensures.value) c.sifted.ensures
