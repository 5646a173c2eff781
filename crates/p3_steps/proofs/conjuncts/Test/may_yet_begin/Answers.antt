use Rattle.std.proofs.Common.{◌≡◌, ◌∙◌, ◌≤◌, true, drop, length, sym, ap, subst}
use Rattle.std.proofs.Math.Logic.{∥∥₁_elim}
use Rattle.std.proofs.Math.Bool.{Bool-set}
use Rattle.std.proofs.lemmas.List.{drop_all}
use Rattle.p3_steps.specs.Conjuncts.{all_may}
use Rattle.p3_steps.proofs.conjuncts.Test.may_yet_begin.Goals as goal

pub returns : goal.returns
returns c =
    let self = c.args.self.now in
    let N = self.numbers.now in
    let S = self.statics.now in
    let slots = c.args.slots.now in
    let index = c.loop-condition.condition-index in
    let past : length self.conjuncts.items ≤ index = subst (λ items. length items ≤ index) c.as_slice-condition-items.ensures.value c.loop-condition-test.false in
    let done : all_may N S slots (drop index self.conjuncts.items) ≡ true = ap (all_may N S slots) (drop_all index self.conjuncts.items past) in
    ∥∥₁_elim self.are (Bool-set _ _) (λ are. sym (are N S slots ∙ sym c.loop-condition.invariant ∙ done))
