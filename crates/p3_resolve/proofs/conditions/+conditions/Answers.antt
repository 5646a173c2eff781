use Rattle.std.proofs.Common.{◌∙◌, [], ◌∷◌, ap, sym, take}
use Rattle.p3_task.specs.Uses.{SideUse, formula_uses}
use Rattle.p3_numbers.specs.Conditions.{condition_of}
use Rattle.p3_resolve.specs.NumbersOf.{numbers_of}
use Rattle.p3_resolve.specs.Walk.{Walked, uses_of_each, with_tree}
use Rattle.p3_resolve.proofs.FormLemmas.{formula-Equal, tree-more, words-kept}
use Rattle.p3_resolve.proofs.WalkLemmas.{map-more}
use Rattle.p3_resolve.proofs.conditions.+conditions.Goals as goal

pub numbered_formulas-loop-part-preserved : goal.numbered_formulas-loop-part-preserved
numbered_formulas-loop-part-preserved t c =
    let T = c.args.tables.now.task.now in
    let N = numbers_of c.args.tables.now in
    let walk = c.args.walk.now in
    record {
      walk = tree-more formula_uses T walk c.loop-part.walk c.numbered_formula.new.walk c.args.parts.now c.loop-part.part-index c.part-item.result
          c.loop-part-test.true c.part-item.is c.loop-part.invariant.walk c.in_ok-numbered_formula.ensures.walk;
      made = map-more (λ part. condition_of N part walk.words) c.loop-part.made c.push.new.self c.args.parts.now c.loop-part.part-index c.part-item.result c.in_ok-numbered_formula.field-0
          c.loop-part-test.true c.part-item.is c.loop-part.invariant.made
          (c.in_ok-numbered_formula.ensures.made
          ∙ ap (condition_of N c.part-item.result) (ap (λ (other : Walked). other.words) c.loop-part.invariant.walk ∙ words-kept T (uses_of_each formula_uses (take c.loop-part.part-index c.args.parts.now)) walk))
          c.in_ok-push.ensures.ok;
    }

pub numbered_formula-returns-in_ok-right-in-Equal-clause-walk : goal.numbered_formula-returns-in_ok-right-in-Equal-clause-walk
numbered_formula-returns-in_ok-right-in-Equal-clause-walk t c =
    let T = c.args.tables.now.task.now in
    let walk = c.args.walk.now in
    c.in_ok-right-in-Equal.ensures.walk
    ∙ (λ i. with_tree T (λ scope. SideUse (c.get-in-Equal.ensures i) scope ∷ []) (c.in_ok-left-in-Equal.ensures.walk i))
    ∙ (λ i. with_tree T (λ scope. SideUse c.in-Equal.right scope ∷ []) (with_tree T (λ scope. SideUse (c.get.ensures i) scope ∷ []) walk))
    ∙ sym (formula-Equal T walk c.in-Equal.left c.in-Equal.right) ∙ (λ i. with_tree T (formula_uses (sym c.in-Equal.is i)) walk)
