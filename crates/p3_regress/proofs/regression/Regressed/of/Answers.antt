use Rattle.std.proofs.Common.{IfOk, length, ◌<◌, subst, sym}
use Rattle.std.specs.List.Sorted.{IsPermutation}
use Rattle.std.proofs.lemmas.Result.{IfOk-weaker}
use Rattle.p3_formula.specs.Nodes.{form_of}
use Rattle.p3_regress.specs.Memory.{Regression}
use Rattle.p3_regress.specs.Regressed.{IsTrueBefore, HasAtomsOfBoth}
use Rattle.p3_regress.specs.Sorted.{lent}
use Rattle.p3_regress.proofs.MemoryLemmas.{answered_atoms, answered_truth, answered_within}
use Rattle.p3_regress.proofs.regression.Regressed.of.Goals as goal

pub returns-clause-truth : goal.returns-clause-truth
returns-clause-truth c =
    let sorted = lent c.deref.result.now in
    let effects = c.self.inside.effects.now in
    let same : IsPermutation effects sorted = subst (λ changes. IsPermutation effects (lent changes)) (sym c.deref.ensures.value) c.self.invariant.0 in
    let within = subst (λ (all : Regression). c.args.number < length all.table) (sym c.self.view_is) c.requires in
    subst (λ (all : Regression). IfOk c.before-2.result (λ before. IsTrueBefore all.effects (form_of all.table c.args.number) (form_of c.before-2.new.memory.table before))) c.self.view_is
    (IfOk-weaker c.before-2.result _ _ (λ before is. answered_truth effects sorted same c.before-2.ensures.goes_on c.args.number before within is) c.before-2.ensures.answered)

pub returns-clause-atoms : goal.returns-clause-atoms
returns-clause-atoms c =
    let sorted = lent c.deref.result.now in
    let effects = c.self.inside.effects.now in
    let same : IsPermutation effects sorted = subst (λ changes. IsPermutation effects (lent changes)) (sym c.deref.ensures.value) c.self.invariant.0 in
    let within = subst (λ (all : Regression). c.args.number < length all.table) (sym c.self.view_is) c.requires in
    subst (λ (all : Regression). IfOk c.before-2.result (λ before. HasAtomsOfBoth all.effects (form_of all.table c.args.number) (form_of c.before-2.new.memory.table before))) c.self.view_is
    (IfOk-weaker c.before-2.result _ _ (λ before is. answered_atoms effects sorted same c.before-2.ensures.goes_on c.args.number before within is) c.before-2.ensures.answered)

pub returns-clause-within : goal.returns-clause-within
returns-clause-within c = IfOk-weaker c.before-2.result _ _ (λ before is. answered_within c.before-2.ensures.goes_on c.args.number before is) c.before-2.ensures.answered
