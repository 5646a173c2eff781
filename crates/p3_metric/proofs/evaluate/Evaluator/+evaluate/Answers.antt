use Rattle.std.proofs.Common.{rules, ◌≡◌, ◌∙◌, ◌+◌, ◌++◌, ◌∷◌, [], List, ap, sym, subst, take, drop, suc}
use Rattle.std.proofs.lemmas.List.{take_all, take_more}
use Rattle.std.proofs.lemmas.Result.{err_from_is_err_and, IfOk-weaker}
use Rattle.p3_task.specs.Refusals.Metric.{operations}
use Rattle.p3_task.specs.declared.metric.Num.{Num}
use Rattle.p3_task.specs.declared.metric.Num.TheVariants as num
use Rattle.p3_task.specs.declared.metric.Num.TheViews.{the_lemmas}
use Rattle.p3_metric.specs.Evaluation.{IsEvaluated, IsFailure, IsFit, IsPartial}
use Rattle.p3_metric.specs.declared.error.MetricFail.{MetricFail}
use Rattle.p3_metric.specs.declared.error.MetricFail.TheVariants.{Refused}
use Rattle.p3_metric.specs.declared.linear.Linear.{Linear}
use Rattle.p3_metric.proofs.FitLemmas.{fit_negated, fit_first, fit_second, fit_term, fit_factor}
use Rattle.p3_metric.proofs.WordLaws.{refused-Neg, refused-Sum, refused-Product}
use Rattle.p3_metric.proofs.StepLemmas.{accepted_form, accepted_fails, split_at, negation_evaluated, negation_fails, negation_part_fails, first_fails, second_fails, sum_begun, sum_ended, term_fails, sum_step, sum_fails, product_begun, product_ended, factor_fails, factors_fit, mentions_apart, product_step, product_fails}
use Rattle.p3_metric.proofs.evaluate.Evaluator.+evaluate.Goals as goal

-- ---- negations

pub negation-evaluate-requires : goal.negation-evaluate-requires
negation-evaluate-requires t c = (search (rules, the_lemmas), fit_negated c.args.self.now.task.now c.args.at c.args.part.now c.requires)

pub negation-returns-in_err-form-clause-fails : goal.negation-returns-in_err-form-clause-fails
negation-returns-in_err-form-clause-fails t c =
    let p = err_from_is_err_and c.from_residual.result c.from_residual.ensures.1 in
    rw (p.1, p.2) (negation_part_fails c.args.self.now.task.now c.args.at c.args.part.now c.args.self.now.role c.in_err-form.field-0.0 c.in_err-form.ensures.fails)

pub negation-returns-clause-form : goal.negation-returns-clause-form
negation-returns-clause-form t c =
    let m = c.in_ok-measured.measured in
    accepted_form c.accepted.result (IsEvaluated c.args.self.now.task.now (num.Neg c.args.at c.args.part.now)) m.form m.small c.accepted.ensures.form c.accepted.ensures.small
    (λ e. negation_evaluated c.args.self.now.task.now c.args.at c.args.part.now c.in_ok-form.form m.form c.in_ok-measured.ensures.scaled c.in_ok-measured.ensures.mention c.in_ok-form.ensures.form (c.in_ok-measured.ensures.small e))

pub negation-returns-clause-fails : goal.negation-returns-clause-fails
negation-returns-clause-fails t c =
    let m = c.in_ok-measured.measured in
    accepted_fails c.accepted.result (IsFailure c.args.self.now.task.now c.args.self.now.role (operations (num.Neg c.args.at c.args.part.now))) c.too_large.result _ m.small c.accepted.ensures.refusal c.accepted.ensures.large
    (c.too_large.ensures ∙ sym (refused-Neg c.args.self.now.role c.args.at c.args.part.now))
    (λ e. negation_fails c.args.self.now.task.now c.args.at c.args.part.now c.in_ok-form.form m.form c.in_ok-measured.ensures.scaled c.in_ok-measured.ensures.mention c.args.self.now.role c.in_ok-form.ensures.form (c.in_ok-measured.ensures.large e))

-- ---- differences

pub difference-evaluate-requires : goal.difference-evaluate-requires
difference-evaluate-requires t c = (search (rules, the_lemmas), c.requires.fit)

pub difference-returns-clause-fails : goal.difference-returns-clause-fails
difference-returns-clause-fails t c = λ first is. second_fails c.args.self.now.task.now c.args.at first c.args.second.now c.args.self.now.role c.in-Err.fail is.fine c.in-Err.ensures.fails

pub difference-returns-in-Ok-clause-form : goal.difference-returns-in-Ok-clause-form
difference-returns-in-Ok-clause-form t c = IfOk-weaker c.subtracted.result _ _ (λ form more first is. more first c.args.second.now is c.in-Ok.ensures.form) c.subtracted.ensures.form

pub evaluate-evaluate-requires : goal.evaluate-evaluate-requires
evaluate-evaluate-requires t c =
    let P : Num → Type 0 = IsFit c.args.self.now.task.now in
    (search (rules, the_lemmas), subst P (sym c.get-in-Sub.ensures) (fit_first c.args.self.now.task.now c.in-Sub.at c.in-Sub.first c.in-Sub.second (subst P c.in-Sub.is c.requires)))

pub evaluate-difference-requires : goal.evaluate-difference-requires
evaluate-difference-requires t c =
    let P : Num → Type 0 = IsFit c.args.self.now.task.now in
    let fit : P c.get-in-Ok.result.now = subst P (sym c.get-in-Ok.ensures) (fit_second c.args.self.now.task.now c.in-Sub.at c.in-Sub.first c.in-Sub.second (subst P c.in-Sub.is c.requires)) in
    (search (rules, the_lemmas), (c.in-Ok.ensures.form.bounded, fit))

pub evaluate-returns-in-Err-clause-fails : goal.evaluate-returns-in-Err-clause-fails
evaluate-returns-in-Err-clause-fails t c =
    let first = c.get-in-Sub.result.now in
    let whole : c.args.tree.now ≡ num.Sub c.in-Sub.at first c.in-Sub.second = c.in-Sub.is ∙ ap (λ tree. num.Sub c.in-Sub.at tree c.in-Sub.second) (sym c.get-in-Sub.ensures) in
    let P : Num → Type 0 = λ tree. IsFailure c.args.self.now.task.now c.args.self.now.role (operations tree) c.in-Err.fail in
    subst P (sym whole) (first_fails c.args.self.now.task.now c.in-Sub.at first c.in-Sub.second c.args.self.now.role c.in-Err.fail c.in-Err.ensures.fails)

-- ---- sums

pub sum-loop-part-init : goal.sum-loop-part-init
sum-loop-part-init t c = sum_begun c.args.self.now.task.now c.args.at c.constant-sum.result c.constant-sum.ensures

pub sum-evaluate-requires : goal.sum-evaluate-requires
sum-evaluate-requires t c =
    let parts = c.args.parts.now in let i = c.loop-part.part-index in let part = c.part-item.result in
    (search (rules, the_lemmas), fit_term c.args.self.now.task.now c.args.at parts (take i parts) part (drop (suc i) parts) (split_at parts i part c.loop-part-test.true c.part-item.is) c.requires)

pub sum-returns-in_err-form-clause-fails : goal.sum-returns-in_err-form-clause-fails
sum-returns-in_err-form-clause-fails t c =
    let parts = c.args.parts.now in let i = c.loop-part.part-index in let part = c.part-item.result in
    let p = err_from_is_err_and c.from_residual.result c.from_residual.ensures.1 in
    rw (p.1, p.2) (term_fails c.args.self.now.task.now c.args.at (take i parts) part c.loop-part.sum c.loop-part.invariant c.args.self.now.role parts (drop (suc i) parts) c.in_err-form.field-0.0 (split_at parts i part c.loop-part-test.true c.part-item.is) c.in_err-form.ensures.fails)

pub sum-returns-in_err-sum-clause-fails : goal.sum-returns-in_err-sum-clause-fails
sum-returns-in_err-sum-clause-fails t c =
    let parts = c.args.parts.now in let i = c.loop-part.part-index in let part = c.part-item.result in
    let p = err_from_is_err_and c.from_residual-in_err-sum.result c.from_residual-in_err-sum.ensures.1 in
    let Q : MetricFail → Type 0 = IsFailure c.args.self.now.task.now c.args.self.now.role (operations (num.Sum c.args.at parts)) in
    rw (p.1, p.2) (subst Q (sym (c.in_err-sum.ensures.refusal ∙ ap Refused (c.too_large.ensures ∙ sym (refused-Sum c.args.self.now.role c.args.at parts))))
    (sum_fails c.args.self.now.task.now c.args.at (take i parts) part c.loop-part.sum c.loop-part.invariant c.in_ok-form.form c.in_ok-measured.measured.form c.in_ok-form.ensures.form c.in_ok-measured.ensures.sum c.in_ok-measured.ensures.mention
    c.args.self.now.role parts (drop (suc i) parts) (split_at parts i part c.loop-part-test.true c.part-item.is) (c.in_ok-measured.ensures.large c.in_err-sum.ensures.large)))

pub sum-loop-part-preserved : goal.sum-loop-part-preserved
sum-loop-part-preserved t c =
    let parts = c.args.parts.now in let i = c.loop-part.part-index in let part = c.part-item.result in
    let T = c.args.self.now.task.now in
    let more : take (i + 1) parts ≡ take i parts ++ part ∷ [] = take_more parts i part c.loop-part-test.true ∙ ap (λ x. take i parts ++ x ∷ []) (sym c.part-item.is) in
    let P : List Num → Linear → Type 0 = IsPartial T (num.Sum c.args.at) in
    subst (λ l. P l c.in_ok-sum.sum) (sym more) (subst (P (take i parts ++ part ∷ [])) (sym c.in_ok-sum.ensures.form)
    (sum_step T c.args.at (take i parts) part c.loop-part.sum c.loop-part.invariant c.in_ok-form.form c.in_ok-measured.measured.form c.in_ok-form.ensures.form c.in_ok-measured.ensures.sum c.in_ok-measured.ensures.mention (c.in_ok-measured.ensures.small c.in_ok-sum.ensures.small)))

pub sum-returns-clause-form : goal.sum-returns-clause-form
sum-returns-clause-form t c =
    let P : List Num → Type 0 = λ l. IsPartial c.args.self.now.task.now (num.Sum c.args.at) l c.loop-part.sum in
    sum_ended c.args.self.now.task.now c.args.at c.args.parts.now c.loop-part.sum (subst P (take_all c.loop-part.part-index c.args.parts.now c.loop-part-test.false) c.loop-part.invariant)

-- ---- products

pub product-loop-part-init : goal.product-loop-part-init
product-loop-part-init t c = product_begun c.args.self.now.task.now c.args.at c.constant-done.result c.constant-done.ensures

pub product-evaluate-requires : goal.product-evaluate-requires
product-evaluate-requires t c =
    let parts = c.args.parts.now in let i = c.loop-part.part-index in let part = c.part-item.result in
    (search (rules, the_lemmas), fit_factor c.args.self.now.task.now c.args.at parts (take i parts) part (drop (suc i) parts) (split_at parts i part c.loop-part-test.true c.part-item.is) c.requires)

pub product-returns-in_err-form-clause-fails : goal.product-returns-in_err-form-clause-fails
product-returns-in_err-form-clause-fails t c =
    let parts = c.args.parts.now in let i = c.loop-part.part-index in let part = c.part-item.result in
    let p = err_from_is_err_and c.from_residual.result c.from_residual.ensures.1 in
    rw (p.1, p.2) (factor_fails c.args.self.now.task.now c.args.at (take i parts) part c.loop-part.done c.loop-part.invariant c.args.self.now.role parts (drop (suc i) parts) c.in_err-form.field-0.0 (split_at parts i part c.loop-part-test.true c.part-item.is) c.in_err-form.ensures.fails)

pub product-product-requires-clause-places : goal.product-product-requires-clause-places
product-product-requires-clause-places t c =
    let parts = c.args.parts.now in let i = c.loop-part.part-index in let part = c.part-item.result in
    factors_fit c.args.self.now.task.now c.args.at (take i parts) part c.loop-part.done c.loop-part.invariant c.in_ok-form.form c.in_ok-form.form c.in_ok-form.ensures.form parts (drop (suc i) parts) (split_at parts i part c.loop-part-test.true c.part-item.is) c.requires

pub product-product-requires-clause-apart : goal.product-product-requires-clause-apart
product-product-requires-clause-apart t c =
    let parts = c.args.parts.now in let i = c.loop-part.part-index in let part = c.part-item.result in
    mentions_apart c.args.self.now.task.now c.args.at (take i parts) part c.loop-part.done c.loop-part.invariant c.in_ok-form.form c.in_ok-form.form c.in_ok-form.ensures.form parts (drop (suc i) parts) (split_at parts i part c.loop-part-test.true c.part-item.is) c.requires

pub product-returns-in_err-done-clause-fails : goal.product-returns-in_err-done-clause-fails
product-returns-in_err-done-clause-fails t c =
    let parts = c.args.parts.now in let i = c.loop-part.part-index in let part = c.part-item.result in
    let p = err_from_is_err_and c.from_residual-in_err-done.result c.from_residual-in_err-done.ensures.1 in
    let Q : MetricFail → Type 0 = IsFailure c.args.self.now.task.now c.args.self.now.role (operations (num.Product c.args.at parts)) in
    rw (p.1, p.2) (subst Q (sym (c.in_err-done.ensures.refusal ∙ ap Refused (c.too_large.ensures ∙ sym (refused-Product c.args.self.now.role c.args.at parts))))
    (product_fails c.args.self.now.task.now c.args.at (take i parts) part c.loop-part.done c.loop-part.invariant c.in_ok-form.form c.in_ok-measured.measured.form c.in_ok-form.ensures.form
    c.args.self.now.role parts (drop (suc i) parts) (split_at parts i part c.loop-part-test.true c.part-item.is) c.in_ok-measured.ensures.product c.in_ok-measured.ensures.mention (c.in_ok-measured.ensures.large c.in_err-done.ensures.large)))

pub product-loop-part-preserved : goal.product-loop-part-preserved
product-loop-part-preserved t c =
    let parts = c.args.parts.now in let i = c.loop-part.part-index in let part = c.part-item.result in
    let T = c.args.self.now.task.now in
    let more : take (i + 1) parts ≡ take i parts ++ part ∷ [] = take_more parts i part c.loop-part-test.true ∙ ap (λ x. take i parts ++ x ∷ []) (sym c.part-item.is) in
    let few = factors_fit T c.args.at (take i parts) part c.loop-part.done c.loop-part.invariant c.in_ok-form.form c.in_ok-form.form c.in_ok-form.ensures.form parts (drop (suc i) parts) (split_at parts i part c.loop-part-test.true c.part-item.is) c.requires in
    let P : List Num → Linear → Type 0 = IsPartial T (num.Product c.args.at) in
    subst (λ l. P l c.in_ok-done.done) (sym more) (subst (P (take i parts ++ part ∷ [])) (sym c.in_ok-done.ensures.form)
    (product_step T c.args.at (take i parts) part c.loop-part.done c.loop-part.invariant c.in_ok-form.form c.in_ok-measured.measured.form c.in_ok-form.ensures.form few c.in_ok-measured.ensures.product c.in_ok-measured.ensures.mention (c.in_ok-measured.ensures.small c.in_ok-done.ensures.small)))

pub product-returns-clause-form : goal.product-returns-clause-form
product-returns-clause-form t c =
    let P : List Num → Type 0 = λ l. IsPartial c.args.self.now.task.now (num.Product c.args.at) l c.loop-part.done in
    product_ended c.args.self.now.task.now c.args.at c.args.parts.now c.loop-part.done (subst P (take_all c.loop-part.part-index c.args.parts.now c.loop-part-test.false) c.loop-part.invariant)
