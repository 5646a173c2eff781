use Rattle.std.proofs.Common.{◌∙◌, ap, sym}
use Rattle.std.specs.Prelude.{option_map}
use Rattle.p3_numbers.specs.declared.task.NumberedTask.{NumberedTask}
use Rattle.p3_task.specs.FirstOffence.{first_offence}
use Rattle.p3_task.specs.Refusals.First.{refusal_of}
use Rattle.p3_resolve.specs.NumbersOf.{numbers_of}
use Rattle.p3_resolve.specs.Order.{in_order}
use Rattle.p3_resolve.proofs.AnswerLemmas.{resolved-from}
use Rattle.p3_resolve.proofs.OrderLemmas.{first-found}
use Rattle.p3_resolve.proofs.resolving.resolve.Goals as goal

pub returns-in-Some : goal.returns-in-Some
returns-in-Some c =
    let side = c.args.side in
    (λ i. option_map (refusal_of side) (first_offence (sym c.in_ok-tables.ensures.task i)))
    ∙ sym (c.in_ok-first.ensures ∙ (λ i. in_order side (c.in_ok-trees.ensures.domain_found i) (c.in_ok-trees.ensures.problem_found i)) ∙ first-found side c.in_ok-tables.tables.task.now) ∙ c.in-Some.is

pub returns-in_ok-made-in-None : goal.returns-in_ok-made-in-None
returns-in_ok-made-in-None c =
    let side = c.args.side in
    let tables = c.in_ok-tables.tables in
    let made = c.in_ok-made-in-None.ensures in
    resolved-from side tables c.in_ok-made-in-None.made c.args.task.now c.in_ok-tables.ensures.task c.in_ok-tables.ensures.types c.in_ok-tables.ensures.ranges
    (sym c.in-None.is ∙ c.in_ok-first.ensures ∙ (λ i. in_order side (c.in_ok-trees.ensures.domain_found i) (c.in_ok-trees.ensures.problem_found i)) ∙ first-found side tables.task.now)
    (ap (λ (X : NumberedTask). X.numbers) made ∙ ap numbers_of c.into_inner.ensures) (ap (λ (X : NumberedTask). X.actions) made ∙ c.in_ok-trees.ensures.actions)
    (ap (λ (X : NumberedTask). X.domain_constraints) made ∙ c.in_ok-trees.ensures.domain) (ap (λ (X : NumberedTask). X.problem_constraints) made ∙ c.in_ok-trees.ensures.problem)
    (ap (λ (X : NumberedTask). X.goal) made ∙ c.in_ok-trees.ensures.goal) (ap (λ (X : NumberedTask). X.start) made ∙ c.in_ok-trees.ensures.facts)
    (ap (λ (X : NumberedTask). X.values) made ∙ c.in_ok-trees.ensures.values)
