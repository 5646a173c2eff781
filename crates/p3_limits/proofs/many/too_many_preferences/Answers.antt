use Rattle.std.proofs.Common.{◌∙◌, sym, arith}
use Rattle.std.specs.Option.{option_map}
use Rattle.p3_base.specs.declared.refusal.Code.TheVariants.{TooManyPreferences}
use Rattle.p3_task.specs.Refusals.Places.{refusal_at}
use Rattle.p3_task.specs.Sides.{InDomain, InProblem, instance_limit}
use Rattle.p3_limits.specs.Excess.{many_at, problem_offsets}
use Rattle.p3_limits.specs.Preferences.{constraint_offsets}
use Rattle.p3_limits.proofs.SizeFindLemmas.{made-here, made-behind}
use Rattle.p3_limits.proofs.PreferenceLaws.{constraint-counted}
use Rattle.p3_limits.proofs.many.too_many_preferences.Goals as goal

pub returns-in-None : goal.returns-in-None
returns-in-None c =
    let X = c.args.numbered.now in
    let side = c.args.side in
    c.preference_at.ensures ∙ (λ i. option_map (λ at. refusal_at TooManyPreferences (c.domain_role.ensures i) at 10) (c.constraint_offset-at.ensures i))
    ∙ sym (made-here (many_at side InDomain) (many_at side InProblem) (constraint_offsets X.numbers X.domain_constraints) (problem_offsets X) c.constraint_count.result instance_limit (omega arith)
    (c.constraint_count.ensures ∙ constraint-counted X.numbers X.domain_constraints) (sym c.place_behind.ensures ∙ c.in-None.is))

pub returns-in-Some : goal.returns-in-Some
returns-in-Some c =
    let X = c.args.numbered.now in
    let side = c.args.side in
    c.preference_at-in-Some.ensures ∙ (λ i. option_map (λ at. refusal_at TooManyPreferences (c.problem_role.ensures i) at 10) (c.problem_offset.ensures i))
    ∙ sym (made-behind (many_at side InDomain) (many_at side InProblem) (constraint_offsets X.numbers X.domain_constraints) (problem_offsets X) c.constraint_count.result instance_limit (omega arith)
    (c.constraint_count.ensures ∙ constraint-counted X.numbers X.domain_constraints) c.in-Some.left (sym c.place_behind.ensures ∙ c.in-Some.is))
