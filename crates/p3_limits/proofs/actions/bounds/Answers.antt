use Rattle.std.proofs.Common.{◌≡◌, ◌∙◌, ap, sym, subst}
use Rattle.std.proofs.Math.Bool.{Bool-set}
use Rattle.std.proofs.Math.Logic.{∥∥₁_elim}
use Rattle.p3_numbers.specs.declared.task.NumberedTask.{NumberedTask}
use Rattle.p3_task.specs.Sides.{InDomain, role_of}
use Rattle.p3_task.specs.declared.task.Task.{Task}
use Rattle.p3_limits.specs.Bounds.{HaveShortNames, first_past}
use Rattle.p3_limits.specs.declared.measure.Measure.TheVariants.{Cost, Width}
use Rattle.p3_limits.proofs.ActionLaws.{some_past, none_past}
use Rattle.p3_limits.proofs.ShortNames.{have_short_names, short_names}
use Rattle.p3_limits.proofs.actions.bounds.Goals as goal

pub first_past-requires : goal.first_past-requires
first_past-requires c =
    let self = c.args.task.now in
    let actions = c.items-actions.ensures ∙ ap (λ (T : Task). T.domain.actions) c.task.ensures.task in
    subst HaveShortNames (sym actions) (have_short_names self.task.domain.actions (∥∥₁_elim c.task.ensures.texts (Bool-set _ _) (short_names self.side self.task)))

pub first_past-requires-in-None : goal.first_past-requires-in-None
first_past-requires-in-None c =
    let self = c.args.task.now in
    let actions = c.items-actions.ensures ∙ ap (λ (T : Task). T.domain.actions) c.task.ensures.task in
    subst HaveShortNames (sym actions) (have_short_names self.task.domain.actions (∥∥₁_elim c.task.ensures.texts (Bool-set _ _) (short_names self.side self.task)))

pub returns-in-Some : goal.returns-in-Some
returns-in-Some c =
    let self = c.args.task.now in
    let w = c.args.weights.now in
    let actions : c.items-actions.result.now ≡ self.task.domain.actions = c.items-actions.ensures ∙ ap (λ (T : Task). T.domain.actions) c.task.ensures.task in
    let numbered : c.items-numbered.result.now ≡ self.numbered.actions = c.items-numbered.ensures ∙ ap (λ (X : NumberedTask). X.actions) c.numbered.ensures.task in
    some_past self.side self.task self.numbered c.numbered.ensures.numbered c.task.ensures.well_formed w c.requires.weights c.in-Some.refusal
    (sym (c.first_past.ensures ∙ (λ i. first_past self.task self.numbered.numbers w Cost (role_of self.side InDomain) (actions i) (numbered i))) ∙ c.in-Some.is)

pub returns-in-None : goal.returns-in-None
returns-in-None c =
    let self = c.args.task.now in
    let w = c.args.weights.now in
    let actions : c.items-actions.result.now ≡ self.task.domain.actions = c.items-actions.ensures ∙ ap (λ (T : Task). T.domain.actions) c.task.ensures.task in
    let numbered : c.items-numbered.result.now ≡ self.numbered.actions = c.items-numbered.ensures ∙ ap (λ (X : NumberedTask). X.actions) c.numbered.ensures.task in
    c.first_past-in-None.ensures ∙ (λ i. first_past self.task self.numbered.numbers w Width (role_of self.side InDomain) (actions i) (numbered i))
    ∙ none_past self.side self.task self.numbered c.numbered.ensures.numbered c.task.ensures.well_formed w c.requires.weights
    (sym (c.first_past.ensures ∙ (λ i. first_past self.task self.numbered.numbers w Cost (role_of self.side InDomain) (actions i) (numbered i))) ∙ c.in-None.is)
