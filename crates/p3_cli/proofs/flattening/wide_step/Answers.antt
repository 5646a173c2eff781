use Rattle.std.proofs.Common.{◌≡◌, ◌∙◌, ◌<◌, ◌^◌, ℕ, List, Option, Some, None, ap, sym, subst}
use Rattle.std.specs.Option.{option_copied}
use Rattle.std.specs.Prelude.{unwrap_or}
use Rattle.std.proofs.Math.Bool.{Bool-set}
use Rattle.std.proofs.Math.Logic.{∥∥₁_elim}
use Rattle.p3_base.specs.Copies.{IsNamedFor}
use Rattle.p3_task.specs.Offences.{WellFormed}
use Rattle.p3_task.specs.Plans.{action_named}
use Rattle.p3_task.specs.StepNumbers.{HasNumber}
use Rattle.p3_task.specs.declared.task.Step.{Step}
use Rattle.p3_task.specs.declared.task.Task.{Task}
use Rattle.p3_limits.proofs.ShortNames.{short_names}
use Rattle.p3_types.specs.declared.checked.Checked.{Checked}
use Rattle.p3_cli.specs.Flattening.{IsOfWideStep}
use Rattle.p3_cli.proofs.FlatteningLemmas.{named_short, number_small, refused_by_name, same_step, some_action}
use Rattle.p3_cli.proofs.flattening.wide_step.Goals as goal

-- the step of the number that the name gives
its_step : (T : Task) (name bytes : List ℕ) (of : IsOfWideStep T name) (small : of.number < 2 ^ 32) (found : Option ℕ) (number : ℕ) (step : Step) (one : Checked) → bytes ≡ name
    → ((n : ℕ) → n < 2 ^ 32 → IsNamedFor n bytes → found ≡ Some n) → found ≡ Some number → one.task ≡ T → HasNumber one.task step number → step ≡ of.step
its_step T name bytes of small found number step one spelled owner is same has =
    let owned = owner of.number small (subst (IsNamedFor of.number) (sym spelled) of.named) in
    let number_is : number ≡ of.number = ap (λ o. unwrap_or o number) (sym is ∙ owned) in
    same_step T name of number step number_is (subst (λ U. HasNumber U step number) same has)

-- what the code finds by a name in the task
in_task : {A : Type 0} (T one : Task) (step : Step) (found answer : Option A) (named : Task → Option A) → one ≡ T → found ≡ named one → found ≡ answer → named T ≡ answer
in_task T one step found answer named same is e = ap named (sym same) ∙ sym is ∙ e

pub unreachable-requires-in_default-action_named : goal.unreachable-requires-in_default-action_named
unreachable-requires-in_default-action_named c =
    let T = c.args.whole.now.checked.task in
    let of = c.requires in
    let checked = c.checked-checked in
    let same = ap (λ (one : Checked). one.task) checked.ensures.checked in
    let step = c.in_ok-step.step in
    let is = its_step T c.args.name.now c.bytes.result.now of (number_small T c.args.name.now of checked.ensures.few) c.owning_step.result c.in-Some.number step checked.result.now c.bytes.ensures.bytes
    c.owning_step.ensures.owner c.in-Some.is same c.in_ok-step.ensures in
    some_action T c.args.name.now of (subst WellFormed same c.task.ensures.well_formed) step is
    (in_task T c.task.result.now step (option_copied c.action_named.result) None (λ U. action_named U step.action) (c.task.ensures.task ∙ same) c.action_named.ensures (ap option_copied c.in_default-action_named.is))

pub flat_refusal-requires : goal.flat_refusal-requires
flat_refusal-requires c =
    let T = c.args.whole.now.checked.task in
    let one = c.checked-checked.result.now in
    let same = ap (λ (one : Checked). one.task) c.checked-checked.ensures.checked in
    let step = c.in_ok-step.step in
    let action = c.in-Some-action_named.action.now in
    named_short one.task step.action action (∥∥₁_elim c.task.ensures.texts (Bool-set _ _) (short_names one.side one.task))
    (in_task one.task c.task.result.now step (option_copied c.action_named.result) (Some action) (λ U. action_named U step.action) c.task.ensures.task c.action_named.ensures (ap option_copied c.in-Some-action_named.is))

pub returns : goal.returns
returns c =
    let T = c.args.whole.now.checked.task in
    let of = c.requires in
    let checked = c.checked-checked in
    let same = ap (λ (one : Checked). one.task) checked.ensures.checked in
    let step = c.in_ok-step.step in
    let action = c.in-Some-action_named.action.now in
    let is = its_step T c.args.name.now c.bytes.result.now of (number_small T c.args.name.now of checked.ensures.few) c.owning_step.result c.in-Some.number step checked.result.now c.bytes.ensures.bytes
    c.owning_step.ensures.owner c.in-Some.is same c.in_ok-step.ensures in
    refused_by_name T c.args.name.now of step action c.flat_refusal.result is
    (in_task T c.task.result.now step (option_copied c.action_named.result) (Some action) (λ U. action_named U step.action) (c.task.ensures.task ∙ same) c.action_named.ensures (ap option_copied c.in-Some-action_named.is))
    c.flat_refusal.ensures
