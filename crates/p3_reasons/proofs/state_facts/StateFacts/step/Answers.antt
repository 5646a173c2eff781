use Rattle.std.proofs.Common.{◌≡◌, ◌∙◌, ℕ, List, Some, None, slice_get, sym, ap, subst}
use Rattle.std.specs.Prelude.{OnOk}
use Rattle.std.specs.Option.{option_copied}
use Rattle.p3_reasons.specs.Effects.{changed, taken, truth_of}
use Rattle.p3_reasons.specs.Visits.{action_test}
use Rattle.p3_reasons.proofs.state_facts.StateFacts.step.Goals as goal

pub returns-in-Some : goal.returns-in-Some
returns-in-Some c =
    let X = c.args.task.now in
    let old = truth_of c.args.self.now in
    let told : OnOk c.follow.result ((atom : List ℕ) → truth_of c.follow.new.self atom ≡ changed old (taken X.numbers old c.args.step.now.objects c.in-Some.action.now.effect) atom) =
    subst (λ objects. OnOk c.follow.result ((atom : List ℕ) → truth_of c.follow.new.self atom ≡ changed old (taken X.numbers old objects c.in-Some.action.now.effect) atom)) c.items.ensures c.follow.ensures
    in
    subst (λ entry. OnOk c.follow.result ((atom : List ℕ) → truth_of c.follow.new.self atom ≡ action_test X old c.args.step.now entry atom)) (sym (ap option_copied c.in-Some.is) ∙ c.get.ensures.value) told

pub returns-in-None : goal.returns-in-None
returns-in-None c =
    let X = c.args.task.now in
    let old = truth_of c.args.self.now in
    λ atom. ap (λ entry. action_test X old c.args.step.now entry atom) (sym (ap option_copied c.in-None.is) ∙ c.get.ensures.value)
