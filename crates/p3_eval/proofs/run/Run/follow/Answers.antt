use Rattle.std.proofs.Common.{◌+◌, ap, sym, subst, Option, Some}
use Rattle.p3_types.specs.declared.finding.Found.{Found}
use Rattle.p3_types.specs.declared.finding.Found.TheVariants.{Number}
use Rattle.p3_eval.specs.Judged.{NamesMisfitOfFound, TellsOfFound}
use Rattle.p3_eval.specs.declared.fault.FaultKind.TheVariants as kind
use Rattle.p3_eval.specs.declared.fault.PlanFault.{PlanFault}
use Rattle.p3_eval.proofs.JudgeLaws.{names_of_arguments, names_of_number, names_of_unknown, tells_of_arguments, tells_of_number, tells_of_unknown}
use Rattle.p3_eval.proofs.run.Run.follow.Goals as goal

pub returns-in-Number-clause-told : goal.returns-in-Number-clause-told
returns-in-Number-clause-told c =
    let ran = c.args.self.now in
    let place = ap (λ n. n + 1) c.steps-step.ensures.count in
    let told = tells_of_number ran (c.steps-step.result + 1) place c.in-Number.number c.step.result c.step.ensures.misfit c.step.ensures.fault in
    subst (λ (found : Found). TellsOfFound ran found c.fault_of.result) (sym c.in-Number.is)
    (subst (λ (fault : Option PlanFault). TellsOfFound ran (Number c.in-Number.number) fault) (sym c.fault_of.ensures.told) told)

pub returns-in-UnknownAction-clause-told : goal.returns-in-UnknownAction-clause-told
returns-in-UnknownAction-clause-told c =
    let place = c.steps-step.result + 1 in
    subst (λ (found : Found). TellsOfFound c.args.self.now found (Some (record { step = place; kind = kind.UnknownAction }))) (sym c.in-UnknownAction.is)
    (tells_of_unknown c.args.self.now place (ap (λ n. n + 1) c.steps-step.ensures.count) c.steps-step.ensures.fit)

pub returns-in-Arguments-clause-told : goal.returns-in-Arguments-clause-told
returns-in-Arguments-clause-told c =
    let place = c.steps-step.result + 1 in
    subst (λ (found : Found). TellsOfFound c.args.self.now found (Some (record { step = place; kind = kind.Arguments }))) (sym c.in-Arguments.is)
    (tells_of_arguments c.args.self.now place (ap (λ n. n + 1) c.steps-step.ensures.count) c.steps-step.ensures.fit)

pub returns-in-Number-clause-misfit : goal.returns-in-Number-clause-misfit
returns-in-Number-clause-misfit c =
    let ran = c.args.self.now in
    let place = ap (λ n. n + 1) c.steps-step.ensures.count in
    let named = names_of_number ran (c.steps-step.result + 1) place c.in-Number.number c.step.result c.step.ensures.misfit in
    subst (λ (found : Found). NamesMisfitOfFound ran found c.fault_of.result) (sym c.in-Number.is)
    (subst (λ (fault : Option PlanFault). NamesMisfitOfFound ran (Number c.in-Number.number) fault) (sym c.fault_of.ensures.told) named)

pub returns-in-UnknownAction-clause-misfit : goal.returns-in-UnknownAction-clause-misfit
returns-in-UnknownAction-clause-misfit c =
    let place = c.steps-step.result + 1 in
    subst (λ (found : Found). NamesMisfitOfFound c.args.self.now found (Some (record { step = place; kind = kind.UnknownAction }))) (sym c.in-UnknownAction.is)
    (names_of_unknown c.args.self.now place (ap (λ n. n + 1) c.steps-step.ensures.count))

pub returns-in-Arguments-clause-misfit : goal.returns-in-Arguments-clause-misfit
returns-in-Arguments-clause-misfit c =
    let place = c.steps-step.result + 1 in
    subst (λ (found : Found). NamesMisfitOfFound c.args.self.now found (Some (record { step = place; kind = kind.Arguments }))) (sym c.in-Arguments.is)
    (names_of_arguments c.args.self.now place (ap (λ n. n + 1) c.steps-step.ensures.count))
