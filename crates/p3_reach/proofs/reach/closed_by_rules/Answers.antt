use Rattle.std.proofs.Common.{◌||◌, not, sym, subst}
use Rattle.std.specs.List.{list_all}
use Rattle.std.proofs.lemmas.Result.{IfOk-weaker}
use Rattle.p3_formula.specs.Forms.{is_set}
use Rattle.p3_reach.specs.Closed.{IsClosed, IsWithin, step_keeps}
use Rattle.p3_reach.specs.Models.{Says}
use Rattle.p3_reach.proofs.ReachLaws.{closed_front, least_front}
use Rattle.p3_reach.proofs.reach.closed_by_rules.Goals as goal

pub returns-clause-closed : goal.returns-clause-closed
returns-clause-closed c =
    let G = c.args.task.now in
    let said = subst (λ steps. Says (λ set. not (is_set set G.atoms) || list_all (step_keeps set) steps) c.in_ok-theory.theory c.lead_steps.new.theory) c.items.ensures c.in_ok-lead_steps.ensures in
    IfOk-weaker c.first_bits-2.result _ (IsClosed G) (λ atoms is. subst (IsClosed G) (sym is)
    (closed_front G c.in_ok-theory.theory c.lead_steps.new.theory c.in_ok-least_model.field-0 c.requires.bits c.requires.atoms.steps c.in_ok-theory.ensures.facts c.in_ok-theory.ensures.rules said c.in_ok-least_model.ensures.size
    c.in_ok-least_model.ensures.model)) c.first_bits-2.ensures

pub returns-clause-least : goal.returns-clause-least
returns-clause-least c =
    let G = c.args.task.now in
    let said = subst (λ steps. Says (λ set. not (is_set set G.atoms) || list_all (step_keeps set) steps) c.in_ok-theory.theory c.lead_steps.new.theory) c.items.ensures c.in_ok-lead_steps.ensures in
    IfOk-weaker c.first_bits-2.result _ _ (λ atoms is other closed. subst (λ list. IsWithin list other) (sym is)
    (least_front G c.in_ok-theory.theory c.lead_steps.new.theory c.in_ok-least_model.field-0 c.requires.bits c.requires.atoms.steps c.in_ok-theory.ensures.facts c.in_ok-theory.ensures.rules said c.in_ok-least_model.ensures.size
    c.in_ok-least_model.ensures.least other closed)) c.first_bits-2.ensures
