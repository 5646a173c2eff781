use Rattle.std.proofs.Common.{◌||◌, not, subst}
use Rattle.std.specs.List.{list_all}
use Rattle.std.proofs.lemmas.Result.{on_ok_weaker}
use Rattle.p3_formula.specs.Forms.{is_set}
use Rattle.p3_reach.specs.Closed.{change_keeps}
use Rattle.p3_reach.specs.Models.{Says}
use Rattle.p3_reach.proofs.LeadLaws.{says_step}
use Rattle.p3_reach.proofs.leading.lead_step.Goals as goal

pub returns : goal.returns
returns c =
    let step = c.args.step.now in
    on_ok_weaker c.lead_changes.result (λ changes. says_step c.args.given c.in_ok-fits.fits step c.args.theory.now c.proposition.new.self c.lead.new.theory c.lead_changes.new.theory
    c.requires.given c.requires.below c.in_ok-fits.ensures.number c.in_ok-fits.ensures.atoms c.in_ok-fits.ensures.facts c.in_ok-fits.ensures.rules c.in_ok-lead.ensures
    (subst (λ list. Says (λ set. not (is_set set c.in_ok-fits.fits) || list_all (change_keeps set) list) c.lead.new.theory c.lead_changes.new.theory) c.items.ensures changes))
    c.lead_changes.ensures
