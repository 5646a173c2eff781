use Rattle.std.proofs.Common.{◌≡◌, ◌∙◌, ◌+◌, ◌++◌, List, length, Some, None, refl, sym, ap, subst}
use Rattle.std.specs.Option.{option_copied}
use Rattle.p3_base.specs.declared.showing.Reason.{Reason}
use Rattle.p3_formula.specs.declared.task.GroundTask.{GroundTask}
use Rattle.p3_run.specs.Runs.{ground_state}
use Rattle.p3_run.specs.Steps.{IsByNumber}
use Rattle.p3_marks.specs.Marked.{Marked, followed}
use Rattle.p3_marks.specs.Reasons.{pref_reasons}
use Rattle.p3_eval.specs.Judged.{ran_with}
use Rattle.p3_explain.specs.Walked.{IsMarked, kept_of}
use Rattle.p3_explain.proofs.WalkLaws.{bits_after, kept_below, marked_more, sized_after, steps_by_number, still_marked}
use Rattle.p3_explain.proofs.walking.walk_step.Goals as goal

pub kept_step-requires : goal.kept_step-requires
kept_step-requires c = subst (λ (G : GroundTask). IsByNumber G.steps) (sym c.requires.task) (steps_by_number c.args.run.now c.requires.can)

pub returns-in_default-clause-marked : goal.returns-in_default-clause-marked
returns-in_default-clause-marked c =
    let ran = c.args.run.now in
    let found = c.args.found in
    let none : kept_of ran.task found ≡ None = sym (ap (λ (G : GroundTask). kept_of G found) c.requires.task) ∙ sym c.kept_step.ensures ∙ ap option_copied c.in_default.is in
    λ fits. still_marked ran c.args.marks.now c.args.prefs.now c.requires.marked found none c.follow.new.self (c.follow.ensures.ran ∙ ap (λ fault. ran_with ran found fault) fits)

pub look-requires-clause-below : goal.look-requires-clause-below
look-requires-clause-below c =
    let ran = c.args.run.now in
    let found = c.args.found in
    let step = c.in-Some.step.now in
    let kept : kept_of ran.task found ≡ Some step = sym (c.in-Some.ensures ∙ ap (λ (G : GroundTask). kept_of G found) c.requires.task) in
    kept_below ran c.requires.can found step kept

pub mark-requires-clause-bits : goal.mark-requires-clause-bits
mark-requires-clause-bits c =
    bits_after c.args.run.now c.requires.can c.args.found c.follow-2.result c.follow-2.new.self c.follow-2.ensures.ran ∙ ap (λ (G : GroundTask). G.atoms) (sym c.requires.task)

pub mark-requires-clause-sized : goal.mark-requires-clause-sized
mark-requires-clause-sized c =
    let ran = c.args.run.now in
    let found = c.args.found in
    let step = c.in-Some.step.now in
    let new = c.follow-2.new.self in
    let kept : kept_of ran.task found ≡ Some step = sym (c.in-Some.ensures ∙ ap (λ (G : GroundTask). kept_of G found) c.requires.task) in
    sized_after ran c.requires.can found step kept (length (ground_state new.task new.plan)) (bits_after ran c.requires.can found c.follow-2.result new c.follow-2.ensures.ran)

pub returns-in-None-clause-marked : goal.returns-in-None-clause-marked
returns-in-None-clause-marked c =
    let ran = c.args.run.now in
    let found = c.args.found in
    let step = c.in-Some.step.now in
    let new = c.follow-2.new.self in
    let later = ground_state new.task new.plan in
    let marks = c.args.marks.now in
    let prefs = c.args.prefs.now in
    let kept : kept_of ran.task found ≡ Some step = sym (c.in-Some.ensures ∙ ap (λ (G : GroundTask). kept_of G found) c.requires.task) in
    let marks_are : c.mark.new.marks ≡ followed ran.task (length new.plan) later step.effects marks = c.mark.ensures ∙ ap (λ (G : GroundTask). followed G (length new.plan) later step.effects marks) c.requires.task in
    let prefs_are : c.look.new.prefs ≡ prefs ++ pref_reasons (ground_state ran.task ran.plan) (length ran.plan + 1) step.prefs = c.in_ok-look.ensures in
    λ fits.
    subst (λ (m : Marked). IsMarked new m c.look.new.prefs) (sym marks_are)
    (subst (λ (list : List Reason). IsMarked new (followed ran.task (length new.plan) later step.effects marks) list) (sym prefs_are)
    (marked_more ran marks prefs c.requires.marked found step kept new c.in-None.ensures.ran later refl (length new.plan) refl))
