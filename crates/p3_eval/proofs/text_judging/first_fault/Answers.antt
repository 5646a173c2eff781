use Rattle.std.proofs.Common.{◌∙◌, refl, ap, sym, subst}
use Rattle.p3_plans.specs.Steps.{Left, left}
use Rattle.p3_eval.specs.Judging.{Follows}
use Rattle.p3_eval.proofs.JudgeLemmas.{all_done, fault_behind, fault_here, follows_first, follows_more, has_room, has_step, not_refused}
use Rattle.p3_eval.proofs.text_judging.first_fault.Goals as goal

pub loop-slice-init : goal.loop-slice-init
loop-slice-init c = record {
  source = ap (λ r. r.source) c.new-reader.ensures.starts;
  of = c.requires.of;
  follows = subst (λ r. Follows c.args.checked.now.task c.args.text.now c.args.run.now.plan (left r)) (sym c.new-reader.ensures.starts)
      (follows_first c.args.checked.now.task c.args.text.now c.requires.free c.args.run.now.plan c.requires.begins);
}

pub step_fault-requires-clause-room : goal.step_fault-requires-clause-room
step_fault-requires-clause-room c =
    has_room c.args.checked.now.task c.args.text.now c.requires.free c.loop-slice.run.plan (record { at = c.in-Step.slice.offset; text = c.in-Step.slice.text.now }) (left c.next.new.self)
    (subst (Follows c.args.checked.now.task c.args.text.now c.loop-slice.run.plan) c.in-Step.ensures.steps c.loop-slice.invariant.follows)

pub step_fault-requires-clause-spelled : goal.step_fault-requires-clause-spelled
step_fault-requires-clause-spelled c =
    has_step c.args.checked.now.task c.args.text.now c.requires.free c.loop-slice.run.plan (record { at = c.in-Step.slice.offset; text = c.in-Step.slice.text.now }) (left c.next.new.self)
    (subst (Follows c.args.checked.now.task c.args.text.now c.loop-slice.run.plan) c.in-Step.ensures.steps c.loop-slice.invariant.follows)

pub returns-in-Some-clause-fault : goal.returns-in-Some-clause-fault
returns-in-Some-clause-fault c =
    fault_here c.args.checked.now.task c.args.text.now c.requires.free c.loop-slice.run.plan (record { at = c.in-Step.slice.offset; text = c.in-Step.slice.text.now }) (left c.next.new.self)
    (subst (Follows c.args.checked.now.task c.args.text.now c.loop-slice.run.plan) c.in-Step.ensures.steps c.loop-slice.invariant.follows)
    c.loop-slice.run c.step_fault.new.run refl c.in-Some.fault c.in-Some.ensures.goes

pub loop-slice-preserved : goal.loop-slice-preserved
loop-slice-preserved c = record {
  source = c.in-Step.ensures.source ∙ c.loop-slice.invariant.source;
  of = c.in-None.ensures.of;
  follows = follows_more c.args.checked.now.task c.args.text.now c.requires.free c.loop-slice.run.plan (record { at = c.in-Step.slice.offset; text = c.in-Step.slice.text.now }) (left c.next.new.self)
      (subst (Follows c.args.checked.now.task c.args.text.now c.loop-slice.run.plan) c.in-Step.ensures.steps c.loop-slice.invariant.follows)
      c.loop-slice.run c.step_fault.new.run refl c.in-None.ensures.goes;
}

pub returns-in-End-clause-done : goal.returns-in-End-clause-done
returns-in-End-clause-done c none plan spelled =
    all_done c.args.checked.now.task c.args.text.now c.requires.free c.loop-slice.run.plan (left c.loop-slice.reader) (ap (λ (l : Left). l.steps) c.in-End.ensures.steps) c.loop-slice.invariant.follows plan spelled

pub returns-in-End-clause-fault : goal.returns-in-End-clause-fault
returns-in-End-clause-fault c =
    fault_behind c.args.checked.now.task c.args.text.now c.requires.free c.loop-slice.run (left c.loop-slice.reader) (ap (λ (l : Left). l.steps) c.in-End.ensures.steps) c.loop-slice.invariant.follows
    c.judge.result c.judge.ensures.fault c.loop-slice.invariant.of.together

pub unreachable-requires : goal.unreachable-requires
unreachable-requires c =
    not_refused c.args.checked.now.task c.args.text.now c.requires.free c.loop-slice.run.plan (left c.loop-slice.reader) c.in-Bad.field-0 (ap (λ (l : Left). l.offence) c.in-Bad.ensures.steps) c.loop-slice.invariant.follows
