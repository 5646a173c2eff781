use Rattle.std.proofs.Common.{rules, ◌≡◌, ◌∙◌, ◌++◌, ◌∷◌, [], refl, sym, ap, subst, append_assoc}
use Rattle.std.specs.Vec.Iter.{into_iter_items}
use Rattle.std.proofs.lemmas.List.{append-nil}
use Rattle.p3_writer.specs.DomainText.{BegunDomain}
use Rattle.p3_cli.specs.Streaming.{HasWrittenSteps}
use Rattle.p3_cli.proofs.StreamingLemmas.{all_written, next_ready, no_steps_written, none_of, one_step_written}
use Rattle.p3_cli.proofs.streaming.push_steps.Goals as goal

pub loop-step-init : goal.loop-step-init
loop-step-init g c =
    let begun = c.args.begun.now in
    record {
      whole = refl;
      written = subst (λ current. HasWrittenSteps begun c.args.weights.now [] current c.args.text.now c.args.text.now) (sym c.first_current-current.ensures) (no_steps_written begun c.args.weights.now c.args.text.now);
      counted = search rules;
    }

pub push_step-requires-clause-next : goal.push_step-requires-clause-next
push_step-requires-clause-next g c =
    let next : into_iter_items c.loop-step.step-iterator ≡ c.in-Some.step ∷ into_iter_items c.next.new.self = search rules in
    let all : c.loop-step.yielded ++ into_iter_items c.loop-step.step-iterator ≡ c.args.steps = search rules in
    next_ready g.task c.args.weights.now c.args.begun.now c.requires.0.ready c.requires.0.is c.loop-step.yielded c.in-Some.step (into_iter_items c.next.new.self)
    (ap (λ items. c.loop-step.yielded ++ items) (sym next) ∙ all ∙ c.requires.0.all)
    c.loop-step.current c.args.text.now c.loop-step.text c.loop-step.invariant.written

pub push_step-requires-clause-names : goal.push_step-requires-clause-names
push_step-requires-clause-names g c = ap (λ (text : BegunDomain). text.names) c.loop-step.invariant.written.are.written ∙ c.requires.1

pub loop-step-preserved : goal.loop-step-preserved
loop-step-preserved g c =
    let next : into_iter_items c.loop-step.step-iterator ≡ c.in-Some.step ∷ into_iter_items c.next.new.self = search rules in
    let all : c.loop-step.yielded ++ into_iter_items c.loop-step.step-iterator ≡ c.args.steps = search rules in
    record {
      whole = append_assoc c.loop-step.yielded (c.in-Some.step ∷ []) (into_iter_items c.next.new.self) ∙ ap (λ items. c.loop-step.yielded ++ items) (sym next) ∙ c.loop-step.invariant.whole;
      written = one_step_written g.task c.args.weights.now c.args.begun.now c.requires.0.ready c.requires.0.is c.loop-step.yielded c.in-Some.step (into_iter_items c.next.new.self)
          (ap (λ items. c.loop-step.yielded ++ items) (sym next) ∙ all ∙ c.requires.0.all)
          c.loop-step.current c.args.text.now c.loop-step.text c.loop-step.invariant.written c.push_step.new.current c.push_step.new.text c.in_ok-push_step.ensures;
      counted = search rules;
    }

pub returns : goal.returns
returns g c =
    let left = none_of (into_iter_items c.loop-step.step-iterator) (sym c.loop-step.invariant.counted ∙ c.in-None.ensures.steps.0) in
    let start : into_iter_items c.into_iter-step-iterator.result ≡ c.args.steps = search rules in
    let all = sym (append-nil c.loop-step.yielded) ∙ ap (λ items. c.loop-step.yielded ++ items) (sym left) ∙ c.loop-step.invariant.whole ∙ start in
    all_written g.task c.args.weights.now c.args.begun.now c.loop-step.yielded c.loop-step.current c.args.text.now c.loop-step.text (all ∙ c.requires.0.all) c.loop-step.invariant.written
