use Rattle.std.proofs.Common.{◌∙◌, ◌++◌, ◌+◌, ◌-◌, ◌<◌, ◌^◌, length, sym, ap, subst}
use Rattle.p3_simulation.specs.Naming.{question_names, wide_steps}
use Rattle.p3_simulation.specs.Monitoring.{initial_bits}
use Rattle.p3_compile.specs.Stepping.{current_names}
use Rattle.p3_compile.proofs.FrameLaws.{frame_with_goal}
use Rattle.p3_compile.proofs.begun.BegunTarget.with_goal.Goals as goal

pub returns : goal.returns
returns c =
    let G = c.args.task.now in
    let by_name = c.args.weights.now.by_name in
    let framed = c.in_ok-frame.ensures in
    let go = c.in_ok-frame.frame.go in
    let questions = question_names (wide_steps by_name G.steps) in
    record {
      frame_is = frame_with_goal c.args.goal G c.in_ok-frame.frame framed.is;
      named = c.in_ok-current.ensures.named ∙ ap (λ names. names ++ questions ++ current_names by_name G.steps) framed.named;
      counted = sym (ap length framed.named) ∙ framed.counted;
      current_is = c.in_ok-current.ensures.first ∙ ap (λ n. n + length questions) framed.counted;
      initial_is = c.in_ok-initial.ensures ∙ λ i. initial_bits G.initial (c.items.ensures i) (c.len.ensures i - go - 1);
      ends = c.in_ok-end.ensures;
      room = subst (λ n. n < 2 ^ 64) c.len.ensures c.len.type_inv;
      steps = c.counts_in_32_bits.ensures;
    }
