use Rattle.std.proofs.Common.{◌∙◌, ◌++◌, length, ap, length-append}
use Rattle.p3_simulation.specs.Naming.{question_names, wide_steps}
use Rattle.p3_compile.specs.Stepping.{current_names}
use Rattle.p3_compile.proofs.begun.push_asked.Goals as goal

pub returns : goal.returns
returns c =
    let by_name = c.args.weights.now.by_name in
    let questions = question_names (wide_steps by_name c.args.task.now.steps) in
    record {
      named = c.in_ok-push_currents.ensures ∙ (λ i. c.in_ok-push_questions.ensures i ++ current_names by_name (c.items.ensures i));
      first = c.len-current.ensures ∙ ap length c.in_ok-push_questions.ensures ∙ length-append c.args.names.now questions;
    }
