use Rattle.std.proofs.Common.{arith}
use Rattle.std.proofs.lemmas.Result.{IfOk-weaker}
use Rattle.p3_compile.specs.Parts.{actions_of}
use Rattle.p3_compile.proofs.BegunLaws.{next_actions}
use Rattle.p3_compile.proofs.begun.BegunTarget.step_parts.Goals as goal

pub step_parts-requires-clause-room : goal.step_parts-requires-clause-room
step_parts-requires-clause-room c = λ broad.
    let own = c.requires.own broad in
    let inside = own.1 in
    let small = c.requires.small in
    (own.0, omega (arith, inside, small))

pub returns : goal.returns
returns c = IfOk-weaker c.step_parts.result _ _ (λ parts has. next_actions c.args.self.now c.args.weights.now c.args.step c.args.current.now c.step_parts.new.current c.requires (actions_of parts) has) c.step_parts.ensures
