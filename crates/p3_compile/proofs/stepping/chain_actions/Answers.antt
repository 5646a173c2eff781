use Rattle.std.proofs.lemmas.Result.{IfOk-weaker}
use Rattle.p3_compile.proofs.StepLists.{chain_tidy}
use Rattle.p3_compile.proofs.stepping.chain_actions.Goals as goal

pub returns-clause-tidy : goal.returns-clause-tidy
returns-clause-tidy c = λ tidy. IfOk-weaker c.ask.result _ _ (λ actions chain. chain_tidy c.args.frame.now.go c.args.frame.now.first c.args.current.now c.args.weights.now c.args.step.now c.args.effects.now actions tidy chain) c.ask.ensures.actions
