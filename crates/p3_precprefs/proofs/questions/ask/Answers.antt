use Rattle.std.proofs.lemmas.Result.{IfOk-weaker}
use Rattle.p3_precprefs.proofs.ChainAtoms.{chain_tidy, chain_changes, chain_atoms}
use Rattle.p3_precprefs.proofs.ChainLaws.{chain_one_way, chain_no_way, chain_guarded, chain_one_fits, chain_stays_proper}
use Rattle.p3_precprefs.proofs.questions.ask.Goals as goal

pub returns-clause-one_way : goal.returns-clause-one_way
returns-clause-one_way c = IfOk-weaker c.chain.result _ _ (λ actions chain. chain_one_way c.args.go c.args.first c.args.current c.args.weights.now c.args.step.now c.args.effects.now c.requires.questions c.requires.current c.requires.effects c.requires.few actions chain c.requires.step) c.chain.ensures

pub returns-clause-no_way : goal.returns-clause-no_way
returns-clause-no_way c = IfOk-weaker c.chain.result _ _ (λ actions chain. chain_no_way c.args.go c.args.first c.args.current c.args.weights.now c.args.step.now c.args.effects.now c.requires.questions c.requires.current c.requires.effects c.requires.few actions chain) c.chain.ensures

pub returns-clause-guarded : goal.returns-clause-guarded
returns-clause-guarded c = IfOk-weaker c.chain.result _ _ (λ actions chain. chain_guarded c.args.go c.args.first c.args.current c.args.weights.now c.args.step.now c.args.effects.now c.requires.questions c.requires.current c.requires.effects c.requires.few actions chain) c.chain.ensures

pub returns-clause-one_fits : goal.returns-clause-one_fits
returns-clause-one_fits c = IfOk-weaker c.chain.result _ _ (λ actions chain. chain_one_fits c.args.go c.args.first c.args.current c.args.weights.now c.args.step.now c.args.effects.now c.requires.questions c.requires.current c.requires.effects c.requires.few actions chain) c.chain.ensures

pub returns-clause-stays_proper : goal.returns-clause-stays_proper
returns-clause-stays_proper c = IfOk-weaker c.chain.result _ _ (λ actions chain. chain_stays_proper c.args.go c.args.first c.args.current c.args.weights.now c.args.step.now c.args.effects.now c.requires.questions c.requires.current c.requires.effects c.requires.few actions chain) c.chain.ensures

pub returns-clause-changes : goal.returns-clause-changes
returns-clause-changes c = IfOk-weaker c.chain.result _ _ (λ actions chain. chain_changes c.args.go c.args.first c.args.current c.args.weights.now c.args.step.now c.args.effects.now c.requires.few actions chain) c.chain.ensures

pub returns-clause-atoms : goal.returns-clause-atoms
returns-clause-atoms c = IfOk-weaker c.chain.result _ _ (λ actions chain allowed are. chain_atoms c.args.go c.args.first c.args.current c.args.weights.now c.args.step.now c.args.effects.now c.requires.few actions chain allowed are) c.chain.ensures

pub returns-clause-tidy : goal.returns-clause-tidy
returns-clause-tidy c = IfOk-weaker c.chain.result _ _ (λ actions chain. chain_tidy c.args.go c.args.first c.args.current c.args.weights.now c.args.step.now c.args.effects.now c.requires.few actions chain) c.chain.ensures
