use Rattle.p3_accounts.specs.Vocabularies.{vocabulary}
use Rattle.p3_unmet.specs.Sources.{texts}
use Rattle.p3_meanings.proofs.StepLemmas.{step_is_told}
use Rattle.p3_meanings.proofs.steps.step_meaning.Goals as goal

pub returns : goal.returns
returns c =
    step_is_told c.args.checked.now.task c.args.checked.now.numbered (vocabulary c.args.telling.now.terms.now) c.requires.words (texts c.args.telling.now.sources.now) c.args.number c.in_ok-placed.placed c.spot_of_action-spot.result
    c.requires.within c.in_ok-placed.ensures c.spot_of_action-spot.ensures
