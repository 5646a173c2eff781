use Rattle.p3_eval.proofs.RunReady.{accepted_can_be_run}
use Rattle.p3_eval.proofs.laws.accepted_tasks_can_be_run.Goals as goal

pub returns : goal.returns
returns c = λ side T G w well short stands has none. accepted_can_be_run side T well none short G w (record { atoms = stands.atoms; stands = stands.stands }) has
