use Rattle.p3_task.proofs.CountLemmas.{state_counts, trajectory_counts}
use Rattle.p3_task.proofs.laws.counts_by_place.Goals as goal

pub returns : goal.returns
returns c = record { states = state_counts; trajectories = trajectory_counts }
