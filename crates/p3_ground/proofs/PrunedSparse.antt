-- A ground task without the steps that fit over no closed set of atoms is sparse.
use Rattle.std.specs.Prelude.{List}
use Rattle.std.proofs.lemmas.List.Elements.{All-filter}
use Rattle.p3_task.specs.declared.state.Fact.{Fact}
use Rattle.p3_task.specs.declared.task.Task.{Task}
use Rattle.p3_formula.specs.Forms.{State}
use Rattle.p3_formula.specs.declared.task.GroundStep.{GroundStep}
use Rattle.p3_formula.specs.declared.task.GroundTask.{GroundTask}
use Rattle.p3_reach.specs.Closed.{IsClosed, IsInEachClosed}
use Rattle.p3_reach.specs.May.{may_hold}
use Rattle.p3_ground.specs.Pruned.{pruned}
use Rattle.p3_ground.specs.Sparse.{AtItsStep, ConstraintsHaveOwnAtoms, HasFewChanges, HasPossibleConjuncts, Sparse, StepsHaveFewChanges, StepsHavePossibleConjuncts}
use Rattle.p3_ground.proofs.MayFitLaws.{may_fit}

pub pruned-sparse : (T : Task) (atoms : List Fact) (G : GroundTask) (set : State) → StepsHaveFewChanges T atoms G → ConstraintsHaveOwnAtoms T atoms G → StepsHavePossibleConjuncts T G → IsClosed G set → IsInEachClosed G set → Sparse T atoms (pruned set G)
pruned-sparse T atoms G set changes constraints conjuncts closed least = record {
  changes = All-filter (λ (made : GroundStep). may_hold set made.pre) (AtItsStep T (λ step made. HasFewChanges T atoms step made.effects)) G.steps changes;
  constraints = record { hard = constraints.hard; soft = constraints.soft };
  conjuncts = All-filter (λ (made : GroundStep). may_hold set made.pre) (AtItsStep T (λ step made. HasPossibleConjuncts T step)) G.steps conjuncts;
  may_fit = may_fit G set closed least;
}
