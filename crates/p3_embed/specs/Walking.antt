-- How far a walk through a target has come.
use Rattle.std.specs.Prelude.{◌≡◌, ℕ, ◌+◌, ◌*◌, ◌-◌, ◌^◌, ◌<◌, ◌≤◌, [], ◌∷◌, ◌++◌, length, slice_get, Some}
use Rattle.std.specs.List.{All}
use Rattle.p3_formula.specs.Next.{after}
use Rattle.p3_formula.specs.GroundPlans.{GroundPlan}
use Rattle.p3_formula.specs.Targets.{target_cost}
use Rattle.p3_formula.specs.declared.target.Target.{Target}
use Rattle.p3_formula.specs.declared.target.TargetAction.{TargetAction}
use Rattle.p3_formula.specs.declared.task.GroundTask.{GroundTask}
use Rattle.p3_embed.specs.Embeds.{IsOnWay, names_at}
use Rattle.p3_embed.specs.declared.walking.EmbeddingWalk.{EmbeddingWalk}

-- the costs so far are few enough to be added up
abbrev pub IsCheap : EmbeddingWalk → Type 0
IsCheap walk = walk.cost ≤ (2 ^ 64 - 1) * length walk.places.items

-- no action is taken yet
pub record IsBegun (X : Target) (walk : EmbeddingWalk) : Type 0 where
  pub state : walk.state ≡ X.initial
  pub places : walk.places.items ≡ []
  pub cost : walk.cost ≡ 0

-- the action at the place is taken
pub record HasTaken (X : Target) (place : ℕ) (old new : EmbeddingWalk) : Type 0 where
  pub places : new.places.items ≡ old.places.items ++ place ∷ []
  pub state : (action : TargetAction) → slice_get X.actions place ≡ Some action → new.state ≡ after old.state action.effects
  pub cost : (action : TargetAction) → slice_get X.actions place ≡ Some action → new.cost ≡ old.cost + action.cost
  pub cheap : IsCheap new

-- the walk has come so far that the next of the steps is that at the count
pub record IsWalk (G : GroundTask) (X : Target) (numbers : GroundPlan) (count : ℕ) (walk : EmbeddingWalk) : Type 0 where
  pub way : IsOnWay G X numbers count (names_at X walk.places.items) walk.state
  pub places : All (λ place. place < length X.actions) walk.places.items
  pub bits : length walk.state ≡ length X.predicates
  pub cost : walk.cost ≡ target_cost X (names_at X walk.places.items)
  pub cheap : IsCheap walk
