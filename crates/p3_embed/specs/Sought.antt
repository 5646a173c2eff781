-- What a walk looks for, and how far it has come.
use Rattle.std.specs.Prelude.{ℕ}
use Rattle.p3_embed.specs.Actions.{AreActionsOf}
use Rattle.p3_embed.specs.Embeds.{CanEmbed}
use Rattle.p3_embed.specs.Walking.{IsWalk}
use Rattle.p3_embed.specs.declared.embedding.Sought.{Sought}
use Rattle.p3_embed.specs.declared.walking.EmbeddingWalk.{EmbeddingWalk}

-- the plan is there, and the actions are those of the target
pub record IsSought (sought : Sought) : Type 0 where
  pub able : CanEmbed sought.task.now sought.weights.now sought.target.now sought.numbers.now
  pub actions : AreActionsOf sought.task.now sought.target.now sought.actions

-- the walk has come so far that the next of the steps is that at the count
abbrev pub IsWalkFor : Sought → ℕ → EmbeddingWalk → Type 0
IsWalkFor sought count walk = IsWalk sought.task.now sought.target.now sought.numbers.now count walk
