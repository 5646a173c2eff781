-- What a done run means: what its outputs hold now is what its command makes of what its inputs held before.
use Rattle.std.specs.Prelude.{◌≡◌, ◌⊎◌, ℕ, List, Option, Some, None, IfSome, IsSomeAnd}
use Rattle.std.specs.List.{AllByRecursion}
use Rattle.p3_base.specs.Outside.{FilesSeen, SinkSeen, Store, bytes_under, with_put}
use Rattle.p3_tree.specs.Commands.{Command, inputs, outputs}
use Rattle.p3_cli.specs.Product.{LaysOut, Means}
use Rattle.p3_cli.specs.Status as status
use Rattle.p3_cli.specs.Store.{Texts, reading, writings}
use Rattle.p3_cli.specs.Texts.{AllTexts, Made}

-- the statuses of a run that has written all its outputs
abbrev pub IsDone : ℕ → Type 0
IsDone answered = (answered ≡ status.done) ⊎ (answered ≡ status.unput)

-- The inputs held texts within their limits, and the outputs hold texts, of which this is so with a report; and with status 0 that report was put.
pub record Keeps (Says : AllTexts → Made → List ℕ → Type 0) (command : Command) (before after : Store) (put_before put_after : Option (List ℕ)) (answered : ℕ) : Type 0 where
  pub texts : AllTexts
  pub made : Made
  pub report : List ℕ
  pub read : reading before (inputs command) ≡ Texts texts
  pub holds : AllByRecursion (λ written. bytes_under after written.0.name ≡ Some written.1) (writings (outputs command) made)
  pub says : Says texts made report
  pub reported : answered ≡ status.done → put_after ≡ with_put report put_before

-- what is so of what the words ask for; they ask for something
abbrev pub OfAsked : Option Command → (Command → Type 0) → Type 0
OfAsked None Says = ⊥
OfAsked (Some command) Says = Says command

-- so it is where the files tell what they hold
abbrev pub KeepsInRun : (Command → AllTexts → Made → List ℕ → Type 0) → Option Command → FilesSeen → FilesSeen → SinkSeen → SinkSeen → ℕ → Type 0
KeepsInRun Says asked old new put_before put_after answered =
    IfSome old.held (λ before. IsSomeAnd new.held (λ after. OfAsked asked (λ command. Keeps (Says command) command before after put_before.written put_after.written answered)))

-- what is written and put means what the command asks for: it is a faithful translation, or the lift of a plan, or its source, or its value, or a sample
abbrev pub IsFaithfulRun : Option Command → FilesSeen → FilesSeen → SinkSeen → SinkSeen → ℕ → Type 0
IsFaithfulRun = KeepsInRun Means

-- what is written of a task is the layout of a target
abbrev pub IsLaidOutRun : Option Command → FilesSeen → FilesSeen → SinkSeen → SinkSeen → ℕ → Type 0
IsLaidOutRun = KeepsInRun (λ command texts made report. LaysOut command texts made)
