-- What a command makes of the texts that it read, and why it makes nothing of them.
use Rattle.std.specs.Prelude.{ℕ, List}
use Rattle.p3_tree.specs.Commands.{Command}
use Rattle.p3_tree.specs.declared.command.CommandKind.{CommandKind}
use Rattle.p3_tree.specs.declared.command.CommandKind.TheVariants.{Compile, Lift, Embed, Evaluate, Generate, CompileFlat, Explain, Watch}
use Rattle.p3_cli.specs.Embedding.{IsEmbedding}
use Rattle.p3_cli.specs.Ending.{Ending}
use Rattle.p3_cli.specs.Evaluation.{IsEvaluation, RejectsPlan}
use Rattle.p3_cli.specs.Explaining.{IsExplanation, RejectsExplaining}
use Rattle.p3_cli.specs.Flattening.{IsFlatTranslation, StopsFlat}
use Rattle.p3_cli.specs.Following.{IsFollowing}
use Rattle.p3_cli.specs.Lifting.{IsLifting, RejectsLift}
use Rattle.p3_cli.specs.Refusing.{RejectsTask}
use Rattle.p3_cli.specs.Sampling.{IsSampling}
use Rattle.p3_cli.specs.Texts.{AllTexts, Made, sample_texts}
use Rattle.p3_cli.specs.Translation.{HasLayout, IsTranslation}
use Rattle.p3_cli.specs.WrittenText.{HasPlanLayout}

-- ---- why nothing is made

-- the ending says the first refusal that the texts show, or why a plan is not valid, not lifted or not explained; what `generate` makes counts as read, and of a text that `watch` follows nothing is refused
abbrev pub RejectsBy : CommandKind → ℕ → AllTexts → Ending → Type 0
RejectsBy Compile number texts how = RejectsTask texts how
RejectsBy Lift number texts how = RejectsLift texts how
RejectsBy Embed number texts how = RejectsPlan texts how
RejectsBy Evaluate number texts how = RejectsPlan texts how
RejectsBy Generate number texts how = RejectsPlan (sample_texts number) how
RejectsBy CompileFlat number texts how = RejectsTask texts how
RejectsBy Explain number texts how = RejectsExplaining texts how
RejectsBy Watch number texts how = RejectsTask texts how

abbrev pub Rejects : Command → AllTexts → Ending → Type 0
Rejects command texts how = RejectsBy command.kind command.number texts how

-- there is no reason to make nothing
abbrev pub Accepts : Command → AllTexts → Type 0
Accepts command texts = (how : Ending) → Rejects command texts how → ⊥

-- the ending says why nothing is made: a reason that must come, or that a step may have too many conditions, which need not come, since a translation can do with fewer than a step may have
abbrev pub StopsBy : CommandKind → ℕ → AllTexts → Ending → Type 0
StopsBy CompileFlat number texts how = StopsFlat texts how
StopsBy kind number texts how = RejectsBy kind number texts how

abbrev pub Stops : Command → AllTexts → Ending → Type 0
Stops command texts how = StopsBy command.kind command.number texts how

-- there is no such reason
abbrev pub AcceptsSurely : Command → AllTexts → Type 0
AcceptsSurely command texts = (how : Ending) → Stops command texts how → ⊥

-- ---- what is made

-- what the texts that are made and the report mean for the texts that were read, in the terms of the definitions alone
abbrev pub MeansBy : CommandKind → ℕ → AllTexts → Made → List ℕ → Type 0
MeansBy Compile number texts made report = IsTranslation texts.domain texts.problem made.domain made.problem report
MeansBy Lift number texts made report = IsLifting texts made.plan report
MeansBy Embed number texts made report = IsEmbedding texts.domain texts.problem texts.plan made.domain made.problem made.plan report
MeansBy Evaluate number texts made report = IsEvaluation texts.domain texts.problem texts.plan report
MeansBy Generate number texts made report = IsSampling number made.domain made.problem made.plan report
MeansBy CompileFlat number texts made report = IsFlatTranslation texts.domain texts.problem made.domain made.problem report
MeansBy Explain number texts made report = IsExplanation texts.domain texts.problem texts.plan report
MeansBy Watch number texts made report = IsFollowing texts.domain texts.problem texts.plan report

abbrev pub Means : Command → AllTexts → Made → List ℕ → Type 0
Means command texts made report = MeansBy command.kind command.number texts made report

-- the texts of a task that is written are laid out for the task that was read, and those of a plan have a line for each step
abbrev pub LaysOutBy : CommandKind → AllTexts → Made → Type 0
LaysOutBy Compile texts made = HasLayout texts.domain texts.problem made.domain made.problem
LaysOutBy Embed texts made = HasLayout texts.domain texts.problem made.domain made.problem × HasPlanLayout made.plan
LaysOutBy Lift texts made = HasPlanLayout made.plan
LaysOutBy kind texts made = Unit {0}

abbrev pub LaysOut : Command → AllTexts → Made → Type 0
LaysOut command texts made = LaysOutBy command.kind texts made

-- the texts that are made and the report are what the command makes of the texts that were read
pub record ProducesBy (kind : CommandKind) (number : ℕ) (texts : AllTexts) (made : Made) (report : List ℕ) : Type 0 where
  pub means : MeansBy kind number texts made report
  pub layout : LaysOutBy kind texts made

abbrev pub Produces : Command → AllTexts → Made → List ℕ → Type 0
Produces command texts made report = ProducesBy command.kind command.number texts made report
