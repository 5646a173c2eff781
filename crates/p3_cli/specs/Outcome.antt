-- What comes of reading all inputs and of writing all outputs.
use Rattle.std.specs.Prelude.{ℕ, ◌≡◌, List, Option, IfSome}
use Rattle.p3_base.specs.Outside.{Store, Rose}
use Rattle.p3_tree.specs.Commands.{Input, Output}
use Rattle.p3_cli.specs.Store.{reading, Texts, TooLong, AreFirstWritten, IsUnreadAt, IsWrittenUpTo}
use Rattle.p3_cli.specs.Texts.{AllTexts}
use Rattle.p3_cli.specs.declared.ending.Ending.{Ending}
use Rattle.p3_cli.specs.declared.ending.Ending.TheVariants as ending

-- where it is told, these are the texts of the inputs
abbrev pub ReadsAll : Option Store → List Input → AllTexts → Type 0
ReadsAll told inputs texts = IfSome told (λ store. reading store inputs ≡ Texts texts)

-- why the inputs were not all read
abbrev pub ReadFails : Option Store → List Input → ℕ → ℕ → Ending → Type 0
ReadFails told inputs before after (ending.TooLong role) = IfSome told (λ store. reading store inputs ≡ TooLong role)
ReadFails told inputs before after (ending.ReadFailed role) = IsUnreadAt told inputs role × Rose before after
ReadFails told inputs before after ending.OutOfMemory = Unit {0}
ReadFails told inputs before after (ending.Done report) = ⊥
ReadFails told inputs before after (ending.Refused rejection) = ⊥
ReadFails told inputs before after (ending.Invalid fault) = ⊥
ReadFails told inputs before after (ending.WriteFailed role) = ⊥
ReadFails told inputs before after ending.Usage = ⊥

-- why the outputs were not all written, and what is there then
abbrev pub WriteFails : List (Output × List ℕ) → Option Store → Option Store → ℕ → ℕ → Ending → Type 0
WriteFails written old new before after (ending.WriteFailed role) = IsWrittenUpTo role written old new × Rose before after
WriteFails written old new before after ending.OutOfMemory = AreFirstWritten written old new
WriteFails written old new before after (ending.TooLong role) = ⊥
WriteFails written old new before after (ending.ReadFailed role) = ⊥
WriteFails written old new before after (ending.Done report) = ⊥
WriteFails written old new before after (ending.Refused rejection) = ⊥
WriteFails written old new before after (ending.Invalid fault) = ⊥
WriteFails written old new before after ending.Usage = ⊥
