-- A done run keeps what its command means.
use Rattle.std.proofs.Common.{◌≡◌, ◌∙◌, ◌≢◌, ◌+◌, ◌==◌, ℕ, Bool, true, false, ◌&&◌, List, [], ◌∷◌, length, map, Option, Some, None, IfSome, refl, sym, subst, inl, inr}
use Rattle.std.specs.Prelude.{IsSomeAnd, option_and_then, if◌then◌else◌}
use Rattle.std.specs.FinMap.{insert}
use Rattle.std.specs.List.{list_all}
use Rattle.p3_base.specs.Outside.{FilesSeen, SinkSeen, Store, with_put}
use Rattle.p3_base.specs.Words.{are_different}
use Rattle.p3_tree.specs.Commands.{Command, Output, Word, command_by, command_of, command_with, has_file_words, if_spelled, is_file_word, is_spelled, kind_of, names_of, numbered, outputs, row}
use Rattle.p3_tree.specs.declared.command.CommandKind.{CommandKind}
use Rattle.p3_cli.specs.Ending as ending
use Rattle.p3_cli.specs.Ending.{Ending, Tells, status_of}
use Rattle.p3_cli.specs.Meaning.{Keeps, KeepsInRun, IsDone, IsFaithfulRun, IsLaidOutRun, OfAsked}
use Rattle.p3_cli.specs.Product.{LaysOut, Means, Produces}
use Rattle.p3_cli.specs.Run.{Leaves, Answers}
use Rattle.p3_cli.specs.Store.{holding_all, writings}
use Rattle.p3_cli.specs.Texts.{AllTexts, Made}
use Rattle.p3_cli.proofs.HeldLemmas.{all_made_held}
use Rattle.p3_cli.proofs.RunLemmas.{kept_status}

-- ---- the words

-- the words of what is asked name files, and its outputs are different
abbrev pub HasWords : Option Command → Type 0
HasWords None = Unit {0}
HasWords (Some command) = has_file_words command ≡ true

second_part : (first second : Bool) → (first && second) ≡ true → second ≡ true
second_part true second e = e
second_part false second e = absurd (cc)

spelled_by : (kind : CommandKind) (found : ℕ × List Word) (test : Bool) → is_spelled kind found ≡ test → HasWords (if test then Some (command_with kind found) else None)
spelled_by kind found true e = second_part (length found.1 == length (row kind).reads + length (row kind).writes) (has_file_words (command_with kind found)) e
spelled_by kind found false e = tt

numbered_words : (kind : CommandKind) (found : Option (ℕ × List Word)) → HasWords (option_and_then (if_spelled kind) found)
numbered_words kind None = tt
numbered_words kind (Some found) = spelled_by kind found (is_spelled kind found) refl

words_behind : (words : List Word) (kind : Option CommandKind) → HasWords (option_and_then (command_by words) kind)
words_behind words None = tt
words_behind words (Some kind) = numbered_words kind (numbered (row kind).is_numbered words)

pub has_words : (words : List Word) → HasWords (command_of words)
has_words [] = tt
has_words (word ∷ words) = words_behind words (kind_of word)

-- no two outputs have the same name
outputs_differ : (command : Command) → has_file_words command ≡ true → are_different (map (λ (output : Output). output.name) (outputs command)) ≡ true
outputs_differ command e = second_part (list_all is_file_word (names_of command)) (are_different (map (λ (output : Output). output.name) (outputs command))) e

-- ---- a done run

-- a status of no done run
other_end : {A : Type 0} (before after : SinkSeen) (status : ℕ) (how : Ending) → Tells before after status how → status_of how ≢ 0 → status_of how ≢ 6 → IsDone status → A
other_end before after status how tells zero six ended =
    let kept : status ≡ status_of how = kept_status before after status how tells zero in
    absurd (elim ended [ inl e ↦ zero (sym kept ∙ e) | inr e ↦ six (sym kept ∙ e) ])

-- the report of a done run, and what it leaves
done_report : (command : Command) (old new : Option Store) (before after : SinkSeen) (status : ℕ) (how : Ending) → Leaves command old new how → Tells before after status how → IsDone status
    → (report : List ℕ) × (Leaves command old new (ending.Done report) × Tells before after status (ending.Done report))
done_report command old new before after status (ending.Done report) leaves tells ended = (report, (leaves, tells))
done_report command old new before after status (ending.Refused rejection) leaves tells ended = other_end before after status (ending.Refused rejection) tells (λ e. cc) (λ e. cc) ended
done_report command old new before after status (ending.Invalid fault) leaves tells ended = other_end before after status (ending.Invalid fault) tells (λ e. cc) (λ e. cc) ended
done_report command old new before after status (ending.TooLong role) leaves tells ended = other_end before after status (ending.TooLong role) tells (λ e. cc) (λ e. cc) ended
done_report command old new before after status (ending.ReadFailed role) leaves tells ended = other_end before after status (ending.ReadFailed role) tells (λ e. cc) (λ e. cc) ended
done_report command old new before after status (ending.WriteFailed role) leaves tells ended = other_end before after status (ending.WriteFailed role) tells (λ e. cc) (λ e. cc) ended
done_report command old new before after status ending.OutOfMemory leaves tells ended = other_end before after status ending.OutOfMemory tells (λ e. cc) (λ e. cc) ended
done_report command old new before after status ending.Usage leaves tells ended = other_end before after status ending.Usage tells (λ e. cc) (λ e. cc) ended

-- the report was put where the status is 0
put_report : (before after : SinkSeen) (status : ℕ) (report : List ℕ) → Tells before after status (ending.Done report) → status ≡ 0 → after.written ≡ with_put report before.written
put_report before after status report tells done = elim tells [ inl told ↦ told.1 | inr unput ↦ absurd (let six : status ≡ 6 = unput.0 in cc) ]

-- ---- what is kept

none_left : (writings : List (Output × List ℕ)) (store : Store) → None ≡ holding_all writings (Some store) → ⊥
none_left [] store is = cc
none_left (written ∷ writings) store is = none_left writings (insert store written.0.name written.1) is

-- what is made means this
module _ (Says : Command → AllTexts → Made → List ℕ → Type 0) (more : (command : Command) (texts : AllTexts) (made : Made) (report : List ℕ) → Produces command texts made report → Says command texts made report) where
  module _ (command : Command) (named : has_file_words command ≡ true) (store : Store) (before after : SinkSeen) (status : ℕ) (report : List ℕ) (tells : Tells before after status (ending.Done report)) where
    abbrev IsKept : Store → Type 0
    IsKept last = Keeps (Says command) command store last before.written after.written status

    kept_by : (left : Option Store) → Leaves command (Some store) left (ending.Done report) → IsSomeAnd left IsKept
    kept_by None (made, product, is) = absurd (none_left (writings (outputs command) made) store is)
    kept_by (Some last) (made, (texts, read, produces), is) = record {
      texts = texts;
      made = made;
      report = report;
      read = read;
      holds = all_made_held (outputs command) made store last (outputs_differ command named) is;
      says = more command texts made report produces;
      reported = put_report before after status report tells;
    }

  -- where the store tells, what is left is what the command means
  if_told : (asked : Option Command) → HasWords asked → (told : Option Store) (old new : FilesSeen) (before after : SinkSeen) (status : ℕ) (how : Ending) → old.held ≡ told
      → Answers asked old new how → Tells before after status how → IsDone status
      → IfSome told (λ first. IsSomeAnd new.held (λ last. OfAsked asked (λ command. Keeps (Says command) command first last before.written after.written status)))
  if_told asked named None old new before after status how is answers tells ended = tt
  if_told None named (Some store) old new before after status how is answers tells ended =
      other_end before after status ending.Usage (subst (λ way. Tells before after status way) answers.0 tells) (λ e. cc) (λ e. cc) ended
  if_told (Some command) named (Some store) old new before after status how is answers tells ended =
      let (report, (leaves, told)) = done_report command old.held new.held before after status how answers.1 tells ended in
      kept_by command named store before after status report told new.held (subst (λ held. Leaves command held new.held (ending.Done report)) is leaves)

  run_keeps : (asked : Option Command) → HasWords asked → (old new : FilesSeen) (before after : SinkSeen) (status : ℕ) (how : Ending) → Answers asked old new how → Tells before after status how → IsDone status
      → KeepsInRun Says asked old new before after status
  run_keeps asked named old new before after status how answers tells ended = if_told asked named old.held old new before after status how refl answers tells ended

-- what is done keeps the meaning of what was read
pub done_is_faithful : (asked : Option Command) → HasWords asked → (old new : FilesSeen) (before after : SinkSeen) (status : ℕ) (how : Ending) → Answers asked old new how → Tells before after status how → IsDone status
    → IsFaithfulRun asked old new before after status
done_is_faithful = run_keeps Means (λ command texts made report product. product.means)

-- and is laid out as a target
pub done_is_laid_out : (asked : Option Command) → HasWords asked → (old new : FilesSeen) (before after : SinkSeen) (status : ℕ) (how : Ending) → Answers asked old new how → Tells before after status how → IsDone status
    → IsLaidOutRun asked old new before after status
done_is_laid_out = run_keeps (λ command texts made report. LaysOut command texts made) (λ command texts made report product. product.layout)
