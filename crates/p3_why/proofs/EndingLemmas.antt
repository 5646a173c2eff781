-- How a run ends, by what was read.
use Rattle.std.proofs.Common.{◌≡◌, ◌≢◌, ◌∙◌, ◌⊎◌, ◌↔◌, ℕ, Bool, true, false, List, Option, Some, None, refl, sym, subst, inl, inr}
use Rattle.std.specs.Prelude.{IfSome}
use Rattle.p3_base.specs.Outside.{FilesSeen, SinkSeen, Store}
use Rattle.p3_base.specs.declared.refusal.Role.{Role}
use Rattle.p3_reports.specs.declared.refusal.Rejection.{Rejection}
use Rattle.p3_tree.specs.Commands.{Input}
use Rattle.p3_cli.specs.Ending as unanswered
use Rattle.p3_cli.specs.Outcome.{ReadFails, ReadsAll}
use Rattle.p3_cli.specs.Refusing.{IsRejectedBy}
use Rattle.p3_cli.specs.Run.{AnyFaultRose}
use Rattle.p3_cli.specs.Status as status
use Rattle.p3_cli.specs.Store.{TooLong, reading}
use Rattle.p3_cli.specs.Texts.{AllTexts}
use Rattle.p3_cli.specs.declared.ending.Ending as code
use Rattle.p3_cli.specs.declared.ending.Ending.TheVariants as coded
use Rattle.p3_why.specs.Asked.{Asking, inputs_of}
use Rattle.p3_why.specs.Ending.{Ending, Answered, CutShort, Unanswered, Usage, IsAnswered, IsAnsweredOrCut, PutsOr, Tells, answer_status}
use Rattle.p3_why.specs.Run.{Answers, AnswersBy, Comes, ComesOf, Ends, IsAccepted, IsAcceptedIn, IsAnswerOrWant, IsUnanswered, MustAnswer, OfReading, Refuses}
use Rattle.p3_why.specs.declared.question.Question.{Question}
use Rattle.p3_why.specs.declared.question.Question.TheVariants.{Names}

module _ (asking : Asking) (inputs : List Input) (same : inputs ≡ inputs_of asking) (old new : FilesSeen) where
  module _ (texts : AllTexts) (read : ReadsAll old.held inputs texts) where
    -- what is so of the texts is so of those that are read
    pub of_reading : (Says : AllTexts → Type 0) → Says texts → OfReading asking old.held Says
    of_reading Says says = by old.held (subst (λ list. ReadsAll old.held list texts) same read)
      where
        by : (told : Option Store) → ReadsAll told (inputs_of asking) texts → OfReading asking told Says
        by None read = tt
        by (Some store) read = (texts, read, says)

    -- the answer to its question is put
    pub answers : (question : Question) → asking.question ≡ question → (before after : SinkSeen) (answered : ℕ) → IsAnswered (AnswersBy question asking.names texts) before after answered → (how : Ending) × Ends (Some asking) old new before after answered how
    answers question is before after answered told = (
      Answered told.lines told.is_valid,
      record {
        comes = of_reading (λ texts. Answers asking texts told.lines told.is_valid) (subst (λ own. AnswersBy own asking.names texts told.lines told.is_valid) (sym is) told.says);
        tells = told.tells;
      },
    )

    -- or a first part of it
    pub names : asking.question ≡ Names → (before after : SinkSeen) (answered : ℕ) → IsAnsweredOrCut (AnswersBy Names asking.names texts) before after answered → (how : Ending) × Ends (Some asking) old new before after answered how
    names is before after answered told = by told.tells
      where
        says : Answers asking texts told.lines told.is_valid
        says = subst (λ own. AnswersBy own asking.names texts told.lines told.is_valid) (sym is) told.says

        by : Tells before after answered (Answered told.lines told.is_valid) ⊎ Tells before after answered (CutShort told.lines) → (how : Ending) × Ends (Some asking) old new before after answered how
        by (inl tells) = (Answered told.lines told.is_valid, record { comes = of_reading (λ texts. Answers asking texts told.lines told.is_valid) says; tells = tells })
        by (inr tells) = (CutShort told.lines, record { comes = (is, of_reading (λ texts. (is_valid : Bool) × Answers asking texts told.lines is_valid) (told.is_valid, says)); tells = tells })

    -- what is refused of the texts
    pub refused : (question : Question) → asking.question ≡ question → (how : code.Ending) → IsRejectedBy (Refuses question texts) how → Comes asking old new (Unanswered (unanswered.ending_of how))
    refused question is coded.OutOfMemory refuses = tt
    refused question is (coded.Refused rejection) refuses = of_reading (λ texts. Refuses asking.question texts (unanswered.Refused rejection)) (subst (λ own. Refuses own texts (unanswered.Refused rejection)) (sym is) refuses)
    refused question is (coded.Invalid fault) refuses = absurd (never-invalid refuses)
      where
        never-invalid : Refuses question texts (unanswered.Invalid fault) → ⊥
        never-invalid said = let is = said.says in cc
    refused question is (coded.Done report) refuses = absurd refuses
    refused question is (coded.TooLong role) refuses = absurd refuses
    refused question is (coded.ReadFailed role) refuses = absurd refuses
    refused question is (coded.WriteFailed role) refuses = absurd refuses
    refused question is coded.Usage refuses = absurd refuses

  -- a file that was not read
  pub unread : (how : code.Ending) → ReadFails old.held inputs old.read_faults new.read_faults how → Comes asking old new (Unanswered (unanswered.ending_of how))
  unread how fails = by how (subst (λ list. ReadFails old.held list old.read_faults new.read_faults how) same fails)
    where
      by : (how : code.Ending) → ReadFails old.held (inputs_of asking) old.read_faults new.read_faults how → Comes asking old new (Unanswered (unanswered.ending_of how))
      by (coded.TooLong role) fails = fails
      by (coded.ReadFailed role) fails = fails
      by coded.OutOfMemory fails = tt
      by (coded.Done report) fails = absurd fails
      by (coded.Refused rejection) fails = absurd fails
      by (coded.Invalid fault) fails = absurd fails
      by (coded.WriteFailed role) fails = absurd fails
      by coded.Usage fails = absurd fails

-- ---- the whole run

-- what is asked is no usage
never_put : (put unput : ℕ) → put ≢ status.usage → unput ≢ status.usage → (lines : List ℕ) (before after : SinkSeen) (answered : ℕ) → PutsOr put unput lines before after answered → answered ≢ status.usage
never_put put unput first second lines before after answered (inl tells) is = first (sym tells.0 ∙ is)
never_put put unput first second lines before after answered (inr tells) is = second (sym tells.0 ∙ is)

never_answer : (is_valid : Bool) → answer_status is_valid ≢ status.usage
never_answer true is = cc
never_answer false is = cc

never_usage : (asking : Asking) (old new : FilesSeen) (before after : SinkSeen) (answered : ℕ) (how : Ending) → Comes asking old new how → Tells before after answered how → answered ≢ status.usage
never_usage asking old new before after answered (Answered lines is_valid) comes tells is = never_put (answer_status is_valid) status.unput (never_answer is_valid) (λ is. cc) lines before after answered tells is
never_usage asking old new before after answered (CutShort lines) comes tells is = let kept = sym tells.0 ∙ is in cc
never_usage asking old new before after answered (Unanswered how) comes tells is = by how comes tells
  where
    put : (how : unanswered.Ending) → unanswered.status_of how ≢ status.usage → unanswered.unput_status how ≢ status.usage → unanswered.Tells before after answered how → ⊥
    put how first second (inl tells) = first (sym tells.0 ∙ is)
    put how first second (inr tells) = second (sym tells.0 ∙ is)

    by : (how : unanswered.Ending) → IsUnanswered asking old new how → unanswered.Tells before after answered how → ⊥
    by (unanswered.Refused rejection) comes tells = put (unanswered.Refused rejection) (λ is. cc) (λ is. cc) tells
    by (unanswered.TooLong role) comes tells = put (unanswered.TooLong role) (λ is. cc) (λ is. cc) tells
    by (unanswered.ReadFailed role) comes tells = put (unanswered.ReadFailed role) (λ is. cc) (λ is. cc) tells
    by unanswered.OutOfMemory comes tells = put unanswered.OutOfMemory (λ is. cc) (λ is. cc) tells
    by (unanswered.Done lines) comes tells = comes
    by (unanswered.Invalid fault) comes tells = comes
    by (unanswered.WriteFailed role) comes tells = comes
    by unanswered.Usage comes tells = comes
never_usage asking old new before after answered Usage comes tells is = comes

-- the status of usage is that of words that ask for nothing, and of no others
pub usage : (asked : Option Asking) (asking : Asking) → Some asking ≡ asked → (old new : FilesSeen) (before after : SinkSeen) (answered : ℕ) → ((how : Ending) × Ends (Some asking) old new before after answered how)
    → (answered ≡ status.usage) ↔ (asked ≡ None)
usage asked asking is old new before after answered (how, ends) =
    ((λ same. absurd (never_usage asking old new before after answered how ends.comes ends.tells same)), (λ none. let never = is ∙ none in cc))

-- what is said of an ending of which no line was put
pub ends_so : (asked : Option Asking) (asking : Asking) → Some asking ≡ asked → (old new : FilesSeen) (before mid after : SinkSeen) (answered : ℕ) → mid ≡ before → (how : unanswered.Ending) → Comes asking old new (Unanswered how)
    → unanswered.Tells mid after answered how → (end : Ending) × Ends asked old new before after answered end
ends_so asked asking is old new before mid after answered unput how comes tells = (
  Unanswered how,
  record {
    comes = subst (λ some. ComesOf some old new (Unanswered how)) is comes;
    tells = subst (λ (first : SinkSeen). unanswered.Tells first after answered how) unput tells;
  },
)

-- ---- what must be answered

answer_or_want : (is_valid : Bool) (answered : ℕ) → answered ≡ answer_status is_valid → IsAnswerOrWant answered
answer_or_want true answered is = inl is
answer_or_want false answered is = inr (inl is)

module _ (asking : Asking) (store : Store) (accepted : IsAccepted asking store) where
  -- nothing is refused of what is accepted
  never_refused : (rejection : Rejection) → OfReading asking (Some store) (λ texts. Refuses asking.question texts (unanswered.Refused rejection)) → ⊥
  never_refused rejection (texts, read, refuses) =
      let one = accepted.read in
      let same : texts ≡ accepted.texts = cc in
      accepted.unrefused rejection (subst (λ own. Refuses asking.question own (unanswered.Refused rejection)) same refuses)

  never_long : (role : Role) → reading store (inputs_of asking) ≡ TooLong role → ⊥
  never_long role long = let one = accepted.read in cc

  module _ (old new : FilesSeen) (before after : SinkSeen) (answered : ℕ) (is : old.held ≡ Some store) where
    unanswered_or : (how : unanswered.Ending) → IsUnanswered asking old new how → unanswered.Tells before after answered how → AnyFaultRose old new before after ⊎ IsAnswerOrWant answered
    unanswered_or (unanswered.Refused rejection) comes tells = absurd (never_refused rejection (subst (λ told. OfReading asking told (λ texts. Refuses asking.question texts (unanswered.Refused rejection))) is comes))
    unanswered_or (unanswered.TooLong role) comes tells = absurd (never_long role (subst (λ told. IfSome told (λ store. reading store (inputs_of asking) ≡ TooLong role)) is comes))
    unanswered_or (unanswered.ReadFailed role) comes tells = inl (inl comes.1)
    unanswered_or unanswered.OutOfMemory comes tells = elim tells [ inl t ↦ inr (inr (inr t.0)) | inr t ↦ inl (inr (inr t.1)) ]
    unanswered_or (unanswered.Done lines) comes tells = absurd comes
    unanswered_or (unanswered.Invalid fault) comes tells = absurd comes
    unanswered_or (unanswered.WriteFailed role) comes tells = absurd comes
    unanswered_or unanswered.Usage comes tells = absurd comes

    answered_or : (how : Ending) → Comes asking old new how → Tells before after answered how → AnyFaultRose old new before after ⊎ IsAnswerOrWant answered
    answered_or (Answered lines is_valid) comes tells = elim tells [ inl t ↦ inr (answer_or_want is_valid answered t.0) | inr t ↦ inl (inr (inr t.1)) ]
    answered_or (CutShort lines) comes tells = inr (inr (inr tells.0))
    answered_or (Unanswered how) comes tells = unanswered_or how comes tells
    answered_or Usage comes tells = absurd comes

-- what is accepted is answered, where nothing fails
pub must_answer : (asked : Option Asking) (old new : FilesSeen) (before after : SinkSeen) (answered : ℕ) (how : Ending) → Ends asked old new before after answered how → MustAnswer asked old new before after answered
must_answer asked old new before after answered how ends = held old.held refl
  where
    asks : (asked : Option Asking) (store : Store) → old.held ≡ Some store → ComesOf asked old new how → IsAcceptedIn asked store → AnyFaultRose old new before after ⊎ IsAnswerOrWant answered
    asks None store is comes accepted = absurd accepted
    asks (Some asking) store is comes accepted = answered_or asking store accepted old new before after answered is how comes ends.tells

    held : (told : Option Store) → old.held ≡ told → IfSome told (λ store. IsAcceptedIn asked store → AnyFaultRose old new before after ⊎ IsAnswerOrWant answered)
    held None is = tt
    held (Some store) is = λ accepted. asks asked store is ends.comes accepted
