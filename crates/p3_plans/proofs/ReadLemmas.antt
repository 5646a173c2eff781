-- The words of a plan text can be written.
use Rattle.std.proofs.Common.{arith, ◌≡◌, ℕ, ◌+◌, List, [], ◌∷◌, Bool, true, false, length, map, flat_map, None, refl, sym, ap, subst, ◌∙◌}
use Rattle.std.specs.Prelude.{◌||◌, ◌==◌, if◌then◌else◌, IsTrue, IfOk, Result, Ok, Err}
use Rattle.std.specs.List.{list_all}
use Rattle.std.specs.Char.{to_ascii_lowercase}
use Rattle.std.proofs.lemmas.Bool.{and_parts}
use Rattle.std.proofs.lemmas.Bool.Decides.{nat_tests}
use Rattle.std.proofs.lemmas.List.Folds.{list_all-append}
use Rattle.p3_task.specs.declared.task.Step.{Step}
use Rattle.p3_task.specs.Names.{Name}
use Rattle.p3_task.specs.Plans.{Plan}
use Rattle.p3_task.specs.Tokens.{Token, Open, Close, Word, Tokens, is_of_word, is_blank, is_comment_after, prefixed, with_byte, tokens_from}
use Rattle.p3_task.specs.PlanTexts.{Mark, Opens, Closes, Names, mark_of, step_marks, is_plan_word, has_plan_words, IsPlanText}
use Rattle.p3_base.specs.Words.{is_lowered}
use Rattle.p3_plans.specs.Layout.{is_written_word, has_written_words}
use Rattle.p3_plans.specs.Drafts.{Ends}
use Rattle.p3_plans.specs.declared.draft.Draft.{Draft}
use Rattle.p3_plans.specs.declared.error.PlanFail.{PlanFail}
use Rattle.p3_plans.proofs.DraftLemmas.{IsRead, read_whole}

-- ---- the words of tokens

abbrev is_written_mark : Mark → Bool
is_written_mark Opens = true
is_written_mark Closes = true
is_written_mark (Names word) = list_all is_lowered word

abbrev AreWritten : List Token → Type 0
AreWritten tokens = list_all is_written_mark (map mark_of tokens) ≡ true

lowered_byte : (byte : ℕ) → is_of_word byte ≡ true → is_lowered (to_ascii_lowercase byte) ≡ true
lowered_byte byte is = grind (arith, nat_tests)

either : (b : Bool) (x y : List Token) → AreWritten x → AreWritten y → AreWritten (if b then x else y)
either true x y p q = p
either false x y p q = q

either_tokens : (b : Bool) (x y : Tokens) → (b ≡ true → AreWritten x.tokens) → AreWritten y.tokens → AreWritten (if b then x else y).tokens
either_tokens true x y p q = p refl
either_tokens false x y p q = q

written_prefixed : (at byte : ℕ) (later : List Token) → is_of_word byte ≡ true → AreWritten later → AreWritten (prefixed at byte later)
written_prefixed at byte [] is all = rw (lowered_byte byte is) refl
written_prefixed at byte (Open next ∷ later) is all = rw (lowered_byte byte is) all
written_prefixed at byte (Close next ∷ later) is all = rw (lowered_byte byte is) all
written_prefixed at byte (Word next text ∷ later) is all = either (next == at + 1) _ _ (rw (lowered_byte byte is) all) (rw (lowered_byte byte is) all)

written_byte : (at byte : ℕ) (later : Tokens) → AreWritten later.tokens → AreWritten (with_byte at byte later).tokens
written_byte at byte later all =
    either_tokens (byte == 40) _ _ (λ _. all) (either_tokens (byte == 41) _ _ (λ _. all)
    (either_tokens (is_of_word byte) _ _ (λ is. written_prefixed at byte later.tokens is all) (either_tokens (is_blank byte || byte == 59) _ _ (λ _. all) refl)))

-- the words of tokens are lowered, and made of bytes of words
written_from : (is_comment : Bool) (at : ℕ) (bytes : List ℕ) → AreWritten (tokens_from is_comment at bytes).tokens
unfolding tokens_from
written_from is_comment at [] = refl
written_from true at (byte ∷ bytes) = written_from (is_comment_after true byte) (at + 1) bytes
written_from false at (byte ∷ bytes) = written_byte at byte _ (written_from (is_comment_after false byte) (at + 1) bytes)

-- ---- the words of steps

written_words : (words : List Name) → list_all is_plan_word words ≡ true → list_all is_written_mark (map Names words) ≡ true → list_all is_written_word words ≡ true
written_words [] plain marks = refl
written_words (word ∷ words) plain marks =
    let apart = and_parts (is_plan_word word) (list_all is_plan_word words) plain in
    let bytes = and_parts (list_all is_lowered word) (list_all is_written_mark (map Names words)) marks in
    rw (apart.0, bytes.0, written_words words apart.1 bytes.1) refl

written_step : (step : Step) → has_plan_words step ≡ true → list_all is_written_mark (step_marks step) ≡ true → has_written_words step ≡ true
written_step step plain marks =
    let words : List Mark = map Names (step.action ∷ step.args) in
    written_words (step.action ∷ step.args) plain
    (and_parts (list_all is_written_mark words) true (sym (list_all-append is_written_mark words (Closes ∷ [])) ∙ marks)).0

written_steps : (plan : Plan) → list_all has_plan_words plan ≡ true → list_all is_written_mark (flat_map step_marks plan) ≡ true → list_all has_written_words plan ≡ true
written_steps [] plain marks = refl
written_steps (step ∷ plan) plain marks =
    let apart = and_parts (has_plan_words step) (list_all has_plan_words plan) plain in
    let later : List Mark = flat_map step_marks plan in
    let both = and_parts (list_all is_written_mark (step_marks step)) (list_all is_written_mark later) (sym (list_all-append is_written_mark (step_marks step) later) ∙ marks) in
    rw (written_step step apart.0 both.0, written_steps plan apart.1 both.1) refl

-- what is read can be written
pub read_is_writable : (text : List ℕ) (plan : Plan) → IsPlanText text plan → IsTrue (list_all has_written_words plan)
read_is_writable text plan is = written_steps plan is.words (ap (list_all is_written_mark) (sym is.marks) ∙ written_from false 0 text)

module _ (text : List ℕ) (draft : Draft) (is_read : IsRead text draft (record { tokens = []; foreign = None })) where
  pub whole_is_writable : (result : Result Plan PlanFail) → Ends (length text) draft result → IfOk result (λ plan. IsTrue (list_all has_written_words plan))
  whole_is_writable (Ok plan) ends = read_is_writable text plan (read_whole text plan (subst (λ (d : Draft). IsRead text d (record { tokens = []; foreign = None })) ends is_read))
  whole_is_writable (Err fail) ends = tt
