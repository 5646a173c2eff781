-- The words that a lexer gives of a step's text.
use Rattle.std.proofs.Common.{◌≡◌, ◌∙◌, ℕ, zero, suc, ◌≤◌, refl, sym, ap, List, [], ◌∷◌, ◌++◌, map, drop, arith, Option, Some, None}
use Rattle.std.specs.Prelude.{slice_get}
use Rattle.std.specs.Str.{str_to_ascii_lowercase}
use Rattle.std.proofs.lemmas.List.{append-nil}
use denote.Ref.{Bor}
use Rattle.p3_lexer.specs.Lexing.{Progress, left, with_next}
use Rattle.p3_lexer.specs.StepWords.{IsNextWord, IsWordAt, first_words, step_words, words_left}
use Rattle.p3_lexer.specs.declared.lexer.Next.{Next}
use Rattle.p3_lexer.specs.declared.lexer.Next.TheVariants as next
use Rattle.p3_task.specs.Names.{Name}
use Rattle.p3_task.specs.PlanTexts.{Opens, Closes, Names, mark_of, step_marks, IsPlanText}
use Rattle.p3_task.specs.Tokens.{Token, Open, Close, Word, Tokens, tokens_of}
use Rattle.p3_task.specs.declared.task.Step.{Step}

-- ---- one token passed

pub passed : (given : Next) (old new : Tokens) → old ≡ with_next given new → (token : Token) (later : List Token) → old.tokens ≡ token ∷ later → new.tokens ≡ later
passed (next.Token text offset) old new is token later first = let given = ap (λ (tokens : Tokens). tokens.tokens) is in cc
passed next.End old new is token later first = let none = ap (λ (tokens : Tokens). tokens.tokens) is in absurd (cc)
passed (next.Bad offset) old new is token later first = let none = ap (λ (tokens : Tokens). tokens.tokens) is in absurd (cc)

-- ---- the words of a step

words_before : (tokens : List Token) (words : List Name) → map mark_of tokens ≡ map Names words ++ Closes ∷ [] → first_words tokens ≡ words
words_before [] [] is = absurd (cc)
words_before [] (word ∷ words) is = absurd (cc)
words_before (Open at ∷ later) [] is = absurd (cc)
words_before (Open at ∷ later) (word ∷ words) is = absurd (cc)
words_before (Close at ∷ later) [] is = refl
words_before (Close at ∷ later) (word ∷ words) is = absurd (cc)
words_before (Word at text ∷ later) [] is = absurd (cc)
words_before (Word at text ∷ later) (word ∷ words) is =
    let same : text ≡ word = cc in
    let others : map mark_of later ≡ map Names words ++ Closes ∷ [] = cc in
    λ i. same i ∷ words_before later words others i

-- tokens of which the first is passed, and behind it the words
record Begins (tokens : List Token) (words : List Name) : Type 0 where
  pub token : Token
  pub later : List Token
  pub is : tokens ≡ token ∷ later
  pub first : first_words later ≡ words

begun : (tokens : List Token) (words : List Name) → map mark_of tokens ≡ Opens ∷ (map Names words ++ Closes ∷ []) → Begins tokens words
begun [] words is = absurd (cc)
begun (token ∷ later) words is =
    let others : map mark_of later ≡ map Names words ++ Closes ∷ [] = cc in
    record { token = token; later = later; is = refl; first = words_before later words others }

step_begins : (text : List ℕ) (step : Step) → IsPlanText text (step ∷ []) → Begins (tokens_of text).tokens (step_words step)
step_begins text step is = begun (tokens_of text).tokens (step_words step) (is.marks ∙ append-nil (step_marks step))

-- what comes behind the first token of a step's text, where the lexer began at its start
pub words_behind : (text : List ℕ) (start later : Progress) → start ≡ record { source = text; at = 0 }
    → ((token : Token) (tokens : List Token) → (left start).tokens ≡ token ∷ tokens → (left later).tokens ≡ tokens)
    → (step : Step) → IsPlanText text (step ∷ []) → words_left later ≡ step_words step
words_behind text start later starts passes step is =
    let begins = step_begins text step is in
    ap first_words (passes begins.token begins.later (ap (λ progress. (left progress).tokens) starts ∙ begins.is)) ∙ begins.first

-- ---- the word at a place

past_last : (words : List Name) (place : ℕ) → drop place words ≡ [] → slice_get words place ≡ None
past_last [] place none = refl
past_last (word ∷ words) zero none = absurd (cc)
past_last (word ∷ words) (suc place) none = past_last words place none

at_place : (words others : List Name) (word : Name) (place : ℕ) → drop place words ≡ word ∷ others → slice_get words place ≡ Some word
at_place [] others word zero is = absurd (cc)
at_place [] others word (suc place) is = absurd (cc)
at_place (first ∷ words) others word zero is = let same : first ≡ word = cc in ap Some same
at_place (first ∷ words) others word (suc place) is = at_place words others word place is

dropped_further : (words : List Name) (place more : ℕ) → place ≤ more → drop place words ≡ [] → drop more words ≡ []
dropped_further [] place zero within none = refl
dropped_further [] place (suc more) within none = refl
dropped_further (word ∷ words) zero more within none = absurd (cc)
dropped_further (word ∷ words) (suc place) zero within none = absurd (omega (arith, within))
dropped_further (word ∷ words) (suc place) (suc more) within none = dropped_further words place more (omega (arith, within)) none

pub others_left : (words others : List Name) (word : Name) (place : ℕ) → drop place words ≡ word ∷ others → drop (suc place) words ≡ others
others_left [] others word zero is = absurd (cc)
others_left [] others word (suc place) is = absurd (cc)
others_left (first ∷ words) others word zero is = cc
others_left (first ∷ words) others word (suc place) is = others_left words others word place is

-- what is given behind so many words
pub word_given : (step : Step) (place : ℕ) (old new : Progress) (given : Option (Bor Name)) → words_left old ≡ drop place (step_words step) → IsNextWord old given new → IsWordAt step place given
word_given step place old new None behind none = sym (past_last (step_words step) place (sym behind ∙ none))
word_given step place old new (Some word) behind some = sym (at_place (step_words step) (words_left new) (str_to_ascii_lowercase word.now) place (sym behind ∙ some))

-- none is left before the place
pub none_given : (step : Step) (passed place : ℕ) (old : Progress) → passed ≤ place → words_left old ≡ drop passed (step_words step) → words_left old ≡ [] → IsWordAt step place None
none_given step passed place old within behind none = sym (past_last (step_words step) place (dropped_further (step_words step) passed place within (sym behind ∙ none)))
