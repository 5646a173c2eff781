-- The words that a lexer gives of a step's text.
use Rattle.std.proofs.Common.{◌≡◌, ℕ, ◌<◌, ◌≤◌, ◌+◌, ap, List, [], ◌∷◌, length, drop, get_or, length-drop, arith}
use Rattle.std.proofs.lemmas.List.{drop_more}
use Rattle.p3_lexer.specs.Lexing.{Progress, with_next, left}
use Rattle.p3_lexer.specs.StepWords.{words_left}
use Rattle.p3_lexer.specs.declared.lexer.Next.{Next}
use Rattle.p3_lexer.proofs.StepWords.{passed, words_behind}
use Rattle.p3_task.specs.Names.{Name}
use Rattle.p3_task.specs.PlanTexts.{IsPlanText}
use Rattle.p3_task.specs.declared.task.Step.{Step}

-- what comes behind the first token of a step's text, where the lexer began at its start
module _ (text : List ℕ) (start later : Progress) (open_token : Next) (starts : start ≡ record { source = text; at = 0 }) (passes : left start ≡ with_next open_token (left later)) where
  step_words : (step : Step) → IsPlanText text (step ∷ []) → words_left later ≡ step.action ∷ step.args
  step_words = words_behind text start later starts (passed open_token (left start) (left later) passes)

  pub no_step : words_left later ≡ [] → (step : Step) → IsPlanText text (step ∷ []) → ⊥
  no_step none step is = let words = step_words step is in (cc)

  -- the first word is the action, and the others are the arguments
  module _ (word : Name) (args : List Name) (given : words_left later ≡ word ∷ args) (step : Step) (is : IsPlanText text (step ∷ [])) where
    pub word_is_action : word ≡ step.action
    word_is_action = let words = step_words step is in cc

    pub words_are_args : args ≡ step.args
    words_are_args = let words = step_words step is in cc

-- ---- words that are left

pub none_left : (place : ℕ) (words : List Name) → drop place words ≡ [] → length words ≤ place
none_left place words none = let len = ap length none in omega (arith, len, length-drop place words)

pub record IsLeft (place : ℕ) (words : List Name) (word : Name) (rest : List Name) : Type 0 where
  pub within : place < length words
  pub is : word ≡ get_or words place word
  pub others : drop (place + 1) words ≡ rest

pub one_left : (place : ℕ) (words : List Name) (word : Name) (others : List Name) → drop place words ≡ word ∷ others → IsLeft place words word others
one_left place words word others is =
    let len = ap length is in
    let within : place < length words = omega (arith, len, length-drop place words) in
    let more = drop_more words place word within in
    record { within = within; is = cc; others = cc }
