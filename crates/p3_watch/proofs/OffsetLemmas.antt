-- The offsets of tokens and offences are within their text.
use Rattle.std.proofs.Common.{ℕ, ◌+◌, ◌≤◌, Bool, true, false, List, [], ◌∷◌, length, arith, Option, Some, None}
use Rattle.std.specs.Prelude.{◌==◌, ◌||◌, if◌then◌else◌, nat_lt}
use Rattle.std.specs.Char.{to_ascii_lowercase}
use Rattle.p3_base.specs.declared.refusal.Code.{Code}
use Rattle.p3_base.specs.declared.refusal.Code.TheVariants.{Malformed}
use Rattle.p3_base.specs.declared.refusal.Refusal.{Refusal}
use Rattle.p3_task.specs.PlanTexts.{Before, Outside, Begun, Named, behind, first_of_both, foreign_offence, offence_from, offence_of, plan_offence, refusal}
use Rattle.p3_task.specs.Tokens.{Token, Open, Close, Word, Tokens, before, is_blank, is_comment_after, is_of_word, prefixed, tokens_from, tokens_of, with_byte}
use Rattle.p3_task.specs.Watching.{LineText, Empty, OneStep, Offends, earlier_by, line_by, line_offence, line_text, open_behind, second_step, step_in}

-- ---- tokens

abbrev AllWithin : ℕ → List Token → Type 0
AllWithin size [] = Unit {0}
AllWithin size (Open at ∷ tokens) = (at ≤ size) × AllWithin size tokens
AllWithin size (Close at ∷ tokens) = (at ≤ size) × AllWithin size tokens
AllWithin size (Word at text ∷ tokens) = (at ≤ size) × AllWithin size tokens

abbrev IsPlaceWithin : ℕ → Option ℕ → Type 0
IsPlaceWithin size None = Unit {0}
IsPlaceWithin size (Some at) = at ≤ size

record AreWithin (size : ℕ) (found : Tokens) : Type 0 where
  tokens : AllWithin size found.tokens
  foreign : IsPlaceWithin size found.foreign

module _ (size at : ℕ) (low : at ≤ size) where
  either : (b : Bool) (x y : Tokens) → AreWithin size x → AreWithin size y → AreWithin size (if b then x else y)
  either true x y is other = is
  either false x y is other = other

  either_list : (b : Bool) (x y : List Token) → AllWithin size x → AllWithin size y → AllWithin size (if b then x else y)
  either_list true x y is other = is
  either_list false x y is other = other

  in_front : (byte : ℕ) (tokens : List Token) → AllWithin size tokens → AllWithin size (prefixed at byte tokens)
  in_front byte [] are = (low, tt)
  in_front byte (Open next ∷ tokens) are = (low, are)
  in_front byte (Close next ∷ tokens) are = (low, are)
  in_front byte (Word next text ∷ tokens) are =
      either_list (next == at + 1) (Word at (to_ascii_lowercase byte ∷ text) ∷ tokens) (Word at (to_ascii_lowercase byte ∷ []) ∷ Word next text ∷ tokens) (low, are.1) (low, are)

  one_more : (byte : ℕ) (later : Tokens) → AreWithin size later → AreWithin size (with_byte at byte later)
  one_more byte later are =
      either (byte == 40) (before (Open at) later) _ (record { tokens = (low, are.tokens); foreign = are.foreign })
      (either (byte == 41) (before (Close at) later) _ (record { tokens = (low, are.tokens); foreign = are.foreign })
      (either (is_of_word byte) (record { tokens = prefixed at byte later.tokens; foreign = later.foreign }) _ (record { tokens = in_front byte later.tokens are.tokens; foreign = are.foreign })
      (either (is_blank byte || byte == 59) later (record { tokens = []; foreign = Some at }) are (record { tokens = tt; foreign = low }))))

tokens_within : (size : ℕ) (is_comment : Bool) (at : ℕ) (bytes : List ℕ) → at + length bytes ≤ size → AreWithin size (tokens_from is_comment at bytes)
unfolding tokens_from
tokens_within size is_comment at [] low = record { tokens = tt; foreign = tt }
tokens_within size is_comment at (byte ∷ bytes) low = by is_comment (tokens_from (is_comment_after is_comment byte) (at + 1) bytes) (tokens_within size (is_comment_after is_comment byte) (at + 1) bytes (omega (arith, low)))
  where
    by : (b : Bool) (later : Tokens) → AreWithin size later → AreWithin size (if b then later else with_byte at byte later)
    by true later are = are
    by false later are = one_more size at (omega (arith, low)) byte later are

-- ---- offences

abbrev IsWithin : ℕ → Option Refusal → Type 0
IsWithin size None = Unit {0}
IsWithin size (Some offence) = offence.pos.offset ≤ size

end_within : (size : ℕ) (state : Before) (foreign : Option ℕ) → IsPlaceWithin size foreign → IsWithin size (foreign_offence size state foreign)
end_within size state (Some at) low = low
end_within size (Outside steps) None low = tt
end_within size (Begun steps) None low = omega arith
end_within size (Named steps) None low = omega arith

offence_within : (size : ℕ) (state : Before) (tokens : List Token) (foreign : Option ℕ) → AllWithin size tokens → IsPlaceWithin size foreign → IsWithin size (offence_from size state tokens foreign)
unfolding offence_from
offence_within size state [] foreign are low = end_within size state foreign low
offence_within size state (Open at ∷ tokens) foreign are low = by (offence_of state (Open at)) (offence_within size (behind state (Open at)) tokens foreign are.1 low)
  where
    by : (code : Option Code) → IsWithin size (offence_from size (behind state (Open at)) tokens foreign) → IsWithin size (first_of_both code (Open at) (offence_from size (behind state (Open at)) tokens foreign))
    by None is = is
    by (Some code) is = are.0
offence_within size state (Close at ∷ tokens) foreign are low = by (offence_of state (Close at)) (offence_within size (behind state (Close at)) tokens foreign are.1 low)
  where
    by : (code : Option Code) → IsWithin size (offence_from size (behind state (Close at)) tokens foreign) → IsWithin size (first_of_both code (Close at) (offence_from size (behind state (Close at)) tokens foreign))
    by None is = is
    by (Some code) is = are.0
offence_within size state (Word at text ∷ tokens) foreign are low = by (offence_of state (Word at text)) (offence_within size (behind state (Word at text)) tokens foreign are.1 low)
  where
    by : (code : Option Code) → IsWithin size (offence_from size (behind state (Word at text)) tokens foreign) → IsWithin size (first_of_both code (Word at text) (offence_from size (behind state (Word at text)) tokens foreign))
    by None is = is
    by (Some code) is = are.0

open_within : (size : ℕ) (tokens : List Token) → AllWithin size tokens → IsPlaceWithin size (open_behind tokens)
open_within size [] are = tt
open_within size (Open at ∷ tokens) are = are.0
open_within size (Close at ∷ tokens) are = open_within size tokens are.1
open_within size (Word at text ∷ tokens) are = open_within size tokens are.1

second_within : (size : ℕ) (tokens : List Token) → AllWithin size tokens → IsPlaceWithin size (second_step tokens)
second_within size [] are = tt
second_within size (Open at ∷ tokens) are = second_within size tokens are.1
second_within size (Close at ∷ tokens) are = open_within size tokens are.1
second_within size (Word at text ∷ tokens) are = second_within size tokens are.1

earlier_within : (size : ℕ) (offence : Option Refusal) (second : Option ℕ) → IsWithin size offence → IsPlaceWithin size second → IsWithin size (earlier_by offence second)
earlier_within size None None is low = tt
earlier_within size (Some offence) None is low = is
earlier_within size None (Some at) is low = low
earlier_within size (Some offence) (Some at) is low = by (nat_lt at offence.pos.offset) where
  by : (b : Bool) → IsWithin size (if b then Some (refusal Malformed at 1) else Some offence)
  by true = low
  by false = is

-- ---- lines

-- the offence of a line, and the `(` of its step
abbrev pub IsTextWithin : ℕ → LineText → Type 0
IsTextWithin size (Offends offence) = offence.pos.offset ≤ size
IsTextWithin size Empty = Unit {0}
IsTextWithin size (OneStep at step) = at ≤ size

step_within : (size : ℕ) (tokens : List Token) → AllWithin size tokens → IsTextWithin size (step_in tokens)
step_within size [] are = tt
step_within size (Close at ∷ tokens) are = tt
step_within size (Word at text ∷ tokens) are = tt
step_within size (Open at ∷ []) are = tt
step_within size (Open at ∷ Open next ∷ tokens) are = tt
step_within size (Open at ∷ Close next ∷ tokens) are = tt
step_within size (Open at ∷ Word next name ∷ tokens) are = are.0

by_offence : (size : ℕ) (offence : Option Refusal) (tokens : List Token) → IsWithin size offence → AllWithin size tokens → IsTextWithin size (line_by offence tokens)
by_offence size (Some offence) tokens is are = is
by_offence size None tokens is are = step_within size tokens are

pub text_within : (bytes : List ℕ) → IsTextWithin (length bytes) (line_text bytes)
unfolding line_text line_offence
text_within bytes =
    let size = length bytes in
    let are : AreWithin size (tokens_of bytes) = tokens_within size false 0 bytes (omega arith) in
    by_offence size (line_offence bytes) (tokens_of bytes).tokens
    (earlier_within size (plan_offence bytes) (second_step (tokens_of bytes).tokens)
    (offence_within size (Outside 0) (tokens_of bytes).tokens (tokens_of bytes).foreign are.tokens are.foreign) (second_within size (tokens_of bytes).tokens are.tokens))
    are.tokens
