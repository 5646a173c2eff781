-- What comes of reading one more input.
use Rattle.std.proofs.Common.{◌≡◌, ◌∙◌, ◌+◌, ◌<◌, ◌≤◌, ◌++◌, ℕ, true, false, cond, List, [], ◌∷◌, length, take, drop, get_or, Option, Some, None, IfSome, refl, sym, ap, arith, inl, inr}
use Rattle.std.specs.Prelude.{IsSomeAnd, nat_lt, slice_get, zero, suc}
use Rattle.std.proofs.lemmas.List.{drop_more, map-append, take-append-drop, take_more}
use Rattle.std.proofs.Math.Seq.{take-append_seam}
use Rattle.std.proofs.lemmas.Bool.{le-ltb}
use Rattle.p3_base.specs.Outside.{Store, IsHeld, bytes_under, Rose}
use Rattle.p3_base.specs.declared.refusal.Role.{Role}
use Rattle.p3_cli.specs.Asked.{asked_input, asked_inputs}
use Rattle.p3_cli.specs.Outcome.{ReadsAll, ReadFails}
use Rattle.p3_tree.specs.Commands.{Input}
use Rattle.p3_cli.specs.Store.{Reading, IsUnreadAt, Texts, TooLong, reading, reading_behind, reading_on}
use Rattle.p3_cli.specs.Texts.{AllTexts, no_texts, with_text}
use Rattle.p3_cli.specs.declared.ending.Ending.{Ending}
use Rattle.p3_cli.specs.declared.ending.Ending.TheVariants as ending
use Rattle.p3_cli.specs.declared.request.Input as code

-- where the others are read behind an input, what stands behind them comes to the same
then_more : (input : Input) (held : Option (List ℕ)) (others more : List ℕ → Reading) (texts : AllTexts) (last : Reading) → ((text : List ℕ) → others text ≡ Texts texts → more text ≡ last)
    → reading_on input held others ≡ Texts texts → reading_on input held more ≡ last
then_more input None others more texts last later is = absurd (cc)
then_more input (Some found) others more texts last later is =
    elim (nat_lt input.limit (length found)) as (λ long. cond long (TooLong input.role) (others found) ≡ Texts texts → cond long (TooLong input.role) (more found) ≡ last) [
      | true ↦ λ e. absurd (cc)
      | false ↦ λ e. later found e
    ] is

-- where the first inputs are read, the rest is read behind their texts
reading_more : (store : Store) (read : AllTexts) (front rest : List Input) (texts : AllTexts) → reading_behind store read front ≡ Texts texts → reading_behind store read (front ++ rest) ≡ reading_behind store texts rest
reading_more store read [] rest texts is = let same : read ≡ texts = cc in ap (λ all. reading_behind store all rest) same
reading_more store read (input ∷ front) rest texts is =
    then_more input (bytes_under store input.name) (λ text. reading_behind store (with_text input.role text read) front) (λ text. reading_behind store (with_text input.role text read) (front ++ rest)) texts (reading_behind store texts rest)
    (λ text. reading_more store (with_text input.role text read) front rest texts) is

-- an input that holds a text within its limit is read
read_on : (input : Input) (held : Option (List ℕ)) (text : List ℕ) (others : List ℕ → Reading) → held ≡ Some text → length text ≤ input.limit → reading_on input held others ≡ others text
read_on input held text others is within = ap (λ found. reading_on input found others) is ∙ ap (λ long. cond long (TooLong input.role) (others text)) (le-ltb input.limit (length text) within)

-- an input that is too long ends the reading
too_long_then : (input : Input) (held : Option (List ℕ)) (role : Role) (texts : List ℕ → AllTexts) (others : List ℕ → Reading) → reading_on input held (λ text. Texts (texts text)) ≡ TooLong role → reading_on input held others ≡ TooLong role
too_long_then input None role texts others is = cc
too_long_then input (Some found) role texts others is =
    elim (nat_lt input.limit (length found)) as (λ long. cond long (TooLong input.role) (Texts (texts found)) ≡ TooLong role → cond long (TooLong input.role) (others found) ≡ TooLong role) [
      | true ↦ λ e. e
      | false ↦ λ e. cc
    ] is

-- one more is read
pub one_more_text : (told : Option Store) (front : List Input) (input : Input) (texts : AllTexts) (text : List ℕ)
    → ReadsAll told front texts → IsHeld told input.name text → length text ≤ input.limit → ReadsAll told (front ++ input ∷ []) (with_text input.role text texts)
one_more_text None front input texts text so_far held within = tt
one_more_text (Some store) front input texts text so_far held within =
    reading_more store no_texts front (input ∷ []) texts so_far ∙ read_on input (bytes_under store input.name) text (λ text. Texts (with_text input.role text texts)) held within

too_long_here : (told : Option Store) (front : List Input) (input : Input) (rest : List Input) (texts : AllTexts) (role : Role)
    → ReadsAll told front texts → IfSome told (λ store. reading store (input ∷ []) ≡ TooLong role) → IfSome told (λ store. reading store (front ++ input ∷ rest) ≡ TooLong role)
too_long_here None front input rest texts role so_far long = tt
too_long_here (Some store) front input rest texts role so_far long =
    reading_more store no_texts front (input ∷ rest) texts so_far
    ∙ too_long_then input (bytes_under store input.name) role (λ text. with_text input.role text no_texts) (λ text. reading_behind store (with_text input.role text texts) rest) long

-- an input that is not read, where those in front are
unread_here : (told : Option Store) (front : List Input) (input : Input) (rest : List Input) (texts : AllTexts) (role : Role)
    → ReadsAll told front texts → role ≡ input.role → IsUnreadAt told (front ++ input ∷ rest) role
unread_here told front input rest texts role so_far same = (length front, is_next front, passed told so_far)
  where
    is_next : (front : List Input) → IsSomeAnd (slice_get (front ++ input ∷ rest) (length front)) (λ one. role ≡ one.role)
    is_next [] = same
    is_next (first ∷ front) = is_next front

    passed : (told : Option Store) → ReadsAll told front texts → IfSome told (λ store. (read : AllTexts) × (reading store (take (length front) (front ++ input ∷ rest)) ≡ Texts read))
    passed None so_far = tt
    passed (Some store) so_far = (texts, ap (reading store) (take-append_seam front (input ∷ rest)) ∙ so_far)

pub unread_first : (told : Option Store) (input : Input) → IsUnreadAt told (input ∷ []) input.role
unread_first told input = unread_here told [] input [] no_texts input.role (nothing told) refl
  where
    nothing : (told : Option Store) → ReadsAll told [] no_texts
    nothing None = tt
    nothing (Some store) = refl

-- a count that rose later rose
pub rose_later : (before mid after : ℕ) → before ≤ mid → Rose mid after → Rose before after
rose_later before mid after grows rose = elim rose [ inl more ↦ inl (omega arith) | inr top ↦ inr top ]

-- ---- the inputs as they are asked for

module _ (inputs : List code.Input) (i : ℕ) (input : code.Input) (within : i < length inputs) (is : input ≡ get_or inputs i input) where
  -- those so far, the next one, and those behind it
  pub asked_parts : asked_inputs (take i inputs) ++ asked_input input ∷ asked_inputs (drop (i + 1) inputs) ≡ asked_inputs inputs
  asked_parts =
      sym (map-append asked_input (take i inputs) (input ∷ drop (i + 1) inputs))
      ∙ ap asked_inputs (ap (λ rest. take i inputs ++ rest) (ap (λ x. x ∷ drop (i + 1) inputs) is ∙ sym (drop_more inputs i input within)) ∙ take-append-drop i inputs)

  pub asked_more : asked_inputs (take i inputs) ++ asked_input input ∷ [] ≡ asked_inputs (take (i + 1) inputs)
  asked_more = sym (map-append asked_input (take i inputs) (input ∷ [])) ∙ ap asked_inputs (ap (λ x. take i inputs ++ x ∷ []) is ∙ sym (take_more inputs i input within))

-- ---- an input that is not read

only_one : (n : ℕ) (one : Input) (role : Role) → IsSomeAnd (slice_get (one ∷ []) n) (λ input. role ≡ input.role) → role ≡ one.role
only_one zero one role is = is
only_one (suc n) one role is = absurd is

-- an input that is not read ends the reading of all
pub read_fails_here : (told : Option Store) (front : List Input) (input : Input) (rest : List Input) (texts : AllTexts) (before mid after : ℕ) (how : Ending)
    → ReadsAll told front texts → before ≤ mid → ReadFails told (input ∷ []) mid after how → ReadFails told (front ++ input ∷ rest) before after how
read_fails_here told front input rest texts before mid after (ending.TooLong role) so_far grows fails = too_long_here told front input rest texts role so_far fails
read_fails_here told front input rest texts before mid after (ending.ReadFailed role) so_far grows fails =
    (unread_here told front input rest texts role so_far (only_one fails.0.0 input role fails.0.1), rose_later before mid after grows fails.1)
read_fails_here told front input rest texts before mid after ending.OutOfMemory so_far grows fails = tt
read_fails_here told front input rest texts before mid after (ending.Done report) so_far grows fails = fails
read_fails_here told front input rest texts before mid after (ending.Refused line) so_far grows fails = fails
read_fails_here told front input rest texts before mid after (ending.Invalid line) so_far grows fails = fails
read_fails_here told front input rest texts before mid after (ending.WriteFailed role) so_far grows fails = fails
read_fails_here told front input rest texts before mid after ending.Usage so_far grows fails = fails
