-- The tokens of bytes at another offset are those tokens, moved.
use Rattle.std.proofs.Common.{arith, ◌≡◌, ℕ, suc, ◌+◌, ◌-◌, ◌≤◌, List, [], ◌∷◌, Bool, true, false, map, Option, Some, None, refl, sym, ap, ◌∙◌}
use Rattle.std.specs.Prelude.{◌||◌, ◌==◌, if◌then◌else◌}
use Rattle.std.specs.Char.{to_ascii_lowercase}
use Rattle.std.proofs.lemmas.Bool.Decides.{nat_tests}
use Rattle.p3_task.specs.PlanTexts.{Mark, Opens, Closes, Names, mark_of}
use Rattle.p3_task.specs.Tokens.{Token, Open, Close, Word, Tokens, is_of_word, is_blank, is_comment_after, before, prefixed, with_byte, tokens_from}

-- ---- the tokens of a byte, by what it is

abbrev pub by_tests : ℕ → ℕ → Bool → Bool → Bool → Bool → Tokens → Tokens
by_tests at byte opens closes word between later =
    if opens then before (Open at) later
    else (if closes then before (Close at) later
    else (if word then record { tokens = prefixed at byte later.tokens; foreign = later.foreign }
    else (if between then later
    else record { tokens = []; foreign = Some at })))

pub both : {A B : Type 0} (f : A → B) (b : Bool) (x y : A) → f (if b then x else y) ≡ (if b then f x else f y)
both f true x y = refl
both f false x y = refl

pub same_both : {A : Type 0} (b : Bool) (x : A) → (if b then x else x) ≡ x
same_both true x = refl
same_both false x = refl

pub is_byte : (byte other : ℕ) → (byte == other) ≡ true → byte ≡ other
is_byte byte other e = grind (arith, nat_tests)

pub longer : (at end : ℕ) → at + 1 ≤ end → end - at ≡ suc (end - (at + 1))
longer at end within = omega (arith, within)

-- ---- tokens at other offsets

abbrev pub moved : ℕ → Token → Token
moved more (Open at) = Open (at + more)
moved more (Close at) = Close (at + more)
moved more (Word at text) = Word (at + more) text

abbrev pub moved_place : ℕ → Option ℕ → Option ℕ
moved_place more None = None
moved_place more (Some at) = Some (at + more)

abbrev pub moved_tokens : ℕ → Tokens → Tokens
moved_tokens more later = record { tokens = map (moved more) later.tokens; foreign = moved_place more later.foreign }

same_test : (at next more : ℕ) → (next + more == (at + more) + 1) ≡ (next == at + 1)
same_test at next more = grind (arith, nat_tests)

moved_prefixed : (at byte more : ℕ) (later : List Token) → prefixed (at + more) byte (map (moved more) later) ≡ map (moved more) (prefixed at byte later)
moved_prefixed at byte more [] = refl
moved_prefixed at byte more (Open next ∷ later) = refl
moved_prefixed at byte more (Close next ∷ later) = refl
moved_prefixed at byte more (Word next text ∷ later) =
    ap (λ (b : Bool). if b then Word (at + more) (to_ascii_lowercase byte ∷ text) ∷ map (moved more) later else Word (at + more) (to_ascii_lowercase byte ∷ []) ∷ Word (next + more) text ∷ map (moved more) later) (same_test at next more)
    ∙ sym (both (λ (tokens : List Token). map (moved more) tokens) (next == at + 1) _ _)

moved_tests : (at byte more : ℕ) (later : Tokens) (opens closes word between : Bool) → by_tests (at + more) byte opens closes word between (moved_tokens more later) ≡ moved_tokens more (by_tests at byte opens closes word between later)
moved_tests at byte more later true closes word between = refl
moved_tests at byte more later false true word between = refl
moved_tests at byte more later false false true between = ap (λ (tokens : List Token). record { tokens = tokens; foreign = moved_place more later.foreign }) (moved_prefixed at byte more later.tokens)
moved_tests at byte more later false false false true = refl
moved_tests at byte more later false false false false = refl

pub moved_from : (is_comment : Bool) (at more place : ℕ) (bytes : List ℕ) → place ≡ at + more → tokens_from is_comment place bytes ≡ moved_tokens more (tokens_from is_comment at bytes)
unfolding tokens_from
moved_from is_comment at more place [] is = refl
moved_from true at more place (byte ∷ bytes) is = moved_from (is_comment_after true byte) (at + 1) more (place + 1) bytes (omega (arith, is))
moved_from false at more place (byte ∷ bytes) is =
    ap (with_byte place byte) (moved_from (is_comment_after false byte) (at + 1) more (place + 1) bytes (omega (arith, is)))
    ∙ ap (λ (p : ℕ). with_byte p byte (moved_tokens more (tokens_from (is_comment_after false byte) (at + 1) bytes))) is
    ∙ moved_tests at byte more (tokens_from (is_comment_after false byte) (at + 1) bytes) (byte == 40) (byte == 41) (is_of_word byte) (is_blank byte || byte == 59)

pub marks_moved : (more : ℕ) (tokens : List Token) → map mark_of (map (moved more) tokens) ≡ map mark_of tokens
marks_moved more [] = refl
marks_moved more (Open at ∷ later) = ap (λ (m : List Mark). Opens ∷ m) (marks_moved more later)
marks_moved more (Close at ∷ later) = ap (λ (m : List Mark). Closes ∷ m) (marks_moved more later)
marks_moved more (Word at text ∷ later) = ap (λ (m : List Mark). Names text ∷ m) (marks_moved more later)

pub none_moved : (more : ℕ) (foreign : Option ℕ) → moved_place more foreign ≡ None → foreign ≡ None
none_moved more None is = refl
none_moved more (Some at) is = absurd cc
