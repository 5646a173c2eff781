-- A word and its first point.
use Rattle.std.proofs.Common.{◌≡◌, ◌∙◌, refl, ap, ℕ, suc, ◌+◌, ◌<◌, ◌≤◌, Bool, true, false, not, sym, map, cond, List, [], ◌∷◌, take, drop, length, codes, Option, Some, None, arith}
use Rattle.std.proofs.lemmas.List.{take_rest}
use Rattle.std.specs.Prelude.{◌-◌, ◌==◌, if◌then◌else◌}
use Rattle.std.specs.Char.{to_ascii_lowercase}
use Rattle.std.specs.List.{prefix_len}
use Rattle.std.specs.Str.{bytes_eq, str_to_ascii_lowercase}
use Rattle.std.proofs.lemmas.Bool.Decides.{nat_tests}
use Rattle.p3_task.specs.Names.{Name}
use Rattle.p3_task.specs.Decimals.{at_point}
use Rattle.std.specs.Option.{option_or}
use Rattle.p3_base.specs.declared.refusal.Refusal.{Refusal}
use Rattle.p3_base.specs.declared.refusal.Role.{Role}
use Rattle.p3_base.specs.declared.refusal.Side.{Side}
use Rattle.p3_task.specs.Refusals.Places.{first_some}
use Rattle.p3_task.specs.Refusals.Texts.{long_number}
use Rattle.p3_task.specs.Tokens.{Token, Open, Close, Word, Tokens, before}
use Rattle.p3_lexer.specs.Lexing.{token_of}
use Rattle.p3_outline.specs.Numbers.{is_no_point}

lowered_point : (byte : ℕ) → (byte == 46) ≡ (to_ascii_lowercase byte == 46)
lowered_point byte = grind (arith, nat_tests)

-- a byte before what is split at its point
abbrev split : Bool → ℕ → Name → Name × Option Name
split is_point byte word = if is_point then ([], Some word) else (byte ∷ (at_point word).0, (at_point word).1)

abbrev pub whole : List ℕ → Name × Option Name
whole word = (str_to_ascii_lowercase word, None)

-- what stands before the first point
abbrev before_point : List ℕ → Name
before_point word = str_to_ascii_lowercase (take (prefix_len is_no_point word) word)

abbrev pub parts_of : List ℕ → List ℕ → Name × Option Name
parts_of front behind = (str_to_ascii_lowercase front, Some (str_to_ascii_lowercase behind))

front_by : (is_point is_lowered : Bool) (byte : ℕ) (word : List ℕ) → is_point ≡ is_lowered → before_point word ≡ (at_point (str_to_ascii_lowercase word)).0
    → str_to_ascii_lowercase (take (cond (not is_point) (1 + prefix_len is_no_point word) 0) (byte ∷ word))
    ≡ (split is_lowered (to_ascii_lowercase byte) (str_to_ascii_lowercase word)).0
front_by true true byte word is later = refl
front_by false false byte word is later =
    let more : 1 + prefix_len is_no_point word ≡ suc (prefix_len is_no_point word) = omega arith in
    ap (λ n. str_to_ascii_lowercase (take n (byte ∷ word))) more ∙ ap (λ front. to_ascii_lowercase byte ∷ front) later
front_by true false byte word is later = absurd cc
front_by false true byte word is later = absurd cc

front : (word : List ℕ) → before_point word ≡ (at_point (str_to_ascii_lowercase word)).0
front [] = refl
front (byte ∷ word) = front_by (byte == 46) (to_ascii_lowercase byte == 46) byte word (lowered_point byte) (front word)

behind_by : (is_point is_lowered : Bool) (byte : ℕ) (word : List ℕ) → is_point ≡ is_lowered
    → (prefix_len is_no_point word < length word → Some (str_to_ascii_lowercase (drop (prefix_len is_no_point word + 1) word)) ≡ (at_point (str_to_ascii_lowercase word)).1)
    → cond (not is_point) (1 + prefix_len is_no_point word) 0 < length (byte ∷ word)
    → Some (str_to_ascii_lowercase (drop (cond (not is_point) (1 + prefix_len is_no_point word) 0 + 1) (byte ∷ word)))
    ≡ (split is_lowered (to_ascii_lowercase byte) (str_to_ascii_lowercase word)).1
behind_by true true byte word is later within = refl
behind_by false false byte word is later within =
    let more : 1 + prefix_len is_no_point word + 1 ≡ suc (prefix_len is_no_point word + 1) = omega arith in
    ap (λ n. Some (str_to_ascii_lowercase (drop n (byte ∷ word)))) more ∙ later (omega (arith, within))
behind_by true false byte word is later within = absurd cc
behind_by false true byte word is later within = absurd cc

behind : (word : List ℕ) → prefix_len is_no_point word < length word → Some (str_to_ascii_lowercase (drop (prefix_len is_no_point word + 1) word)) ≡ (at_point (str_to_ascii_lowercase word)).1
behind [] within = absurd (omega (arith, within))
behind (byte ∷ word) within = behind_by (byte == 46) (to_ascii_lowercase byte == 46) byte word (lowered_point byte) (behind word) within

none_by : (is_point is_lowered : Bool) (byte : ℕ) (word : List ℕ) → is_point ≡ is_lowered → (length word ≤ prefix_len is_no_point word → whole word ≡ at_point (str_to_ascii_lowercase word))
    → length (byte ∷ word) ≤ cond (not is_point) (1 + prefix_len is_no_point word) 0
    → whole (byte ∷ word) ≡ (split is_lowered (to_ascii_lowercase byte) (str_to_ascii_lowercase word))
none_by true true byte word is later passed = absurd (omega (arith, passed))
none_by false false byte word is later passed = ap (λ (parts : Name × Option Name). (to_ascii_lowercase byte ∷ parts.0, parts.1)) (later (omega (arith, passed)))
none_by true false byte word is later passed = absurd cc
none_by false true byte word is later passed = absurd cc

pub not_parted : (word : List ℕ) (place : ℕ) → place ≡ prefix_len is_no_point word → length word ≤ place → whole word ≡ at_point (str_to_ascii_lowercase word)
not_parted word place is passed = none word (omega (arith, is, passed))
  where
    none : (word : List ℕ) → length word ≤ prefix_len is_no_point word → whole word ≡ at_point (str_to_ascii_lowercase word)
    none [] passed = refl
    none (byte ∷ word) passed = none_by (byte == 46) (to_ascii_lowercase byte == 46) byte word (lowered_point byte) (none word) passed

pub parted : (word : List ℕ) (place : ℕ) → place ≡ prefix_len is_no_point word → place < length word
    → parts_of (take place word) (take (length word - (place + 1)) (drop (place + 1) word)) ≡ at_point (str_to_ascii_lowercase word)
parted word place is within =
    ap (parts_of (take place word)) (take_rest word (place + 1)) ∙ ap (λ n. parts_of (take n word) (drop (n + 1) word)) is
    ∙ (λ i. (front word i, behind word (omega (arith, is, within)) i))

-- ---- numbers too long

or_more : (a b c : Option Refusal) → option_or (option_or a b) c ≡ option_or a (option_or b c)
or_more (Some found) b c = refl
or_more None b c = refl

or_none : (a : Option Refusal) → option_or a None ≡ a
or_none (Some found) = refl
or_none None = refl

abbrev pub numbers_from : Side → Role → Option Refusal → Tokens → Option Refusal
numbers_from side role found left = option_or found (first_some (map (long_number side role) left.tokens))

-- a parenthesis is no number
pub none_open : (side : Side) (role : Role) (offset : ℕ) (text : List ℕ) (found : Option Refusal) → bytes_eq text (codes "(") ≡ true → option_or found (long_number side role (token_of offset text)) ≡ found
none_open side role offset text found opens = ap (λ b. option_or found (long_number side role (if b then Open offset else (if bytes_eq text (codes ")") then Close offset else Word offset (str_to_ascii_lowercase text))))) opens ∙ or_none found

pub none_close : (side : Side) (role : Role) (offset : ℕ) (text : List ℕ) (found : Option Refusal) → bytes_eq text (codes "(") ≡ false → bytes_eq text (codes ")") ≡ true → option_or found (long_number side role (token_of offset text)) ≡ found
none_close side role offset text found opens closes =
    ap (λ b. option_or found (long_number side role (if b then Open offset else (if bytes_eq text (codes ")") then Close offset else Word offset (str_to_ascii_lowercase text))))) opens
    ∙ ap (λ b. option_or found (long_number side role (if b then Close offset else Word offset (str_to_ascii_lowercase text)))) closes ∙ or_none found

-- one token more
pub numbers_more : (side : Side) (role : Role) (found next : Option Refusal) (token : Token) (later : Tokens) → next ≡ option_or found (long_number side role token)
    → numbers_from side role found (before token later) ≡ numbers_from side role next later
numbers_more side role found next token later is =
    sym (or_more found (long_number side role token) (first_some (map (long_number side role) later.tokens))) ∙ ap (λ o. numbers_from side role o later) (sym is)
