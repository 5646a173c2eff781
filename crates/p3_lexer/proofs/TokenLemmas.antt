-- The tokens of a text, by its first bytes.
use Rattle.std.proofs.Common.{◌≡◌, ℕ, suc, ◌+◌, ◌-◌, ◌<◌, ◌≤◌, Bool, true, false, cond, ◌||◌, ◌≢◌, if◌then◌else◌, List, [], ◌∷◌, length, get_or, take, drop, drop-drop, Some, None, refl, sym, ap, ◌∙◌, arith}
use Rattle.std.proofs.lemmas.List.{at_drop_more, at_drop_all}
use Rattle.std.specs.List.{prefix_len}
use Rattle.std.specs.Prelude.{◌==◌}
use Rattle.std.specs.Char.{to_ascii_lowercase}
use Rattle.std.specs.Str.{str_to_ascii_lowercase}
use Rattle.std.proofs.lemmas.Bool.Decides.{nat_tests}
use Rattle.p3_lexer.specs.Lexing.{is_between, gap_len, token_of, token_len}
use Rattle.p3_task.proofs.MovedTokenLaws.{is_byte}
use Rattle.p3_task.specs.Tokens.{Token, Open, Close, Word, Tokens, is_blank, is_of_word, is_comment_after, before, prefixed, with_byte, tokens_from}

-- the tokens from one more byte on
tokens_step : (is_comment : Bool) (text : List ℕ) (at : ℕ) → at < length text
    → tokens_from is_comment at (drop at text)
    ≡ (let later = tokens_from (is_comment_after is_comment (get_or text at 0)) (at + 1) (drop (at + 1) text) in if is_comment then later else with_byte at (get_or text at 0) later)
unfolding tokens_from
tokens_step is_comment text at within = at_drop_more (tokens_from is_comment at) text at 0 within

-- no token is left at the end
pub tokens_end : (is_comment : Bool) (text : List ℕ) (at : ℕ) → length text ≤ at → tokens_from is_comment at (drop at text) ≡ record { tokens = []; foreign = None }
unfolding tokens_from
tokens_end is_comment text at passed = at_drop_all (tokens_from is_comment at) text at passed

-- ---- what is no part of a token

skipped_byte : (at byte : ℕ) (later : Tokens) → is_between byte ≡ true → with_byte at byte later ≡ later
skipped_byte at byte later skipped = grind (arith, nat_tests)

skipped_here : (is_comment : Bool) (at byte : ℕ) (later : Tokens) → (is_comment || is_between byte) ≡ true → (if is_comment then later else with_byte at byte later) ≡ later
skipped_here true at byte later skipped = refl
skipped_here false at byte later skipped = skipped_byte at byte later skipped

abbrev behind_gap : Bool → ℕ → List ℕ → Tokens
behind_gap is_comment at bytes = tokens_from false (at + gap_len is_comment bytes) (drop (gap_len is_comment bytes) bytes)

no_gap : (is_comment : Bool) (byte : ℕ) → (is_comment || is_between byte) ≡ false → is_comment ≡ false
no_gap true byte e = absurd (cc)
no_gap false byte e = refl

gap_more : (is_comment : Bool) (byte : ℕ) (bytes : List ℕ) → (is_comment || is_between byte) ≡ true → gap_len is_comment (byte ∷ bytes) ≡ 1 + gap_len (is_comment_after is_comment byte) bytes
unfolding gap_len
gap_more is_comment byte bytes e = ap (λ (b : Bool). cond b (1 + gap_len (is_comment_after is_comment byte) bytes) 0) e

gap_none : (is_comment : Bool) (byte : ℕ) (bytes : List ℕ) → (is_comment || is_between byte) ≡ false → gap_len is_comment (byte ∷ bytes) ≡ 0
unfolding gap_len
gap_none is_comment byte bytes e = ap (λ (b : Bool). cond b (1 + gap_len (is_comment_after is_comment byte) bytes) 0) e

-- a byte before a gap, or where none is
gap_step : (between is_comment : Bool) (at byte : ℕ) (bytes : List ℕ) → (is_comment || is_between byte) ≡ between
    → tokens_from (is_comment_after is_comment byte) (at + 1) bytes ≡ behind_gap (is_comment_after is_comment byte) (at + 1) bytes
    → tokens_from is_comment at (byte ∷ bytes) ≡ behind_gap is_comment at (byte ∷ bytes)
unfolding tokens_from
gap_step true is_comment at byte bytes e later =
    let rest : ℕ = gap_len (is_comment_after is_comment byte) bytes in
    let place : (at + 1) + rest ≡ at + (1 + rest) = omega arith in
    let one : 1 + rest ≡ suc rest = omega arith in
    skipped_here is_comment at byte (tokens_from (is_comment_after is_comment byte) (at + 1) bytes) e ∙ later
    ∙ ap (λ (n : ℕ). tokens_from false n (drop rest bytes)) place ∙ ap (λ (n : ℕ). tokens_from false (at + (1 + rest)) (drop n (byte ∷ bytes))) (sym one)
    ∙ ap (λ (n : ℕ). tokens_from false (at + n) (drop n (byte ∷ bytes))) (sym (gap_more is_comment byte bytes e))
gap_step false is_comment at byte bytes e later =
    let same : at ≡ at + 0 = omega arith in
    ap (λ (b : Bool). tokens_from b at (byte ∷ bytes)) (no_gap is_comment byte e)
    ∙ ap (λ (n : ℕ). tokens_from false n (byte ∷ bytes)) same ∙ ap (λ (n : ℕ). tokens_from false (at + n) (drop n (byte ∷ bytes))) (sym (gap_none is_comment byte bytes e))

-- blanks and comments have no tokens
tokens_gap : (is_comment : Bool) (at : ℕ) (bytes : List ℕ) → tokens_from is_comment at bytes ≡ behind_gap is_comment at bytes
unfolding tokens_from gap_len
tokens_gap is_comment at [] = refl
tokens_gap is_comment at (byte ∷ bytes) = gap_step (is_comment || is_between byte) is_comment at byte bytes refl (tokens_gap (is_comment_after is_comment byte) (at + 1) bytes)

-- the same at a place of a text
module _ (is_comment : Bool) (text : List ℕ) (at : ℕ) where
  pub gap_more_at : at < length text → (is_comment || is_between (get_or text at 0)) ≡ true → gap_len is_comment (drop at text) ≡ 1 + gap_len (is_comment_after is_comment (get_or text at 0)) (drop (at + 1) text)
  gap_more_at within e = at_drop_more (gap_len is_comment) text at 0 within ∙ gap_more is_comment (get_or text at 0) (drop (at + 1) text) e

  pub gap_none_at : at < length text → (is_comment || is_between (get_or text at 0)) ≡ false → gap_len is_comment (drop at text) ≡ 0
  gap_none_at within e = at_drop_more (gap_len is_comment) text at 0 within ∙ gap_none is_comment (get_or text at 0) (drop (at + 1) text) e

  pub gap_end_at : length text ≤ at → gap_len is_comment (drop at text) ≡ 0
  unfolding gap_len
  gap_end_at passed = at_drop_all (gap_len is_comment) text at passed

-- a blank, and the `;` that opens a comment
pub blank_passed : (text : List ℕ) (at : ℕ) → at < length text → is_blank (get_or text at 0) ≡ true → gap_len false (drop at text) ≡ 1 + gap_len false (drop (at + 1) text)
blank_passed text at within is = gap_more_at false text at within (blank_between (get_or text at 0) is) ∙ ap (λ (b : Bool). 1 + gap_len b (drop (at + 1) text)) (blank_opens_none (get_or text at 0) is)
  where
    blank_between : (byte : ℕ) → is_blank byte ≡ true → is_between byte ≡ true
    blank_between byte is = grind (arith, nat_tests)

    blank_opens_none : (byte : ℕ) → is_blank byte ≡ true → (byte == 59) ≡ false
    blank_opens_none byte is = grind (arith, nat_tests)

pub comment_opens : (text : List ℕ) (at : ℕ) → at < length text → get_or text at 0 ≡ 59 → gap_len false (drop at text) ≡ 1 + gap_len true (drop (at + 1) text)
comment_opens text at within is = gap_more_at false text at within (ap is_between is) ∙ ap (λ (b : ℕ). 1 + gap_len (b == 59) (drop (at + 1) text)) is

-- a comment ends behind a line feed, and goes on behind each other byte
pub comment_ends : (text : List ℕ) (at : ℕ) → at < length text → get_or text at 0 ≡ 10 → gap_len true (drop at text) ≡ 1 + gap_len false (drop (at + 1) text)
comment_ends text at within is = gap_more_at true text at within refl ∙ ap (λ (b : ℕ). 1 + gap_len (is_comment_after true b) (drop (at + 1) text)) is

pub comment_goes_on : (text : List ℕ) (at : ℕ) → at < length text → get_or text at 0 ≢ 10 → gap_len true (drop at text) ≡ 1 + gap_len true (drop (at + 1) text)
comment_goes_on text at within other = gap_more_at true text at within refl ∙ ap (λ (b : Bool). 1 + gap_len b (drop (at + 1) text)) (goes_on (get_or text at 0) other)
  where
    goes_on : (byte : ℕ) → byte ≢ 10 → is_comment_after true byte ≡ true
    goes_on byte other = grind (arith, nat_tests, other)

pub no_gap_at : (text : List ℕ) (at : ℕ) → at < length text → is_blank (get_or text at 0) ≡ false → get_or text at 0 ≢ 59 → gap_len false (drop at text) ≡ 0
no_gap_at text at within no_blank other = gap_none_at false text at within (grind (arith, nat_tests, no_blank, other))

pub tokens_behind : (text : List ℕ) (at place : ℕ) → place ≡ at + gap_len false (drop at text) → tokens_from false at (drop at text) ≡ tokens_from false place (drop place text)
tokens_behind text at place is = tokens_gap false at (drop at text) ∙ (λ i. tokens_from false (at + gap_len false (drop at text)) (drop-drop (gap_len false (drop at text)) at text i)) ∙ ap (λ (n : ℕ). tokens_from false n (drop n text)) (sym is)

-- ---- a token of one byte

tokens_open : (text : List ℕ) (at : ℕ) → at < length text → get_or text at 0 ≡ 40 → tokens_from false at (drop at text) ≡ before (Open at) (tokens_from false (at + 1) (drop (at + 1) text))
tokens_open text at within is = tokens_step false text at within ∙ rw is refl

tokens_close : (text : List ℕ) (at : ℕ) → at < length text → get_or text at 0 ≡ 41 → tokens_from false at (drop at text) ≡ before (Close at) (tokens_from false (at + 1) (drop (at + 1) text))
tokens_close text at within is = tokens_step false text at within ∙ rw is refl

first_fails : (b : Bool) (n : ℕ) → cond b (1 + n) 0 ≡ 0 → b ≡ false
first_fails true n none = absurd (omega (arith, none))
first_fails false n none = refl

first_passes : (b : Bool) (n : ℕ) → 0 < cond b (1 + n) 0 → b ≡ true
first_passes true n some = refl
first_passes false n some = absurd (omega (arith, some))

none_passes : (p : ℕ → Bool) (x : ℕ) (xs : List ℕ) → prefix_len p (x ∷ xs) ≡ 0 → p x ≡ false
none_passes p x xs none = first_fails (p x) (prefix_len p xs) none

foreign_byte : (at byte : ℕ) (later : Tokens) → is_between byte ≡ false → is_of_word byte ≡ false → byte ≢ 40 → byte ≢ 41 → with_byte at byte later ≡ record { tokens = []; foreign = Some at }
foreign_byte at byte later stands no_word no_open no_close = grind (arith, nat_tests)

tokens_foreign : (text : List ℕ) (at : ℕ) → at < length text → is_between (get_or text at 0) ≡ false → prefix_len is_of_word (drop at text) ≡ 0 → get_or text at 0 ≢ 40 → get_or text at 0 ≢ 41
    → tokens_from false at (drop at text) ≡ record { tokens = []; foreign = Some at }
tokens_foreign text at within stands none no_open no_close =
    tokens_step false text at within ∙ foreign_byte at _ _ stands (none_passes is_of_word (get_or text at 0) (drop (at + 1) text) (sym (at_drop_more (prefix_len is_of_word) text at 0 within) ∙ none)) no_open no_close

-- ---- a word

-- a word that the tokens begin with stands at the offset or behind it
FromOn : ℕ → List Token → Type 0
FromOn at [] = Unit {0}
FromOn at (Open next ∷ later) = Unit {0}
FromOn at (Close next ∷ later) = Unit {0}
FromOn at (Word next text ∷ later) = at ≤ next

module _ (at : ℕ) where
  FromOn-before : (tokens : List Token) → FromOn (at + 1) tokens → FromOn at tokens
  unfolding FromOn
  FromOn-before [] h = tt
  FromOn-before (Open next ∷ later) h = tt
  FromOn-before (Close next ∷ later) h = tt
  FromOn-before (Word next text ∷ later) h = omega (arith, h)

  either : (b : Bool) (x y : Tokens) → FromOn at x.tokens → FromOn at y.tokens → FromOn at (if b then x else y).tokens
  either true x y p q = p
  either false x y p q = q

  either_list : (b : Bool) (x y : List Token) → FromOn at x → FromOn at y → FromOn at (if b then x else y)
  either_list true x y p q = p
  either_list false x y p q = q

  FromOn-prefixed : (byte : ℕ) (tokens : List Token) → FromOn at (prefixed at byte tokens)
  unfolding FromOn
  FromOn-prefixed byte [] = omega arith
  FromOn-prefixed byte (Open next ∷ later) = omega arith
  FromOn-prefixed byte (Close next ∷ later) = omega arith
  FromOn-prefixed byte (Word next text ∷ later) = either_list (next == at + 1) _ _ (omega arith) (omega arith)

  FromOn-with_byte : (byte : ℕ) (later : Tokens) → FromOn (at + 1) later.tokens → FromOn at (with_byte at byte later).tokens
  unfolding FromOn
  FromOn-with_byte byte later h =
      either (byte == 40) _ _ tt (either (byte == 41) _ _ tt (either (is_of_word byte) _ _ (FromOn-prefixed byte later.tokens) (either (is_blank byte || byte == 59) _ _ (FromOn-before later.tokens h) tt)))

-- the tokens from an offset on
FromOn-tokens : (is_comment : Bool) (at : ℕ) (bytes : List ℕ) → FromOn at (tokens_from is_comment at bytes).tokens
unfolding FromOn tokens_from
FromOn-tokens is_comment at [] = tt
FromOn-tokens true at (byte ∷ bytes) = FromOn-before at _ (FromOn-tokens (is_comment_after true byte) (at + 1) bytes)
FromOn-tokens false at (byte ∷ bytes) = FromOn-with_byte at byte _ (FromOn-tokens (is_comment_after false byte) (at + 1) bytes)

-- no word begins at a byte that is of none
FromOn-behind : (at byte : ℕ) (later : Tokens) → is_of_word byte ≡ false → FromOn (at + 1) later.tokens → FromOn (at + 1) (with_byte at byte later).tokens
unfolding FromOn
FromOn-behind at byte later no_word h =
    rw no_word (either (at + 1) (byte == 40) _ _ tt (either (at + 1) (byte == 41) _ _ tt (either (at + 1) (is_blank byte || byte == 59) _ _ h tt)))

-- a byte before a word that begins behind the next offset is a word of its own
prefixed_alone : (at byte : ℕ) (tokens : List Token) → FromOn ((at + 1) + 1) tokens → prefixed at byte tokens ≡ Word at (to_ascii_lowercase byte ∷ []) ∷ tokens
unfolding FromOn
prefixed_alone at byte [] h = refl
prefixed_alone at byte (Open next ∷ later) h = refl
prefixed_alone at byte (Close next ∷ later) h = refl
prefixed_alone at byte (Word next text ∷ later) h = grind (arith, nat_tests)

word_byte : (at byte : ℕ) (later : Tokens) → is_of_word byte ≡ true → with_byte at byte later ≡ record { tokens = prefixed at byte later.tokens; foreign = later.foreign }
word_byte at byte later word = grind (arith, nat_tests)

no_comment : (byte : ℕ) → is_of_word byte ≡ true → is_comment_after false byte ≡ false
no_comment byte word = grind (arith, nat_tests)

abbrev with_word_byte : ℕ → ℕ → Tokens → Tokens
with_word_byte at byte later = record { tokens = prefixed at byte later.tokens; foreign = later.foreign }

word_front : (at byte : ℕ) (bytes : List ℕ) → is_of_word byte ≡ true → tokens_from false at (byte ∷ bytes) ≡ with_word_byte at byte (tokens_from false (at + 1) bytes)
unfolding tokens_from
word_front at byte bytes word = word_byte at byte _ word ∙ ap (λ (b : Bool). with_word_byte at byte (tokens_from b (at + 1) bytes)) (no_comment byte word)

abbrev word_before : ℕ → ℕ → List ℕ → Tokens
word_before at len bytes = before (Word at (str_to_ascii_lowercase (take len bytes))) (tokens_from false (at + len) (drop len bytes))

prefixed_next : (at byte : ℕ) (text : List ℕ) (later : List Token) → prefixed at byte (Word (at + 1) text ∷ later) ≡ Word at (to_ascii_lowercase byte ∷ text) ∷ later
prefixed_next at byte text later = grind (arith, nat_tests)

grown : (at byte len : ℕ) (bytes : List ℕ) → with_word_byte at byte (word_before (at + 1) len bytes) ≡ word_before at (1 + len) (byte ∷ bytes)
grown at byte len bytes =
    let one : 1 + len ≡ suc len = omega arith in
    let place : at + suc len ≡ (at + 1) + len = omega arith in
    rw (one, place, prefixed_next) refl

alone : (at byte next : ℕ) (bytes : List ℕ) → is_of_word next ≡ false
    → with_word_byte at byte (tokens_from false (at + 1) (next ∷ bytes)) ≡ word_before at 1 (byte ∷ next ∷ bytes)
unfolding tokens_from
alone at byte next bytes no_word =
    let later : Tokens = tokens_from (is_comment_after false next) ((at + 1) + 1) bytes in
    rw (prefixed_alone at byte (with_byte (at + 1) next later).tokens (FromOn-behind (at + 1) next later no_word (FromOn-tokens (is_comment_after false next) ((at + 1) + 1) bytes))) refl

word_run_by : (is_word : Bool) (at byte next : ℕ) (bytes : List ℕ) → is_of_word byte ≡ true → is_of_word next ≡ is_word
    → (is_of_word next ≡ true → tokens_from false (at + 1) (next ∷ bytes) ≡ word_before (at + 1) (prefix_len is_of_word (next ∷ bytes)) (next ∷ bytes))
    → tokens_from false at (byte ∷ next ∷ bytes) ≡ word_before at (prefix_len is_of_word (byte ∷ next ∷ bytes)) (byte ∷ next ∷ bytes)
word_run_by true at byte next bytes word is run =
    word_front at byte (next ∷ bytes) word ∙ ap (with_word_byte at byte) (run is)
    ∙ grown at byte (prefix_len is_of_word (next ∷ bytes)) (next ∷ bytes)
    ∙ ap (λ (len : ℕ). word_before at len (byte ∷ next ∷ bytes)) (sym (rw word refl))
word_run_by false at byte next bytes word is run =
    word_front at byte (next ∷ bytes) word ∙ alone at byte next bytes is
    ∙ ap (λ (len : ℕ). word_before at len (byte ∷ next ∷ bytes)) (sym (rw (word, is) refl))

last : (at byte : ℕ) → with_word_byte at byte (tokens_from false (at + 1) []) ≡ word_before at 1 (byte ∷ [])
unfolding tokens_from
last at byte = refl

-- the word that the tokens begin with is the longest run of bytes of words
word_run : (at byte : ℕ) (bytes : List ℕ) → is_of_word byte ≡ true → tokens_from false at (byte ∷ bytes) ≡ word_before at (prefix_len is_of_word (byte ∷ bytes)) (byte ∷ bytes)
word_run at byte [] word =
    word_front at byte [] word ∙ last at byte ∙ ap (λ (len : ℕ). word_before at len (byte ∷ [])) (sym (rw word refl))
word_run at byte (next ∷ bytes) word = word_run_by (is_of_word next) at byte next bytes word refl (word_run (at + 1) next bytes)

tokens_word : (text : List ℕ) (at end : ℕ) → at < length text → end ≡ at + prefix_len is_of_word (drop at text) → end ≢ at
    → tokens_from false at (drop at text) ≡ before (Word at (str_to_ascii_lowercase (take (end - at) (drop at text)))) (tokens_from false end (drop end text))
tokens_word text at end within is some =
    let here : drop at text ≡ get_or text at 0 ∷ drop (at + 1) text = at_drop_more (λ (rest : List ℕ). rest) text at 0 within in
    let long : 0 < prefix_len is_of_word (drop at text) = omega arith in
    let word : is_of_word (get_or text at 0) ≡ true = first_passes (is_of_word (get_or text at 0)) (prefix_len is_of_word (drop (at + 1) text)) (rw here at long) in
    let len : end - at ≡ prefix_len is_of_word (drop at text) = omega arith in
    let front : tokens_from false at (drop at text) ≡ word_before at (prefix_len is_of_word (drop at text)) (drop at text) = rw here (word_run at (get_or text at 0) (drop (at + 1) text) word) in
    front ∙ rw (len, is, drop-drop (prefix_len is_of_word (drop at text)) at text) refl

-- ---- the first token

no_byte : (byte other : ℕ) → (byte == other) ≡ false → byte ≢ other
no_byte byte other e = grind (arith, nat_tests)

module _ (text : List ℕ) (at end : ℕ) (within : at < length text) (is : end ≡ at + token_len (drop at text)) where
  abbrev byte : ℕ
  byte = get_or text at 0

  abbrev len_by : Bool → ℕ
  len_by one = cond one 1 (prefix_len is_of_word (byte ∷ drop (at + 1) text))

  len_is : end ≡ at + len_by (byte == 40 || byte == 41)
  len_is = is ∙ ap (λ (n : ℕ). at + n) (at_drop_more token_len text at 0 within)

  run_is : prefix_len is_of_word (byte ∷ drop (at + 1) text) ≡ prefix_len is_of_word (drop at text)
  run_is = sym (at_drop_more (prefix_len is_of_word) text at 0 within)

  -- no token is there
  pub tokens_bad : is_between byte ≡ false → end ≡ at → tokens_from false at (drop at text) ≡ record { tokens = []; foreign = Some at }
  tokens_bad stands none = by (byte == 40) (byte == 41) refl refl
    where
      by : (opens closes : Bool) → (byte == 40) ≡ opens → (byte == 41) ≡ closes → tokens_from false at (drop at text) ≡ record { tokens = []; foreign = Some at }
      by true closes o c = absurd (let len : end ≡ at + 1 = len_is ∙ rw o refl in omega (arith, len, none))
      by false true o c = absurd (let len : end ≡ at + 1 = len_is ∙ rw (o, c) refl in omega (arith, len, none))
      by false false o c =
          let len : end ≡ at + prefix_len is_of_word (drop at text) = len_is ∙ (λ i. at + len_by (o i || c i)) ∙ ap (λ (n : ℕ). at + n) run_is in
          tokens_foreign text at within stands (omega (arith, len, none)) (no_byte byte 40 o) (no_byte byte 41 c)

  abbrev taken : List ℕ
  taken = take (end - at) (drop at text)

  -- a parenthesis
  one_byte : (token : ℕ → Token) (wanted : ℕ) → byte ≡ wanted → end ≡ at + 1 → tokens_from false at (drop at text) ≡ before (token at) (tokens_from false (at + 1) (drop (at + 1) text))
      → ((place : ℕ) → token_of place (wanted ∷ []) ≡ token place) → tokens_from false at (drop at text) ≡ before (token_of at taken) (tokens_from false end (drop end text))
  one_byte token wanted same len tokens kind =
      let one : end - at ≡ 1 = omega (arith, len) in
      let slice : taken ≡ wanted ∷ [] = ap (λ (n : ℕ). take n (drop at text)) one ∙ at_drop_more (take 1) text at 0 within ∙ ap (λ (b : ℕ). b ∷ []) same in
      tokens ∙ ap (λ (t : Token). before t (tokens_from false (at + 1) (drop (at + 1) text))) (sym (kind at)) ∙ ap (λ (w : List ℕ). before (token_of at w) (tokens_from false (at + 1) (drop (at + 1) text))) (sym slice)
      ∙ ap (λ (n : ℕ). before (token_of at taken) (tokens_from false n (drop n text))) (sym len)

  word_of : (first : ℕ) (rest : List ℕ) → (first == 40) ≡ false → (first == 41) ≡ false → token_of at (first ∷ rest) ≡ Word at (str_to_ascii_lowercase (first ∷ rest))
  word_of first rest no_open no_close = rw (no_open, no_close) refl

  -- a word
  kind : end ≢ at → end ≡ at + prefix_len is_of_word (drop at text) → (byte == 40) ≡ false → (byte == 41) ≡ false → token_of at taken ≡ Word at (str_to_ascii_lowercase taken)
  kind some len no_open no_close =
      let more : ℕ = (end - at) - 1 in
      let count : end - at ≡ suc more = omega (arith, len, some) in
      let split : taken ≡ byte ∷ take more (drop (at + 1) text) = ap (λ (n : ℕ). take n (drop at text)) count ∙ at_drop_more (take (suc more)) text at 0 within in
      ap (token_of at) split ∙ word_of byte (take more (drop (at + 1) text)) no_open no_close ∙ ap (λ (w : List ℕ). Word at (str_to_ascii_lowercase w)) (sym split)

  -- the token that the text begins with there
  pub tokens_token : end ≢ at → tokens_from false at (drop at text) ≡ before (token_of at taken) (tokens_from false end (drop end text))
  tokens_token some = by (byte == 40) (byte == 41) refl refl
    where
      by : (opens closes : Bool) → (byte == 40) ≡ opens → (byte == 41) ≡ closes → tokens_from false at (drop at text) ≡ before (token_of at taken) (tokens_from false end (drop end text))
      by true closes o c = one_byte Open 40 (is_byte byte 40 o) (len_is ∙ rw o refl) (tokens_open text at within (is_byte byte 40 o)) (λ place. refl)
      by false true o c = one_byte Close 41 (is_byte byte 41 c) (len_is ∙ rw (o, c) refl) (tokens_close text at within (is_byte byte 41 c)) (λ place. refl)
      by false false o c =
          let len : end ≡ at + prefix_len is_of_word (drop at text) = len_is ∙ (λ i. at + len_by (o i || c i)) ∙ ap (λ (n : ℕ). at + n) run_is in
          tokens_word text at end within len some ∙ ap (λ (t : Token). before t (tokens_from false end (drop end text))) (sym (kind some len o c))
