-- A plan's text is parted at the `(` of a step.
use Rattle.std.proofs.Common.{arith, ◌≡◌, ◌∙◌, ℕ, zero, suc, ◌+◌, ◌-◌, ◌≤◌, Bool, true, false, List, [], ◌∷◌, ◌++◌, map, flat_map, take, drop, length, Option, Some, None, refl, sym, ap, subst}
use Rattle.std.specs.Prelude.{◌||◌, ◌==◌, if◌then◌else◌, slice_get}
use Rattle.std.specs.List.{list_all}
use Rattle.std.specs.Char.{to_ascii_lowercase}
use Rattle.std.proofs.lemmas.Bool.{and_parts}
use Rattle.std.proofs.lemmas.Bool.Decides.{nat_tests}
use Rattle.std.proofs.lemmas.List.{append_assoc}
use Rattle.p3_base.specs.declared.refusal.Code.{Code}
use Rattle.p3_base.specs.declared.refusal.Refusal.{Refusal}
use Rattle.p3_task.specs.Names.{Name}
use Rattle.p3_task.specs.PlanTexts.{Before, Outside, Begun, Named, IsPlanText, Mark, Opens, Closes, Names, first_of_both, has_plan_words, mark_of, offence_from, offence_of, plan_offence, step_limit, step_marks, word_offence}
use Rattle.p3_task.specs.Plans.{Plan}
use Rattle.p3_task.specs.Tokens.{Token, Open, Close, Word, Tokens, before, is_blank, is_comment_after, is_of_word, prefixed, tokens_from, tokens_of, with_byte}
use Rattle.p3_task.proofs.MovedTokenLaws.{both, by_tests, is_byte, longer, marks_moved, moved_from, moved_tokens, none_moved, same_both}
use Rattle.p3_task.proofs.OnceLemmas.{map_at}
use Rattle.p3_plans.specs.Laws.{all_of}
use Rattle.p3_plans.specs.Steps.{StepText, steps_from}
use Rattle.p3_plans.proofs.PlanLaws.{a_plan_where_no_offence}
use Rattle.p3_inapplicable.specs.Places.{BeginsAt}

-- ---- each `(`

abbrev opens : List Token → List ℕ
opens [] = []
opens (Open at ∷ later) = at ∷ opens later
opens (Close at ∷ later) = opens later
opens (Word at text ∷ later) = opens later

-- the tokens before the `(` at a place of them, and those from it on
abbrev front_to : List Token → ℕ → List Token
front_to [] k = []
front_to (Open at ∷ later) zero = []
front_to (Open at ∷ later) (suc k) = Open at ∷ front_to later k
front_to (Close at ∷ later) k = Close at ∷ front_to later k
front_to (Word at text ∷ later) k = Word at text ∷ front_to later k

abbrev rest_from : List Token → ℕ → List Token
rest_from [] k = []
rest_from (Open at ∷ later) zero = Open at ∷ later
rest_from (Open at ∷ later) (suc k) = rest_from later k
rest_from (Close at ∷ later) k = rest_from later k
rest_from (Word at text ∷ later) k = rest_from later k

module _ (at byte : ℕ) where
  opens_prefixed : (later : List Token) → opens (prefixed at byte later) ≡ opens later
  opens_prefixed [] = refl
  opens_prefixed (Open next ∷ later) = refl
  opens_prefixed (Close next ∷ later) = refl
  opens_prefixed (Word next text ∷ later) = both opens (next == at + 1) _ _ ∙ same_both (next == at + 1) (opens later)

  front_prefixed : (later : List Token) (k : ℕ) → prefixed at byte (front_to later k) ≡ front_to (prefixed at byte later) k
  front_prefixed [] k = refl
  front_prefixed (Open next ∷ later) zero = refl
  front_prefixed (Open next ∷ later) (suc k) = refl
  front_prefixed (Close next ∷ later) k = refl
  front_prefixed (Word next text ∷ later) k = sym (both (λ tokens. front_to tokens k) (next == at + 1) _ _)

  rest_prefixed : (later : List Token) (k : ℕ) → rest_from (prefixed at byte later) k ≡ rest_from later k
  rest_prefixed [] k = refl
  rest_prefixed (Open next ∷ later) k = refl
  rest_prefixed (Close next ∷ later) k = refl
  rest_prefixed (Word next text ∷ later) k = both (λ tokens. rest_from tokens k) (next == at + 1) _ _ ∙ same_both (next == at + 1) (rest_from later k)

-- ---- a byte that is no `(`

abbrev front_of : Tokens → ℕ → Tokens
front_of later k = record { tokens = front_to later.tokens k; foreign = None }

abbrev rest_of : Tokens → ℕ → Tokens
rest_of later k = record { tokens = rest_from later.tokens k; foreign = later.foreign }

record Keeps (at byte k o : ℕ) (later : Tokens) (is_close word between : Bool) : Type 0 where
  found : slice_get (opens later.tokens) k ≡ Some o
  front : by_tests at byte false is_close word between (front_of later k) ≡ front_of (by_tests at byte false is_close word between later) k
  rest : rest_of (by_tests at byte false is_close word between later) k ≡ rest_of later k

keeps : (at byte k o : ℕ) (later : Tokens) (is_close word between : Bool) → slice_get (opens (by_tests at byte false is_close word between later).tokens) k ≡ Some o → Keeps at byte k o later is_close word between
keeps at byte k o later true word between is = record { found = is; front = refl; rest = refl }
keeps at byte k o later false true between is = record {
  found = ap (λ all. slice_get all k) (sym (opens_prefixed at byte later.tokens)) ∙ is;
  front = ap (λ (tokens : List Token). record { tokens = tokens; foreign = None }) (front_prefixed at byte later.tokens k);
  rest = ap (λ (tokens : List Token). record { tokens = tokens; foreign = later.foreign }) (rest_prefixed at byte later.tokens k);
}
keeps at byte k o later false false true is = record { found = is; front = refl; rest = refl }
keeps at byte k o later false false false is = absurd cc

-- ---- the bytes before a `(`, and those from it on

record IsSplit (is_comment : Bool) (at k o : ℕ) (bytes : List ℕ) : Type 0 where
  after : at ≤ o
  byte : slice_get bytes (o - at) ≡ Some 40
  front : tokens_from is_comment at (take (o - at) bytes) ≡ front_of (tokens_from is_comment at bytes) k
  rest : tokens_from false o (drop (o - at) bytes) ≡ rest_of (tokens_from is_comment at bytes) k

split_here : (at o : ℕ) (bytes : List ℕ) → at ≡ o → IsSplit false at 0 o (40 ∷ bytes)
unfolding tokens_from
split_here at o bytes is =
    let none : at - at ≡ 0 = omega arith in
    subst (λ (p : ℕ). IsSplit false at 0 p (40 ∷ bytes)) is (record {
      after = omega arith;
      byte = ap (slice_get (40 ∷ bytes)) none;
      front = ap (λ (n : ℕ). tokens_from false at (take n (40 ∷ bytes))) none;
      rest = ap (λ (n : ℕ). tokens_from false at (drop n (40 ∷ bytes))) none;
    })

split_more : (at k o : ℕ) (bytes : List ℕ) → IsSplit (is_comment_after false 40) (at + 1) k o bytes → IsSplit false at (suc k) o (40 ∷ bytes)
unfolding tokens_from
split_more at k o bytes later =
    let len : o - at ≡ suc (o - (at + 1)) = longer at o later.after in
    record {
      after = omega (arith, later.after);
      byte = ap (slice_get (40 ∷ bytes)) len ∙ later.byte;
      front = ap (λ (n : ℕ). tokens_from false at (take n (40 ∷ bytes))) len ∙ ap (with_byte at 40) later.front;
      rest = ap (λ (n : ℕ). tokens_from false o (drop n (40 ∷ bytes))) len ∙ later.rest;
    }

split_comment : (at k o byte : ℕ) (bytes : List ℕ) → IsSplit (is_comment_after true byte) (at + 1) k o bytes → IsSplit true at k o (byte ∷ bytes)
unfolding tokens_from
split_comment at k o byte bytes later =
    let len : o - at ≡ suc (o - (at + 1)) = longer at o later.after in
    record {
      after = omega (arith, later.after);
      byte = ap (slice_get (byte ∷ bytes)) len ∙ later.byte;
      front = ap (λ (n : ℕ). tokens_from true at (take n (byte ∷ bytes))) len ∙ later.front;
      rest = ap (λ (n : ℕ). tokens_from false o (drop n (byte ∷ bytes))) len ∙ later.rest;
    }

split_byte : (is_open : Bool) (at k o byte : ℕ) (bytes : List ℕ) → (byte == 40) ≡ is_open → slice_get (opens (tokens_from false at (byte ∷ bytes)).tokens) k ≡ Some o
    → ((k : ℕ) → slice_get (opens (tokens_from (is_comment_after false byte) (at + 1) bytes).tokens) k ≡ Some o → IsSplit (is_comment_after false byte) (at + 1) k o bytes)
    → IsSplit false at k o (byte ∷ bytes)
unfolding tokens_from
split_byte true at zero o byte bytes e is go_on =
    let same : byte ≡ 40 = is_byte byte 40 e in
    let here : Some at ≡ Some o = subst (λ (b : ℕ). slice_get (opens (tokens_from false at (b ∷ bytes)).tokens) 0 ≡ Some o) same is in
    subst (λ (b : ℕ). IsSplit false at 0 o (b ∷ bytes)) (sym same) (split_here at o bytes (cc))
split_byte true at (suc k) o byte bytes e is go_on =
    let same : byte ≡ 40 = is_byte byte 40 e in
    subst (λ (b : ℕ). slice_get (opens (tokens_from false at (b ∷ bytes)).tokens) (suc k) ≡ Some o
    → ((k : ℕ) → slice_get (opens (tokens_from (is_comment_after false b) (at + 1) bytes).tokens) k ≡ Some o → IsSplit (is_comment_after false b) (at + 1) k o bytes) → IsSplit false at (suc k) o (b ∷ bytes)) (sym same)
    (λ is go_on. split_more at k o bytes (go_on k is)) is go_on
split_byte false at k o byte bytes e is go_on =
    let closes : Bool = byte == 41 in
    let word : Bool = is_of_word byte in
    let between : Bool = is_blank byte || byte == 59 in
    let all : Tokens = tokens_from (is_comment_after false byte) (at + 1) bytes in
    let kept : Keeps at byte k o all closes word between = keeps at byte k o all closes word between (ap (λ (b : Bool). slice_get (opens (by_tests at byte b closes word between all).tokens) k) (sym e) ∙ is) in
    let later : IsSplit (is_comment_after false byte) (at + 1) k o bytes = go_on k kept.found in
    let len : o - at ≡ suc (o - (at + 1)) = longer at o later.after in
    record {
      after = omega (arith, later.after);
      byte = ap (slice_get (byte ∷ bytes)) len ∙ later.byte;
      front =
          ap (λ (n : ℕ). tokens_from false at (take n (byte ∷ bytes))) len ∙ ap (with_byte at byte) later.front
          ∙ ap (λ (b : Bool). by_tests at byte b closes word between (front_of all k)) e ∙ kept.front ∙ ap (λ (b : Bool). front_of (by_tests at byte b closes word between all) k) (sym e);
      rest =
          ap (λ (n : ℕ). tokens_from false o (drop n (byte ∷ bytes))) len ∙ later.rest
          ∙ sym kept.rest ∙ ap (λ (b : Bool). rest_of (by_tests at byte b closes word between all) k) (sym e);
    }

split : (is_comment : Bool) (at k o : ℕ) (bytes : List ℕ) → slice_get (opens (tokens_from is_comment at bytes).tokens) k ≡ Some o → IsSplit is_comment at k o bytes
unfolding tokens_from
split is_comment at k o [] is = absurd cc
split true at k o (byte ∷ bytes) is = split_comment at k o byte bytes (split (is_comment_after true byte) (at + 1) k o bytes is)
split false at k o (byte ∷ bytes) is = split_byte (byte == 40) at k o byte bytes refl is (λ k is. split (is_comment_after false byte) (at + 1) k o bytes is)

-- ---- where the steps of a text begin

-- where the step begins that is open
abbrev begun : Before → ℕ → List ℕ
begun (Outside steps) begin = []
begun (Begun steps) begin = begin ∷ []
begun (Named steps) begin = begin ∷ []

abbrev at_of : StepText → ℕ
at_of step = step.at

free_here : (code : Option Code) (token : Token) (later : Option Refusal) → first_of_both code token later ≡ None → (code ≡ None) × (later ≡ None)
free_here None token later e = (refl, e)
free_here (Some code) token later e = absurd cc

steps-begin : (source : List ℕ) (size : ℕ) (now : Before) (begin : ℕ) (tokens : List Token) (foreign : Option ℕ) → offence_from size now tokens foreign ≡ None → map at_of (steps_from source now begin tokens) ≡ begun now begin ++ opens tokens
unfolding steps_from offence_from
steps-begin source size (Outside steps) begin [] foreign e = refl
steps-begin source size (Begun steps) begin [] None e = absurd cc
steps-begin source size (Begun steps) begin [] (Some at) e = absurd cc
steps-begin source size (Named steps) begin [] None e = absurd cc
steps-begin source size (Named steps) begin [] (Some at) e = absurd cc
steps-begin source size (Outside steps) begin (Open at ∷ tokens) foreign e =
    let free = free_here (offence_of (Outside steps) (Open at)) (Open at) _ e in
    rw free.0 (steps-begin source size (Begun (steps + 1)) at tokens foreign free.1)
steps-begin source size (Outside steps) begin (Close at ∷ tokens) foreign e = absurd cc
steps-begin source size (Outside steps) begin (Word at text ∷ tokens) foreign e = absurd cc
steps-begin source size (Begun steps) begin (Open at ∷ tokens) foreign e = absurd cc
steps-begin source size (Begun steps) begin (Close at ∷ tokens) foreign e = absurd cc
steps-begin source size (Begun steps) begin (Word at text ∷ tokens) foreign e =
    let free = free_here (word_offence text) (Word at text) _ e in
    rw free.0 (steps-begin source size (Named steps) begin tokens foreign free.1)
steps-begin source size (Named steps) begin (Open at ∷ tokens) foreign e = absurd cc
steps-begin source size (Named steps) begin (Close at ∷ tokens) foreign e = ap (λ (later : List ℕ). begin ∷ later) (steps-begin source size (Outside steps) 0 tokens foreign e)
steps-begin source size (Named steps) begin (Word at text ∷ tokens) foreign e =
    let free = free_here (word_offence text) (Word at text) _ e in
    rw free.0 (steps-begin source size (Named steps) begin tokens foreign free.1)

-- ---- the marks of the first steps, and of the others

abbrev front_marks : List Mark → ℕ → List Mark
front_marks [] k = []
front_marks (Opens ∷ later) zero = []
front_marks (Opens ∷ later) (suc k) = Opens ∷ front_marks later k
front_marks (Closes ∷ later) k = Closes ∷ front_marks later k
front_marks (Names word ∷ later) k = Names word ∷ front_marks later k

abbrev rest_marks : List Mark → ℕ → List Mark
rest_marks [] k = []
rest_marks (Opens ∷ later) zero = Opens ∷ later
rest_marks (Opens ∷ later) (suc k) = rest_marks later k
rest_marks (Closes ∷ later) k = rest_marks later k
rest_marks (Names word ∷ later) k = rest_marks later k

marks-front : (tokens : List Token) (k : ℕ) → map mark_of (front_to tokens k) ≡ front_marks (map mark_of tokens) k
marks-front [] k = refl
marks-front (Open at ∷ later) zero = refl
marks-front (Open at ∷ later) (suc k) = ap (λ (m : List Mark). Opens ∷ m) (marks-front later k)
marks-front (Close at ∷ later) k = ap (λ (m : List Mark). Closes ∷ m) (marks-front later k)
marks-front (Word at text ∷ later) k = ap (λ (m : List Mark). Names text ∷ m) (marks-front later k)

marks-rest : (tokens : List Token) (k : ℕ) → map mark_of (rest_from tokens k) ≡ rest_marks (map mark_of tokens) k
marks-rest [] k = refl
marks-rest (Open at ∷ later) zero = refl
marks-rest (Open at ∷ later) (suc k) = marks-rest later k
marks-rest (Close at ∷ later) k = marks-rest later k
marks-rest (Word at text ∷ later) k = marks-rest later k

names-front : (names : List Name) (later : List Mark) (k : ℕ) → front_marks (map Names names ++ Closes ∷ later) k ≡ map Names names ++ Closes ∷ front_marks later k
names-front [] later k = refl
names-front (name ∷ names) later k = ap (λ (m : List Mark). Names name ∷ m) (names-front names later k)

names-rest : (names : List Name) (later : List Mark) (k : ℕ) → rest_marks (map Names names ++ Closes ∷ later) k ≡ rest_marks later k
names-rest [] later k = refl
names-rest (name ∷ names) later k = names-rest names later k

grouped : (names : List Name) (later : List Mark) → (map Names names ++ Closes ∷ []) ++ later ≡ map Names names ++ Closes ∷ later
grouped names later = append_assoc (map Names names) (Closes ∷ []) later

plan-front : (plan : Plan) (k : ℕ) → front_marks (flat_map step_marks plan) k ≡ flat_map step_marks (take k plan)
plan-front [] zero = refl
plan-front [] (suc k) = refl
plan-front (step ∷ plan) zero = refl
plan-front (step ∷ plan) (suc k) =
    let names = step.action ∷ step.args in
    ap (λ (m : List Mark). Opens ∷ front_marks m k) (grouped names (flat_map step_marks plan)) ∙ ap (λ (m : List Mark). Opens ∷ m) (names-front names (flat_map step_marks plan) k)
    ∙ ap (λ (m : List Mark). Opens ∷ map Names names ++ Closes ∷ m) (plan-front plan k) ∙ ap (λ (m : List Mark). Opens ∷ m) (sym (grouped names (flat_map step_marks (take k plan))))

plan-rest : (plan : Plan) (k : ℕ) → rest_marks (flat_map step_marks plan) k ≡ flat_map step_marks (drop k plan)
plan-rest [] zero = refl
plan-rest [] (suc k) = refl
plan-rest (step ∷ plan) zero = refl
plan-rest (step ∷ plan) (suc k) =
    let names = step.action ∷ step.args in
    ap (λ (m : List Mark). rest_marks m k) (grouped names (flat_map step_marks plan)) ∙ names-rest names (flat_map step_marks plan) k ∙ plan-rest plan k

first-words : (plan : Plan) (k : ℕ) → list_all has_plan_words plan ≡ true → list_all has_plan_words (take k plan) ≡ true
first-words plan zero words = refl
first-words [] (suc k) words = refl
first-words (step ∷ plan) (suc k) words =
    let parts = and_parts (has_plan_words step) (list_all has_plan_words plan) words in
    rw parts.0 (first-words plan k parts.1)

other-words : (plan : Plan) (k : ℕ) → list_all has_plan_words plan ≡ true → list_all has_plan_words (drop k plan) ≡ true
other-words plan zero words = words
other-words [] (suc k) words = refl
other-words (step ∷ plan) (suc k) words = other-words plan k (and_parts (has_plan_words step) (list_all has_plan_words plan) words).1

-- ---- the step at a place

pub begins-at : (text : List ℕ) (plan : Plan) → IsPlanText text plan → length plan ≤ step_limit → (k : ℕ) (entry : StepText) → slice_get (all_of text).steps k ≡ Some entry → BeginsAt text plan k entry.at
begins-at text plan spelled few k entry given =
    let o = entry.at in
    let free : plan_offence text ≡ None = (a_plan_where_no_offence text).0 (record { plan = plan; spelled = spelled; few = few }) in
    let tokens = (tokens_of text).tokens in
    let place : slice_get (opens tokens) k ≡ Some o = ap (λ all. slice_get all k) (sym (steps-begin text (length text) (Outside 0) 0 tokens (tokens_of text).foreign free)) ∙ map_at at_of (all_of text).steps k entry given in
    let parted : IsSplit false 0 k o text = split false 0 k o text place in
    let none : o - 0 ≡ o = omega arith in
    let front : tokens_of (take o text) ≡ front_of (tokens_of text) k = ap (λ (n : ℕ). tokens_of (take n text)) (sym none) ∙ parted.front in
    let rest : moved_tokens o (tokens_of (drop o text)) ≡ rest_of (tokens_of text) k = sym (moved_from false 0 o o (drop o text) (omega arith)) ∙ ap (λ (n : ℕ). tokens_from false o (drop n text)) (sym none) ∙ parted.rest in
    record {
      opens = ap (slice_get text) (sym none) ∙ parted.byte;
      before = record {
        known = ap (λ (all : Tokens). all.foreign) front;
        marks = ap (λ (all : Tokens). map mark_of all.tokens) front ∙ marks-front tokens k ∙ ap (λ (m : List Mark). front_marks m k) spelled.marks ∙ plan-front plan k;
        words = first-words plan k spelled.words;
      };
      rest = record {
        known = none_moved o (tokens_of (drop o text)).foreign (ap (λ (all : Tokens). all.foreign) rest ∙ spelled.known);
        marks = sym (marks_moved o (tokens_of (drop o text)).tokens) ∙ ap (λ (all : Tokens). map mark_of all.tokens) rest ∙ marks-rest tokens k ∙ ap (λ (m : List Mark). rest_marks m k) spelled.marks ∙ plan-rest plan k;
        words = other-words plan k spelled.words;
      };
    }
