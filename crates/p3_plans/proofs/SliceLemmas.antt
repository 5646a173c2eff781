-- The slices of a plan text are texts of its steps.
use Rattle.std.proofs.Common.{arith, ◌≡◌, ℕ, suc, ◌+◌, ◌-◌, ◌≤◌, List, [], ◌∷◌, ◌++◌, Bool, true, false, length, map, flat_map, take, drop, drop-drop, Option, Some, None, refl, sym, ap, subst, ◌∙◌}
use Rattle.std.specs.Prelude.{◌||◌, ◌==◌, if◌then◌else◌, nat_lt}
use Rattle.std.specs.List.{list_all}
use Rattle.std.specs.Char.{to_ascii_lowercase}
use Rattle.std.proofs.lemmas.Bool.{and_parts}
use Rattle.std.proofs.lemmas.Bool.Decides.{nat_tests}
use Rattle.std.proofs.lemmas.List.{append_assoc, append-nil}
use Rattle.p3_base.specs.declared.refusal.Code.{Code}
use Rattle.p3_base.specs.declared.refusal.Code.TheVariants.{Malformed, TooManySteps}
use Rattle.p3_task.specs.declared.task.Step.{Step}
use Rattle.p3_task.specs.Names.{Name}
use Rattle.p3_task.specs.Plans.{Plan}
use Rattle.p3_task.specs.Tokens.{Token, Open, Close, Word, Tokens, is_of_word, is_blank, is_comment_after, before, prefixed, with_byte, tokens_from, tokens_of}
use Rattle.p3_task.specs.PlanTexts.{Mark, Opens, Closes, Names, mark_of, step_marks, is_plan_word, has_plan_words, word_offence, step_limit, IsPlanText, Outside, Named}
use Rattle.p3_task.proofs.MovedTokenLaws.{both, by_tests, is_byte, longer, marks_moved, moved_from, moved_tokens, none_moved, same_both}
use Rattle.p3_plans.specs.Steps.{StepText, unless_offence, steps_from}
use Rattle.p3_plans.specs.Laws.{AreTextsOf, all_of}
use Rattle.p3_plans.proofs.PlanLaws.{below}
use Rattle.p3_plans.proofs.StepLemmas.{step_between}

-- ---- the first `)`

abbrev first_close : List Token → Option ℕ
first_close [] = None
first_close (Open at ∷ later) = first_close later
first_close (Close at ∷ later) = Some at
first_close (Word at text ∷ later) = first_close later

-- the tokens up to it
abbrev to_close : List Token → List Token
to_close [] = []
to_close (Open at ∷ later) = Open at ∷ to_close later
to_close (Close at ∷ later) = Close at ∷ []
to_close (Word at text ∷ later) = Word at text ∷ to_close later

-- the tokens behind it
abbrev behind_close : List Token → List Token
behind_close [] = []
behind_close (Open at ∷ later) = behind_close later
behind_close (Close at ∷ later) = later
behind_close (Word at text ∷ later) = behind_close later

abbrev front_of : Tokens → Tokens
front_of later = record { tokens = to_close later.tokens; foreign = None }

abbrev rest_of : Tokens → Tokens
rest_of later = record { tokens = behind_close later.tokens; foreign = later.foreign }

module _ (at byte : ℕ) where
  first_prefixed : (later : List Token) → first_close (prefixed at byte later) ≡ first_close later
  first_prefixed [] = refl
  first_prefixed (Open next ∷ later) = refl
  first_prefixed (Close next ∷ later) = refl
  first_prefixed (Word next text ∷ later) = both first_close (next == at + 1) _ _ ∙ same_both (next == at + 1) (first_close later)

  front_prefixed : (later : List Token) → prefixed at byte (to_close later) ≡ to_close (prefixed at byte later)
  front_prefixed [] = refl
  front_prefixed (Open next ∷ later) = refl
  front_prefixed (Close next ∷ later) = refl
  front_prefixed (Word next text ∷ later) = sym (both to_close (next == at + 1) _ _)

  rest_prefixed : (later : List Token) → behind_close (prefixed at byte later) ≡ behind_close later
  rest_prefixed [] = refl
  rest_prefixed (Open next ∷ later) = refl
  rest_prefixed (Close next ∷ later) = refl
  rest_prefixed (Word next text ∷ later) = both behind_close (next == at + 1) _ _ ∙ same_both (next == at + 1) (behind_close later)

-- a byte that is no `)` stands before the first one
record Keeps (at byte close : ℕ) (later : Tokens) (opens word between : Bool) : Type 0 where
  closes : first_close later.tokens ≡ Some close
  front : by_tests at byte opens false word between (front_of later) ≡ front_of (by_tests at byte opens false word between later)
  rest : rest_of (by_tests at byte opens false word between later) ≡ rest_of later

keeps : (at byte close : ℕ) (later : Tokens) (opens word between : Bool) → first_close (by_tests at byte opens false word between later).tokens ≡ Some close → Keeps at byte close later opens word between
keeps at byte close later true word between is = record { closes = is; front = refl; rest = refl }
keeps at byte close later false true between is = record {
  closes = sym (first_prefixed at byte later.tokens) ∙ is;
  front = ap (λ (tokens : List Token). record { tokens = tokens; foreign = None }) (front_prefixed at byte later.tokens);
  rest = ap (λ (tokens : List Token). record { tokens = tokens; foreign = later.foreign }) (rest_prefixed at byte later.tokens);
}
keeps at byte close later false false true is = record { closes = is; front = refl; rest = refl }
keeps at byte close later false false false is = absurd cc

-- the bytes up to the first `)` have the tokens up to it, and the bytes behind it the tokens behind it
record IsCut (is_comment : Bool) (at close : ℕ) (bytes : List ℕ) : Type 0 where
  after : at ≤ close
  front : tokens_from is_comment at (take ((close + 1) - at) bytes) ≡ front_of (tokens_from is_comment at bytes)
  rest : tokens_from false (close + 1) (drop ((close + 1) - at) bytes) ≡ rest_of (tokens_from is_comment at bytes)

cut_close : (at close : ℕ) (bytes : List ℕ) → at ≡ close → IsCut false at close (41 ∷ bytes)
unfolding tokens_from
cut_close at close bytes is =
    let one : (at + 1) - at ≡ 1 = omega arith in
    subst (λ (place : ℕ). IsCut false at place (41 ∷ bytes)) is (record {
      after = omega arith;
      front = ap (λ (len : ℕ). tokens_from false at (take len (41 ∷ bytes))) one;
      rest = ap (λ (len : ℕ). tokens_from false (at + 1) (drop len (41 ∷ bytes))) one;
    })

cut_comment : (at close byte : ℕ) (bytes : List ℕ) → IsCut (is_comment_after true byte) (at + 1) close bytes → IsCut true at close (byte ∷ bytes)
unfolding tokens_from
cut_comment at close byte bytes later =
    let len : (close + 1) - at ≡ suc ((close + 1) - (at + 1)) = longer at (close + 1) (omega (arith, later.after)) in
    record {
      after = omega (arith, later.after);
      front = ap (λ (n : ℕ). tokens_from true at (take n (byte ∷ bytes))) len ∙ later.front;
      rest = ap (λ (n : ℕ). tokens_from false (close + 1) (drop n (byte ∷ bytes))) len ∙ later.rest;
    }

-- a byte outside comments
cut_byte : (closes : Bool) (at close byte : ℕ) (bytes : List ℕ) → (byte == 41) ≡ closes → first_close (tokens_from false at (byte ∷ bytes)).tokens ≡ Some close
    → (first_close (tokens_from (is_comment_after false byte) (at + 1) bytes).tokens ≡ Some close → IsCut (is_comment_after false byte) (at + 1) close bytes)
    → IsCut false at close (byte ∷ bytes)
unfolding tokens_from
cut_byte true at close byte bytes e is go_on =
    let same : byte ≡ 41 = is_byte byte 41 e in
    let here : Some at ≡ Some close = subst (λ (b : ℕ). first_close (tokens_from false at (b ∷ bytes)).tokens ≡ Some close) same is in
    subst (λ (b : ℕ). IsCut false at close (b ∷ bytes)) (sym same) (cut_close at close bytes (cc))
cut_byte false at close byte bytes e is go_on =
    let opens : Bool = byte == 40 in
    let word : Bool = is_of_word byte in
    let between : Bool = is_blank byte || byte == 59 in
    let all : Tokens = tokens_from (is_comment_after false byte) (at + 1) bytes in
    let kept : Keeps at byte close all opens word between = keeps at byte close all opens word between (ap (λ (b : Bool). first_close (by_tests at byte opens b word between all).tokens) (sym e) ∙ is) in
    let later : IsCut (is_comment_after false byte) (at + 1) close bytes = go_on kept.closes in
    let len : (close + 1) - at ≡ suc ((close + 1) - (at + 1)) = longer at (close + 1) (omega (arith, later.after)) in
    record {
      after = omega (arith, later.after);
      front =
          ap (λ (n : ℕ). tokens_from false at (take n (byte ∷ bytes))) len ∙ ap (with_byte at byte) later.front
          ∙ ap (λ (b : Bool). by_tests at byte opens b word between (front_of all)) e ∙ kept.front ∙ ap (λ (b : Bool). front_of (by_tests at byte opens b word between all)) (sym e);
      rest =
          ap (λ (n : ℕ). tokens_from false (close + 1) (drop n (byte ∷ bytes))) len ∙ later.rest
          ∙ sym kept.rest ∙ ap (λ (b : Bool). rest_of (by_tests at byte opens b word between all)) (sym e);
    }

is_cut : (is_comment : Bool) (at close : ℕ) (bytes : List ℕ) → first_close (tokens_from is_comment at bytes).tokens ≡ Some close → IsCut is_comment at close bytes
unfolding tokens_from
is_cut is_comment at close [] is = absurd cc
is_cut true at close (byte ∷ bytes) is = cut_comment at close byte bytes (is_cut (is_comment_after true byte) (at + 1) close bytes is)
is_cut false at close (byte ∷ bytes) is = cut_byte (byte == 41) at close byte bytes refl is (is_cut (is_comment_after false byte) (at + 1) close bytes)

-- ---- the `(` that comes first

abbrev first_open : List Token → Option ℕ
first_open [] = None
first_open (Open at ∷ later) = Some at
first_open (Close at ∷ later) = None
first_open (Word at text ∷ later) = None

no_open : (at byte : ℕ) (later : List Token) → first_open (prefixed at byte later) ≡ None
no_open at byte [] = refl
no_open at byte (Open next ∷ later) = refl
no_open at byte (Close next ∷ later) = refl
no_open at byte (Word next text ∷ later) = both first_open (next == at + 1) _ _ ∙ same_both (next == at + 1) None

-- the tokens from the place of that `(` on are the same
record Begins (is_comment : Bool) (at open_at : ℕ) (bytes : List ℕ) : Type 0 where
  after : at ≤ open_at
  same : tokens_from false open_at (drop (open_at - at) bytes) ≡ tokens_from is_comment at bytes

-- the byte is that `(`, or comes before the tokens
open_byte : {P : Type 0} (at byte place : ℕ) (later : Tokens) (opens closes word between : Bool) → first_open (by_tests at byte opens closes word between later).tokens ≡ Some place
    → (at ≡ place → P) → (first_open later.tokens ≡ Some place → later ≡ by_tests at byte opens closes word between later → P) → P
open_byte at byte place later true closes word between is here there = here (cc)
open_byte at byte place later false true word between is here there = absurd cc
open_byte at byte place later false false true between is here there = absurd (let none : None ≡ Some place = sym (no_open at byte later.tokens) ∙ is in cc)
open_byte at byte place later false false false true is here there = there is refl
open_byte at byte place later false false false false is here there = absurd cc

begins_here : (at place : ℕ) (bytes : List ℕ) → at ≡ place → Begins false at place bytes
begins_here at place bytes is =
    let none : at - at ≡ 0 = omega arith in
    subst (λ (p : ℕ). Begins false at p bytes) is (record { after = omega arith; same = ap (λ (n : ℕ). tokens_from false at (drop n bytes)) none })

begins_later : (is_comment : Bool) (at place byte : ℕ) (bytes : List ℕ) → Begins (is_comment_after is_comment byte) (at + 1) place bytes
    → tokens_from (is_comment_after is_comment byte) (at + 1) bytes ≡ tokens_from is_comment at (byte ∷ bytes) → Begins is_comment at place (byte ∷ bytes)
begins_later is_comment at place byte bytes later is =
    record {
      after = omega (arith, later.after);
      same = ap (λ (n : ℕ). tokens_from false place (drop n (byte ∷ bytes))) (longer at place later.after) ∙ later.same ∙ is;
    }

begins : (is_comment : Bool) (at place : ℕ) (bytes : List ℕ) → first_open (tokens_from is_comment at bytes).tokens ≡ Some place → Begins is_comment at place bytes
unfolding tokens_from
begins is_comment at place [] is = absurd cc
begins true at place (byte ∷ bytes) is = begins_later true at place byte bytes (begins (is_comment_after true byte) (at + 1) place bytes is) refl
begins false at place (byte ∷ bytes) is =
    open_byte at byte place (tokens_from (is_comment_after false byte) (at + 1) bytes) (byte == 40) (byte == 41) (is_of_word byte) (is_blank byte || byte == 59) is
    (begins_here at place (byte ∷ bytes))
    (λ first same. begins_later false at place byte bytes (begins (is_comment_after false byte) (at + 1) place bytes first) same)

-- a text alone has the marks that it has at an offset
record IsAlone (text : List ℕ) (tokens : List Token) : Type 0 where
  known : (tokens_of text).foreign ≡ None
  marks : map mark_of (tokens_of text).tokens ≡ map mark_of tokens

alone : (text : List ℕ) (at : ℕ) (tokens : List Token) → tokens_from false at text ≡ record { tokens = tokens; foreign = None } → IsAlone text tokens
alone text at tokens is =
    let all : moved_tokens at (tokens_of text) ≡ record { tokens = tokens; foreign = None } = sym (moved_from false 0 at at text (omega arith)) ∙ is in
    record {
      known = none_moved at (tokens_of text).foreign (ap (λ (t : Tokens). t.foreign) all);
      marks = sym (marks_moved at (tokens_of text).tokens) ∙ ap (λ (t : Tokens). map mark_of t.tokens) all;
    }

-- ---- a step

-- arguments and the `)` behind them
record IsEnded (args : List Name) (m : List Mark) (tokens : List Token) : Type 0 where
  close : ℕ
  closes : first_close tokens ≡ Some close
  front : map mark_of (to_close tokens) ≡ map Names args ++ Closes ∷ []
  rest : map mark_of (behind_close tokens) ≡ m
  steps : (source : List ℕ) (count begin : ℕ) → steps_from source (Named count) begin tokens ≡ step_between source begin close ∷ steps_from source (Outside count) 0 (behind_close tokens)

unless : (b : Bool) (code : Code) (later : List StepText) → b ≡ true → unless_offence (if b then None else Some code) later ≡ later
unless b code later is = rw is refl

ended : (args : List Name) (tokens : List Token) (m : List Mark) → map mark_of tokens ≡ map Names args ++ Closes ∷ m → list_all is_plan_word args ≡ true → IsEnded args m tokens
unfolding steps_from
ended [] [] m is words = absurd cc
ended (arg ∷ args) [] m is words = absurd cc
ended [] (Open at ∷ later) m is words = absurd cc
ended [] (Word at text ∷ later) m is words = absurd cc
ended [] (Close at ∷ later) m is words = record { close = at; closes = refl; front = refl; rest = cc; steps = λ source count begin. refl }
ended (arg ∷ args) (Open at ∷ later) m is words = absurd cc
ended (arg ∷ args) (Close at ∷ later) m is words = absurd cc
ended (arg ∷ args) (Word at text ∷ later) m is words =
    let same : text ≡ arg = cc in
    let apart = and_parts (is_plan_word arg) (list_all is_plan_word args) words in
    let end : IsEnded args m later = ended args later m (cc) apart.1 in
    record {
      close = end.close;
      closes = end.closes;
      front = λ i. Names (same i) ∷ end.front i;
      rest = end.rest;
      steps = λ source count begin. unless (is_plan_word text) Malformed (steps_from source (Named count) begin later) (ap is_plan_word same ∙ apart.0) ∙ end.steps source count begin;
    }

-- ---- the steps of a text

module _ (source : List ℕ) (step : Step) (m : List Mark) (at place next : ℕ) (text : List ℕ) (tokens : List Token)
    (is : tokens_from false at (drop at source) ≡ record { tokens = Open place ∷ Word next text ∷ tokens; foreign = None })
    (same : text ≡ step.action) (words : has_plan_words step ≡ true) (end : IsEnded step.args m tokens) where
  abbrev slice : List ℕ
  slice = take ((end.close + 1) - place) (drop place source)

  -- from the `(` on
  there : tokens_from false place (drop place source) ≡ record { tokens = Open place ∷ Word next text ∷ tokens; foreign = None }
  there =
      let begin : Begins false at place (drop at source) = begins false at place (drop at source) (ap (λ (t : Tokens). first_open t.tokens) is) in
      let sum : at + (place - at) ≡ place = omega (arith, begin.after) in
      ap (λ (n : ℕ). tokens_from false place (drop n source)) (sym sum) ∙ ap (tokens_from false place) (sym (drop-drop (place - at) at source)) ∙ begin.same ∙ is

  cut : IsCut false place end.close (drop place source)
  cut = is_cut false place end.close (drop place source) (ap (λ (t : Tokens). first_close t.tokens) there ∙ end.closes)

  -- from behind the `)` on
  beyond : tokens_from false (end.close + 1) (drop (end.close + 1) source) ≡ record { tokens = behind_close tokens; foreign = None }
  beyond =
      let sum : place + ((end.close + 1) - place) ≡ end.close + 1 = omega (arith, cut.after) in
      ap (λ (n : ℕ). tokens_from false (end.close + 1) (drop n source)) (sym sum) ∙ ap (tokens_from false (end.close + 1)) (sym (drop-drop ((end.close + 1) - place) place source)) ∙ cut.rest ∙ ap rest_of there

  slice_is_text : IsPlanText slice (step ∷ [])
  slice_is_text =
      let all : IsAlone slice (Open place ∷ Word next text ∷ to_close tokens) = alone slice place (Open place ∷ Word next text ∷ to_close tokens) (cut.front ∙ ap front_of there) in
      record {
        known = all.known;
        marks = all.marks ∙ (λ i. Opens ∷ Names (same i) ∷ end.front i) ∙ sym (append-nil (step_marks step));
        words = rw words refl;
      }

  -- the reader gives the slice first
  slice_first : (count more : ℕ) → count + suc more ≤ step_limit
      → steps_from source (Outside count) 0 (Open place ∷ Word next text ∷ tokens) ≡ step_between source place end.close ∷ steps_from source (Outside (count + 1)) 0 (behind_close tokens)
  unfolding steps_from
  slice_first count more few =
      let steps : List StepText = steps_from source (Named (count + 1)) place tokens in
      let named : is_plan_word text ≡ true = ap is_plan_word same ∙ (and_parts (is_plan_word step.action) (list_all is_plan_word step.args) words).0 in
      unless (nat_lt count step_limit) TooManySteps (unless_offence (word_offence text) steps) (below count more few) ∙ unless (is_plan_word text) Malformed steps named ∙ end.steps source (count + 1) place

  -- one step more
  texts_more : (plan : Plan) (count : ℕ) → count + suc (length plan) ≤ step_limit
      → ((later_at : ℕ) (later : List Token) → tokens_from false later_at (drop later_at source) ≡ record { tokens = later; foreign = None } → map mark_of later ≡ m → AreTextsOf (steps_from source (Outside (count + 1)) 0 later) plan)
      → AreTextsOf (steps_from source (Outside count) 0 (Open place ∷ Word next text ∷ tokens)) (step ∷ plan)
  unfolding AreTextsOf
  texts_more plan count few go_on =
      subst (λ (slices : List StepText). AreTextsOf slices (step ∷ plan)) (sym (slice_first count (length plan) few)) (slice_is_text, go_on (end.close + 1) (behind_close tokens) beyond end.rest)

-- the tokens of a plan give texts of its steps
texts : (source : List ℕ) (plan : Plan) (count at : ℕ) (tokens : List Token) → tokens_from false at (drop at source) ≡ record { tokens = tokens; foreign = None }
    → map mark_of tokens ≡ flat_map step_marks plan → list_all has_plan_words plan ≡ true → count + length plan ≤ step_limit → AreTextsOf (steps_from source (Outside count) 0 tokens) plan
unfolding AreTextsOf steps_from
texts source [] count at [] is marks words few = tt
texts source [] count at (token ∷ tokens) is marks words few = absurd cc
texts source (step ∷ plan) count at [] is marks words few = absurd cc
texts source (step ∷ plan) count at (Close place ∷ tokens) is marks words few = absurd cc
texts source (step ∷ plan) count at (Word place text ∷ tokens) is marks words few = absurd cc
texts source (step ∷ plan) count at (Open place ∷ []) is marks words few = absurd cc
texts source (step ∷ plan) count at (Open place ∷ Open next ∷ tokens) is marks words few = absurd cc
texts source (step ∷ plan) count at (Open place ∷ Close next ∷ tokens) is marks words few = absurd cc
texts source (step ∷ plan) count at (Open place ∷ Word next text ∷ tokens) is marks words few =
    let same : text ≡ step.action = cc in
    let all = and_parts (has_plan_words step) (list_all has_plan_words plan) words in
    let later : map mark_of tokens ≡ (map Names step.args ++ Closes ∷ []) ++ flat_map step_marks plan = cc in
    let grouped : map mark_of tokens ≡ map Names step.args ++ Closes ∷ flat_map step_marks plan = later ∙ append_assoc (map Names step.args) (Closes ∷ []) (flat_map step_marks plan) in
    let end : IsEnded step.args (flat_map step_marks plan) tokens = ended step.args tokens (flat_map step_marks plan) grouped (and_parts (is_plan_word step.action) (list_all is_plan_word step.args) all.0).1 in
    texts_more source step (flat_map step_marks plan) at place next text tokens is same all.0 end plan count few
    (λ later_at rest is_rest rest_marks. texts source plan (count + 1) later_at rest is_rest rest_marks all.1 (omega (arith, few)))

-- each slice that a new reader gives is a text of its step
pub slices_are_texts_of_steps : (text : List ℕ) (plan : Plan) → IsPlanText text plan → length plan ≤ step_limit → AreTextsOf (all_of text).steps plan
slices_are_texts_of_steps text plan is few =
    texts text plan 0 0 (tokens_of text).tokens (λ i. record { tokens = (tokens_of text).tokens; foreign = is.known i }) is.marks is.words (omega (arith, few))
