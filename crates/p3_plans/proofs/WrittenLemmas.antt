-- The tokens of a written plan.
use Rattle.std.proofs.Common.{arith, ◌≡◌, ℕ, ◌+◌, ◌-◌, ◌<◌, List, [], ◌∷◌, ◌++◌, Bool, true, false, length, map, flat_map, take, drop, None, refl, sym, ap, subst, ◌∙◌}
use Rattle.std.specs.Prelude.{◌||◌, ◌==◌, IsTrue, if◌then◌else◌}
use Rattle.std.specs.List.{list_all, prefix_len}
use Rattle.std.specs.Char.{to_ascii_lowercase}
use Rattle.std.specs.Str.{str_to_ascii_lowercase}
use Rattle.std.proofs.Math.ListN.{replicate}
use Rattle.std.proofs.Math.Seq.{drop-append_seam, take-append_seam, drop-append-add}
use Rattle.std.proofs.lemmas.Bool.{and_parts}
use Rattle.std.proofs.lemmas.Bool.Decides.{nat_tests}
use Rattle.std.proofs.lemmas.List.{append_assoc, length-append, length-replicate}
use Rattle.p3_task.specs.declared.task.Step.{Step}
use Rattle.p3_task.specs.Names.{Name}
use Rattle.p3_task.specs.Plans.{Plan}
use Rattle.p3_task.specs.Tokens.{Token, Word, Tokens, before, is_of_word, tokens_from}
use Rattle.p3_task.specs.PlanTexts.{Mark, Opens, Closes, Names, mark_of, step_marks, is_plan_word, has_plan_words, IsPlanText}
use Rattle.p3_lexer.specs.Lexing.{token_of, token_len}
use Rattle.p3_lexer.proofs.TokenLemmas.{tokens_token}
use Rattle.p3_base.specs.Words.{is_lowered}
use Rattle.p3_plans.specs.Layout.{argument_layout, step_layout, plan_layout, is_written_word, has_written_words}

-- the tokens of the bytes, wherever they stand
record Reads (bytes : List ℕ) (all : List Mark) : Type 0 where
  marks : (at : ℕ) → map mark_of (tokens_from false at bytes).tokens ≡ all
  known : (at : ℕ) → (tokens_from false at bytes).foreign ≡ None

reads_end : Reads [] []
unfolding tokens_from
reads_end = record { marks = λ at. refl; known = λ at. refl }

module _ (rest : List ℕ) (m : List Mark) (reads : Reads rest m) where
  reads_open : Reads (40 ∷ rest) (Opens ∷ m)
  unfolding tokens_from
  reads_open = record { marks = λ at. ap (λ (later : List Mark). Opens ∷ later) (reads.marks (at + 1)); known = λ at. reads.known (at + 1) }

  reads_blank : Reads (32 ∷ rest) m
  unfolding tokens_from
  reads_blank = record { marks = λ at. reads.marks (at + 1); known = λ at. reads.known (at + 1) }

  -- a `)` at the end of its line
  reads_close : Reads (41 ∷ 10 ∷ rest) (Closes ∷ m)
  unfolding tokens_from
  reads_close = record { marks = λ at. ap (λ (later : List Mark). Closes ∷ later) (reads.marks ((at + 1) + 1)); known = λ at. reads.known ((at + 1) + 1) }

-- ---- a word

of_word : (byte : ℕ) → is_lowered byte ≡ true → is_of_word byte ≡ true
of_word byte is = (and_parts (is_of_word byte) _ is).0

lower : (byte : ℕ) → is_lowered byte ≡ true → to_ascii_lowercase byte ≡ byte
lower byte is = grind (arith, nat_tests)

lowered : (word : List ℕ) → list_all is_lowered word ≡ true → str_to_ascii_lowercase word ≡ word
lowered [] all = refl
lowered (byte ∷ bytes) all =
    let apart = and_parts (is_lowered byte) (list_all is_lowered bytes) all in
    (λ i. lower byte apart.0 i ∷ lowered bytes apart.1 i)

-- no word goes on there
StartsOff : List ℕ → Type 0
StartsOff [] = Unit {0}
StartsOff (byte ∷ bytes) = is_of_word byte ≡ false

off_len : (rest : List ℕ) → StartsOff rest → prefix_len is_of_word rest ≡ 0
unfolding StartsOff
off_len [] off = refl
off_len (byte ∷ bytes) off = rw off refl

run_len : (word rest : List ℕ) → list_all is_lowered word ≡ true → StartsOff rest → prefix_len is_of_word (word ++ rest) ≡ length word
run_len [] rest all off = off_len rest off
run_len (byte ∷ bytes) rest all off =
    let apart = and_parts (is_lowered byte) (list_all is_lowered bytes) all in
    let later : prefix_len is_of_word (bytes ++ rest) ≡ length bytes = run_len bytes rest apart.1 off in
    rw (of_word byte apart.0, later) (omega arith)

no_open : (byte : ℕ) → is_of_word byte ≡ true → (byte == 40) ≡ false
no_open byte is = grind (arith, nat_tests)

no_close : (byte : ℕ) → is_of_word byte ≡ true → (byte == 41) ≡ false
no_close byte is = grind (arith, nat_tests)

module _ (first : ℕ) (others rest : List ℕ) (all : list_all is_lowered (first ∷ others) ≡ true) (off : StartsOff rest) (at : ℕ) where
  abbrev word : List ℕ
  word = first ∷ others

  abbrev front : List ℕ
  front = replicate at 0

  abbrev text : List ℕ
  text = front ++ (word ++ rest)

  is_word : is_of_word first ≡ true
  is_word = of_word first (and_parts (is_lowered first) (list_all is_lowered others) all).0

  here : drop at text ≡ word ++ rest
  here = ap (λ (n : ℕ). drop n text) (sym (length-replicate at 0)) ∙ drop-append_seam front (word ++ rest)

  there : drop (at + length word) text ≡ rest
  there = ap (λ (n : ℕ). drop (n + length word) text) (sym (length-replicate at 0)) ∙ drop-append-add front (word ++ rest) (length word) ∙ drop-append_seam word rest

  within : at < length text
  within =
      let len : length front ≡ at = length-replicate at 0 in
      omega (arith, length-append front (word ++ rest), len)

  ends : at + length word ≡ at + token_len (drop at text)
  ends =
      let no_parenthesis : (first == 40 || first == 41) ≡ false = rw (no_open first is_word, no_close first is_word) refl in
      let len : token_len (word ++ rest) ≡ length word = ap (λ (one : Bool). if one then 1 else prefix_len is_of_word (word ++ rest)) no_parenthesis ∙ run_len word rest all off in
      ap (λ (n : ℕ). at + n) (sym (ap token_len here ∙ len))

  taken : take ((at + length word) - at) (drop at text) ≡ word
  taken =
      let len : (at + length word) - at ≡ length word = omega arith in
      (λ i. take (len i) (here i)) ∙ take-append_seam word rest

  kind : token_of at word ≡ Word at word
  kind = rw (no_open first is_word, no_close first is_word) (ap (Word at) (lowered word all))

  -- the word is a token
  word_first : tokens_from false at (word ++ rest) ≡ before (Word at word) (tokens_from false (at + length word) rest)
  word_first =
      ap (tokens_from false at) (sym here) ∙ tokens_token text at (at + length word) within ends (omega arith)
      ∙ (λ i. before (token_of at (taken i)) (tokens_from false (at + length word) (there i))) ∙ ap (λ (t : Token). before t (tokens_from false (at + length word) rest)) kind

reads_word : (word rest : List ℕ) (m : List Mark) → is_written_word word ≡ true → StartsOff rest → Reads rest m → Reads (word ++ rest) (Names word ∷ m)
reads_word [] rest m is off reads = absurd cc
reads_word (first ∷ others) rest m is off reads =
    let all : list_all is_lowered (first ∷ others) ≡ true = (and_parts (is_plan_word (first ∷ others)) (list_all is_lowered (first ∷ others)) is).1 in
    record {
      marks = λ at. ap (λ (t : Tokens). map mark_of t.tokens) (word_first first others rest all off at) ∙ ap (λ (later : List Mark). Names (first ∷ others) ∷ later) (reads.marks (at + length (first ∷ others)));
      known = λ at. ap (λ (t : Tokens). t.foreign) (word_first first others rest all off at) ∙ reads.known (at + length (first ∷ others));
    }

-- ---- a step, and a plan

starts_off : (args : List Name) (rest : List ℕ) → StartsOff (flat_map argument_layout args ++ 41 ∷ rest)
unfolding StartsOff
starts_off [] rest = refl
starts_off (arg ∷ args) rest = refl

reads_arguments : (args : List Name) (rest : List ℕ) (m : List Mark) → list_all is_written_word args ≡ true → Reads rest m
    → Reads (flat_map argument_layout args ++ 41 ∷ 10 ∷ rest) (map Names args ++ Closes ∷ m)
reads_arguments [] rest m all reads = reads_close rest m reads
reads_arguments (arg ∷ args) rest m all reads =
    let apart = and_parts (is_written_word arg) (list_all is_written_word args) all in
    let later : List ℕ = flat_map argument_layout args ++ 41 ∷ 10 ∷ rest in
    let grouped : arg ++ later ≡ (arg ++ flat_map argument_layout args) ++ 41 ∷ 10 ∷ rest = sym (append_assoc arg (flat_map argument_layout args) (41 ∷ 10 ∷ rest)) in
    subst (λ (bytes : List ℕ). Reads (32 ∷ bytes) (map Names (arg ∷ args) ++ Closes ∷ m)) grouped
    (reads_blank (arg ++ later) _ (reads_word arg later (map Names args ++ Closes ∷ m) apart.0 (starts_off args (10 ∷ rest)) (reads_arguments args rest m apart.1 reads)))

reads_step : (step : Step) (rest : List ℕ) (m : List Mark) → has_written_words step ≡ true → Reads rest m → Reads (step_layout step ++ rest) (step_marks step ++ m)
reads_step step rest m all reads =
    let apart = and_parts (is_written_word step.action) (list_all is_written_word step.args) all in
    let spaced : List ℕ = flat_map argument_layout step.args in
    let later : List ℕ = spaced ++ 41 ∷ 10 ∷ rest in
    let grouped : step.action ++ later ≡ (step.action ++ (spaced ++ 41 ∷ 10 ∷ [])) ++ rest = simp append_assoc in
    let marks : map Names step.args ++ Closes ∷ m ≡ (map Names step.args ++ Closes ∷ []) ++ m = sym (append_assoc (map Names step.args) (Closes ∷ []) m) in
    subst (λ (bytes : List ℕ). Reads (40 ∷ bytes) (step_marks step ++ m)) grouped
    (subst (λ (ms : List Mark). Reads (40 ∷ step.action ++ later) (Opens ∷ Names step.action ∷ ms)) marks
    (reads_open (step.action ++ later) _ (reads_word step.action later (map Names step.args ++ Closes ∷ m) apart.0 (starts_off step.args (10 ∷ rest)) (reads_arguments step.args rest m apart.1 reads))))

reads_plan : (plan : Plan) → list_all has_written_words plan ≡ true → Reads (plan_layout plan) (flat_map step_marks plan)
reads_plan [] all = reads_end
reads_plan (step ∷ plan) all =
    let apart = and_parts (has_written_words step) (list_all has_written_words plan) all in
    reads_step step (plan_layout plan) (flat_map step_marks plan) apart.0 (reads_plan plan apart.1)

plan_words : (words : List Name) → list_all is_written_word words ≡ true → list_all is_plan_word words ≡ true
plan_words [] all = refl
plan_words (word ∷ words) all =
    let apart = and_parts (is_written_word word) (list_all is_written_word words) all in
    rw ((and_parts (is_plan_word word) (list_all is_lowered word) apart.0).0, plan_words words apart.1) refl

plan_steps : (plan : Plan) → list_all has_written_words plan ≡ true → list_all has_plan_words plan ≡ true
plan_steps [] all = refl
plan_steps (step ∷ plan) all =
    let apart = and_parts (has_written_words step) (list_all has_written_words plan) all in
    rw (plan_words (step.action ∷ step.args) apart.0, plan_steps plan apart.1) refl

-- what is written is a text of the plan
pub layout_is_text : (bytes : List ℕ) (plan : Plan) → bytes ≡ plan_layout plan → IsTrue (list_all has_written_words plan) → IsPlanText bytes plan
layout_is_text bytes plan is all =
    let reads = reads_plan plan all in
    subst (λ (t : List ℕ). IsPlanText t plan) (sym is) (record { known = reads.known 0; marks = reads.marks 0; words = plan_steps plan all })
