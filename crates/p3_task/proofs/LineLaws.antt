-- The lines of a text, and the step that a line without an offence has.
use Rattle.std.proofs.Common.{◌≡◌, ◌∙◌, ℕ, suc, ◌+◌, Bool, true, false, ◌||◌, List, [], ◌∷◌, ◌++◌, length, map, refl, sym, ap, arith, true≢false, Option, Some, None}
use Rattle.std.specs.Prelude.{filter_map, flat_map}
use Rattle.std.specs.List.{All, list_any}
use Rattle.std.proofs.lemmas.List.Elements.{All-cons, All-head, All-nil, All-tail}
use Rattle.p3_base.specs.Place.{is_line_feed}
use Rattle.p3_task.specs.Names.{Name}
use Rattle.p3_task.specs.Plans.{Plan}
use Rattle.p3_task.specs.PlanTexts.{IsPlanText, Mark, Opens, Closes, Names, mark_of, step_marks}
use Rattle.p3_task.specs.Tokens.{Token, Open, Close, Word, tokens_of}
use Rattle.p3_task.specs.declared.task.Step.{Step}
use Rattle.p3_task.specs.Watching.{IsLine, Piece, LineText, Empty, OneStep, Offends, lines_from, open_behind, piece_before, second_step, step_in, word_of}

-- ---- lines

longer : (most : ℕ) (piece : Piece) → IsLine most piece → IsLine (suc most) piece
longer most piece is = let s = is.short in record { one = is.one; short = omega (arith, s) }

all_longer : (most : ℕ) (pieces : List Piece) → All (IsLine most) pieces → All (IsLine (suc most)) pieces
all_longer most [] all = All-nil (IsLine (suc most))
all_longer most (piece ∷ pieces) all = All-cons (IsLine (suc most)) piece pieces (longer most piece (All-head (IsLine most) piece pieces all)) (all_longer most pieces (All-tail (IsLine most) piece pieces all))

pub are_lines : (at : ℕ) (bytes : List ℕ) → All (IsLine (length bytes)) (lines_from at bytes)
unfolding lines_from
are_lines at [] = All-nil (IsLine 0)
are_lines at (byte ∷ bytes) = by (is_line_feed byte) refl (lines_from (at + 1) bytes) (are_lines (at + 1) bytes) where
  by : (b : Bool) → is_line_feed byte ≡ b → (pieces : List Piece) → All (IsLine (length bytes)) pieces → All (IsLine (suc (length bytes))) (piece_before b at byte pieces)
  by true e pieces all = All-cons (IsLine (suc (length bytes))) (record { at = at; bytes = [] }) pieces (record { one = refl; short = omega arith }) (all_longer (length bytes) pieces all)
  by false e [] all = All-cons (IsLine (suc (length bytes))) (record { at = at; bytes = byte ∷ [] }) [] (record { one = ap (λ b. b || false) e; short = omega arith }) (All-nil (IsLine (suc (length bytes))))
  by false e (piece ∷ pieces) all =
      let head = All-head (IsLine (length bytes)) piece pieces all in
      let s = head.short in
      All-cons (IsLine (suc (length bytes))) (record { at = at; bytes = byte ∷ piece.bytes }) pieces
      (record { one = ap (λ b. b || list_any is_line_feed piece.bytes) e ∙ head.one; short = omega (arith, s) })
      (all_longer (length bytes) pieces (All-tail (IsLine (length bytes)) piece pieces all))

-- ---- the step of a line, by its marks

abbrev name_in : Mark → Option Name
name_in Opens = None
name_in Closes = None
name_in (Names word) = Some word

abbrev open_mark : List Mark → Bool
open_mark [] = false
open_mark (Opens ∷ marks) = true
open_mark (Closes ∷ marks) = open_mark marks
open_mark (Names word ∷ marks) = open_mark marks

abbrev second_mark : List Mark → Bool
second_mark [] = false
second_mark (Opens ∷ marks) = second_mark marks
second_mark (Closes ∷ marks) = open_mark marks
second_mark (Names word ∷ marks) = second_mark marks

abbrev step_of_marks : List Mark → Option Step
step_of_marks (Opens ∷ Names name ∷ marks) = Some (record { action = name; args = filter_map name_in marks })
step_of_marks marks = None

abbrev step_there : LineText → Option Step
step_there (Offends offence) = None
step_there Empty = None
step_there (OneStep place own) = Some own

words_by_marks : (tokens : List Token) → filter_map word_of tokens ≡ filter_map name_in (map mark_of tokens)
words_by_marks [] = refl
words_by_marks (Open at ∷ tokens) = words_by_marks tokens
words_by_marks (Close at ∷ tokens) = words_by_marks tokens
words_by_marks (Word at text ∷ tokens) = ap (λ rest. text ∷ rest) (words_by_marks tokens)

no_open : (tokens : List Token) → open_behind tokens ≡ None → open_mark (map mark_of tokens) ≡ false
no_open [] e = refl
no_open (Open at ∷ tokens) e = absurd (cc)
no_open (Close at ∷ tokens) e = no_open tokens e
no_open (Word at text ∷ tokens) e = no_open tokens e

no_second : (tokens : List Token) → second_step tokens ≡ None → second_mark (map mark_of tokens) ≡ false
no_second [] e = refl
no_second (Open at ∷ tokens) e = no_second tokens e
no_second (Close at ∷ tokens) e = no_open tokens e
no_second (Word at text ∷ tokens) e = no_second tokens e

step_by_marks : (tokens : List Token) (at : ℕ) (step : Step) → step_in tokens ≡ OneStep at step → step_of_marks (map mark_of tokens) ≡ Some step
step_by_marks [] at step e = absurd (cc)
step_by_marks (Close place ∷ tokens) at step e = absurd (cc)
step_by_marks (Word place text ∷ tokens) at step e = absurd (cc)
step_by_marks (Open place ∷ []) at step e = absurd (cc)
step_by_marks (Open place ∷ Open next ∷ tokens) at step e = absurd (cc)
step_by_marks (Open place ∷ Close next ∷ tokens) at step e = absurd (cc)
step_by_marks (Open place ∷ Word next name ∷ tokens) at step e =
    ap (λ words. Some (record { action = name; args = words })) (sym (words_by_marks tokens)) ∙ ap step_there e

-- a step's arguments, and behind them whatever comes
args_there : (args : List Name) → filter_map name_in (map Names args ++ Closes ∷ []) ≡ args
args_there [] = refl
args_there (arg ∷ args) = ap (λ rest. arg ∷ rest) (args_there args)

second_there : (args : List Name) (marks : List Mark) → second_mark (map Names args ++ Closes ∷ Opens ∷ marks) ≡ true
second_there [] marks = refl
second_there (arg ∷ args) marks = second_there args marks

append_more : (args : List Name) (marks : List Mark) → (map Names args ++ Closes ∷ []) ++ marks ≡ map Names args ++ Closes ∷ marks
append_more [] marks = refl
append_more (arg ∷ args) marks = ap (λ rest. Names arg ∷ rest) (append_more args marks)

by_marks : (plan : Plan) (step : Step) → second_mark (flat_map step_marks plan) ≡ false → step_of_marks (flat_map step_marks plan) ≡ Some step → plan ≡ step ∷ []
by_marks [] step none is = absurd (cc)
by_marks (own ∷ []) step none is =
    let e : Some (record { action = own.action; args = own.args }) ≡ Some step = ap (λ words. Some (record { action = own.action; args = words })) (sym (ap (filter_map name_in) (append_more own.args []) ∙ args_there own.args)) ∙ is in
    let same : own ≡ step = cc in λ i. same i ∷ []
by_marks (own ∷ other ∷ plan) step none is = absurd (true≢false (sym (ap second_mark (append_more own.args _) ∙ second_there own.args _) ∙ none))

-- where the tokens of a text are those of a plan, and it has one step, the plan is that step
pub one_step_plan : (bytes : List ℕ) (plan : Plan) (at : ℕ) (step : Step) → IsPlanText bytes plan → second_step (tokens_of bytes).tokens ≡ None → step_in (tokens_of bytes).tokens ≡ OneStep at step → plan ≡ step ∷ []
one_step_plan bytes plan at step is none one =
    by_marks plan step (ap second_mark (sym is.marks) ∙ no_second (tokens_of bytes).tokens none) (ap step_of_marks (sym is.marks) ∙ step_by_marks (tokens_of bytes).tokens at step one)
