-- The loop over the lines of a text: the blocks that are put and those that are left make up all.
use Rattle.std.proofs.Common.{◌≡◌, ◌∙◌, ℕ, ◌+◌, ◌<◌, ◌≤◌, Bool, true, false, ltb-true, ltb-false, drop-drop, List, [], ◌∷◌, ◌++◌, length, drop, refl, sym, ap, subst, arith, append_assoc, length-drop, Option}
use Rattle.std.specs.Prelude.{min, nat_lt}
use Rattle.std.proofs.lemmas.List.{append-nil, drop_all}
use Rattle.std.proofs.lemmas.List.Elements.{All-head, All-tail}
use Rattle.p3_base.specs.Outside.{IsPartlyPut, IsPut}
use Rattle.p3_tree.specs.Reports.Watching.{block, blocks, watch_lines}
use Rattle.p3_task.specs.Watching.{Piece, answer_to, line_text, lines_from, taken_after}
use Rattle.p3_task.specs.declared.task.Task.{Task}
use Rattle.p3_formula.specs.declared.task.GroundTask.{GroundTask}
use Rattle.p3_ground.specs.PlansByNumber.{AreNumbers}
use Rattle.p3_reports.proofs.PutLemmas.{both_put, partly_first, partly_second}
use Rattle.p3_run.specs.Runs.{Ran}
use Rattle.p3_watch.specs.Following.{IsFollowed}
use Rattle.p3_watch.specs.Lines.{line_at, line_len}
use Rattle.p3_watch.specs.Watching.{AreLinesAsked, IsAnswered, IsAskedBy, OfAnswer}
use Rattle.p3_watch.specs.declared.watch.Line.{Line}
use Rattle.p3_watch.proofs.BlockLemmas.{none_put}
use Rattle.p3_watch.proofs.LineLemmas.{line_ahead}

-- the lines behind one of so many bytes
pub lines_same : (text : List ℕ) (at len next : ℕ) → next ≡ min (length text) (at + len + 1) → lines_from next (drop next text) ≡ lines_from (at + len + 1) (drop (len + 1) (drop at text))
unfolding lines_from
lines_same text at len next is = by (nat_lt next (length text)) refl ∙ ap (lines_from (at + len + 1)) (sym rest)
  where
    place : at + (len + 1) ≡ at + len + 1
    place = omega arith

    rest : drop (len + 1) (drop at text) ≡ drop (at + len + 1) text
    rest = drop-drop (len + 1) at text ∙ ap (λ n. drop n text) place

    by : (b : Bool) → nat_lt next (length text) ≡ b → lines_from next (drop next text) ≡ lines_from (at + len + 1) (drop (at + len + 1) text)
    by true e =
        let low = ltb-true next (length text) e in
        let same : next ≡ at + len + 1 = omega (arith, low, is) in
        ap (λ n. lines_from n (drop n text)) same
    by false e =
        let past = ltb-false next (length text) e in
        let far : length text ≤ at + len + 1 = omega (arith, past, is) in
        ap (lines_from next) (drop_all next text past) ∙ sym (ap (lines_from (at + len + 1)) (drop_all (at + len + 1) text far))

-- the line there, and those behind it
module _ (T : Task) (G : GroundTask) (text : List ℕ) (at : ℕ) (low : at < length text) (asked : AreLinesAsked T G (lines_from at (drop at text))) where
  ahead_asked : AreLinesAsked T G (record { at = at; bytes = line_at text at } ∷ lines_from (at + line_len (drop at text) + 1) (drop (line_len (drop at text) + 1) (drop at text)))
  ahead_asked = let some : 0 < length (drop at text) = omega (arith, low, length-drop at text) in subst (AreLinesAsked T G) (line_ahead at (drop at text) some) asked

  pub line_asked : IsAskedBy T G (line_text (line_at text at))
  line_asked = All-head (λ (piece : Piece). IsAskedBy T G (line_text piece.bytes)) _ _ ahead_asked

  pub later_asked : (next : ℕ) → next ≡ min (length text) (at + line_len (drop at text) + 1) → AreLinesAsked T G (lines_from next (drop next text))
  later_asked next is = subst (AreLinesAsked T G) (sym (lines_same text at (line_len (drop at text)) next is)) (All-tail (λ (piece : Piece). IsAskedBy T G (line_text piece.bytes)) _ _ ahead_asked)

module _ (T : Task) (text : List ℕ) (old : Option (List ℕ)) where
  -- before the first line
  pub follows_first : (ran : Ran) (at : ℕ) → ran.plan ≡ [] → at ≡ 0 → IsFollowed T text old old ran at
  unfolding watch_lines
  follows_first ran at none first = record {
    plan = [];
    numbers = subst (AreNumbers T []) (sym none) tt;
    bytes = [];
    put = none_put old;
    all = ap (λ n. blocks T text [] (lines_from n (drop n text))) first;
  }

  module _ (mid : Option (List ℕ)) (ran : Ran) (at : ℕ) (follows : IsFollowed T text old mid ran at) where
    -- behind the last line
    pub follows_end : length text ≤ at → IsPut (watch_lines T text) old mid
    unfolding blocks lines_from
    follows_end past =
        let none : blocks T text follows.plan (lines_from at (drop at text)) ≡ [] = ap (λ rest. blocks T text follows.plan (lines_from at rest)) (drop_all at text past) in
        subst (λ whole. IsPut whole old mid) (sym (append-nil follows.bytes) ∙ ap (λ rest. follows.bytes ++ rest) (sym none) ∙ follows.all) follows.put

    -- at a line
    module _ (low : at < length text) (new : Ran) (told : Line) (answered : IsAnswered T (line_at text at) ran new told) (asked : IsAskedBy T ran.task (line_text (line_at text at))) where
      abbrev own : List ℕ
      own = block T text at follows.plan (answer_to T follows.plan (line_at text at))

      abbrev later : List ℕ
      later = blocks T text (taken_after follows.plan (answer_to T follows.plan (line_at text at))) (lines_from (at + line_len (drop at text) + 1) (drop (line_len (drop at text) + 1) (drop at text)))

      ahead : blocks T text follows.plan (lines_from at (drop at text)) ≡ own ++ later
      unfolding blocks
      ahead = let some : 0 < length (drop at text) = omega (arith, low, length-drop at text) in ap (blocks T text follows.plan) (line_ahead at (drop at text) some)

      whole : follows.bytes ++ own ++ later ≡ watch_lines T text
      whole = append_assoc follows.bytes own later ∙ ap (λ rest. follows.bytes ++ rest) (sym ahead) ∙ follows.all

      -- a first part of its block is put
      pub partly_there : (late : Option (List ℕ)) → OfAnswer T new told (λ plan answer. IsPartlyPut (block T text at plan answer) mid late) → IsPartlyPut (watch_lines T text) old late
      partly_there late partly =
          subst (λ all. IsPartlyPut all old late) whole
          (partly_first (follows.bytes ++ own) later old late
          (partly_second follows.bytes own old mid late follows.put (partly follows.plan (answer_to T follows.plan (line_at text at)) (answered asked follows.plan follows.numbers))))

      -- its block is put
      pub follows_more : (late : Option (List ℕ)) (next : ℕ) → next ≡ min (length text) (at + line_len (drop at text) + 1)
          → OfAnswer T new told (λ plan answer. IsPut (block T text at plan answer) mid late) → IsFollowed T text old late new next
      follows_more late next is put =
          let answer = answer_to T follows.plan (line_at text at) in
          let answers = answered asked follows.plan follows.numbers in
          record {
            plan = taken_after follows.plan answer;
            numbers = answers.done;
            bytes = follows.bytes ++ own;
            put = both_put follows.bytes own old mid late follows.put (put follows.plan answer answers);
            all = ap (λ rest. follows.bytes ++ own ++ blocks T text (taken_after follows.plan answer) rest) (lines_same text at (line_len (drop at text)) next is) ∙ whole;
          }
