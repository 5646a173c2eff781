use Rattle.std.proofs.Common.{◌≡◌, ◌∙◌, ◌≤◌, sym, ap, subst, arith, drop, add-one}
use Rattle.std.specs.Str.{str_to_ascii_lowercase}
use Rattle.p3_lexer.specs.Lexing.{left}
use Rattle.p3_lexer.specs.StepWords.{IsWordAt, words_left}
use Rattle.p3_lexer.proofs.StepWords.{none_given, others_left, passed, word_given, words_behind}
use Rattle.p3_plans.proofs.reader.PlanStep.word.Goals as goal

pub returns-in_err-next_word-clause-word : goal.returns-in_err-next_word-clause-word
returns-in_err-next_word-clause-word c = λ step is.
    let words = words_behind c.args.self.now.text.now c.new-lexer.result c.next-open.new.self c.new-lexer.ensures.starts
    (passed c.next-open.result (left c.new-lexer.result) (left c.next-open.new.self) c.next-open.ensures.tokens) step is in
    let within : c.loop-passed._passed ≤ c.args.place = omega (arith, c.loop-passed-test.true) in
    subst (IsWordAt step c.args.place) (sym c.from_residual.ensures)
    (none_given step c.loop-passed._passed c.args.place c.loop-passed.lexer within
    (c.loop-passed.invariant.words ∙ ap (drop c.loop-passed._passed) words) c.in_err-next_word.ensures.word)

pub loop-passed-preserved : goal.loop-passed-preserved
loop-passed-preserved c = record {
  source = c.next_word.ensures.source ∙ c.loop-passed.invariant.source;
  words =
      let before = words_left c.next-open.new.self in
      sym (ap (λ n. drop n before) (add-one c.loop-passed._passed)
      ∙ others_left before (words_left c.next_word.new.self) (str_to_ascii_lowercase c.in_ok-next_word.field-0.now) c.loop-passed._passed
      (sym c.loop-passed.invariant.words ∙ c.in_ok-next_word.ensures.word));
}

pub returns-clause-word : goal.returns-clause-word
returns-clause-word c = λ step is.
    let words = words_behind c.args.self.now.text.now c.new-lexer.result c.next-open.new.self c.new-lexer.ensures.starts
    (passed c.next-open.result (left c.new-lexer.result) (left c.next-open.new.self) c.next-open.ensures.tokens) step is in
    let end : c.loop-passed._passed ≡ c.args.place = omega (arith, c.loop-passed-test.false, c.loop-passed.auto._passed-end) in
    word_given step c.args.place c.loop-passed.lexer c.next_word-2.new.self c.next_word-2.result
    (c.loop-passed.invariant.words ∙ (λ i. drop (end i) (words i))) c.next_word-2.ensures.word
