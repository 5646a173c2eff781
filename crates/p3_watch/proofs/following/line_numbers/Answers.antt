use Rattle.std.proofs.Common.{◌∙◌, ◌+◌, ◌<◌, ap, length, min, refl, subst}
use Rattle.p3_task.specs.Watching.{line_text}
use Rattle.p3_watch.specs.Watching.{IsNumberOfLine}
use Rattle.p3_watch.proofs.NumberLemmas.{all_passed, none_passed, one_passed}
use Rattle.p3_watch.proofs.PlaceLemmas.{is_inside, text_starts}
use Rattle.p3_watch.proofs.following.line_numbers.Goals as goal

pub loop-start-init : goal.loop-start-init
loop-start-init c = record {
  start = text_starts c.args.text.now c.of_text-start.result c.of_text-start.ensures.offset c.of_text-start.ensures.row;
  passed = none_passed c.args.task.now.task c.args.text.now c.new-numbers.result.items c.of_text-start.result.offset c.of_text-start.ensures.offset;
}

pub loop-start-preserved : goal.loop-start-preserved
loop-start-preserved c =
    let T = c.args.task.now.task in
    let text = c.args.text.now in
    let at = c.loop-start.start.offset in
    let low : at < length text = is_inside _ _ c.loop-start-test.ensures.1 in
    record {
      start = c.behind-start.ensures.start;
      passed = one_passed T text c.loop-start.numbers.items at c.loop-start.invariant.passed low c.line_number.result
          (subst (λ bytes. IsNumberOfLine T (line_text bytes) c.line_number.result) c.line-line.ensures.line c.line_number.ensures)
          c.push_number.new.numbers.items c.in_ok-push_number.ensures c.behind-start.result.offset (c.behind-start.ensures.offset ∙ ap (λ n. min (length text) (at + n + 1)) c.line-line.ensures.len);
    }

pub returns : goal.returns
returns c = all_passed c.args.task.now.task c.args.text.now c.loop-start.numbers.items c.loop-start.start.offset c.loop-start.invariant.passed (c.loop-start-test.ensures.0 refl)
