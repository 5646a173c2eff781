use Rattle.std.proofs.Common.{◌∙◌, ◌+◌, ◌<◌, ap, arith, drop, length, min, refl, subst, sym}
use Rattle.p3_base.specs.Outside.{IsPartlyPut, IsPut}
use Rattle.p3_tree.specs.Reports.Watching.{block}
use Rattle.p3_task.specs.Watching.{lines_from}
use Rattle.p3_types.specs.declared.checked.Checked.{Checked}
use Rattle.p3_watch.specs.Lines.{line_at}
use Rattle.p3_watch.specs.Watching.{AreLinesAsked, IsAnswered, OfAnswer}
use Rattle.p3_watch.proofs.FollowLemmas.{follows_end, follows_first, follows_more, later_asked, line_asked, partly_there}
use Rattle.p3_watch.proofs.PlaceLemmas.{is_inside, text_starts, told_there}
use Rattle.p3_watch.proofs.following.follow.Goals as goal

pub loop-start-init : goal.loop-start-init
loop-start-init g c = record {
  checked = refl;
  start = text_starts c.args.text.now c.of_text-start.result c.of_text-start.ensures.offset c.of_text-start.ensures.row;
  asked = subst (λ at. AreLinesAsked c.args.watch.now.checked.now.task c.args.watch.now.run.task (lines_from at (drop at c.args.text.now))) (sym c.of_text-start.ensures.offset) c.requires.asked;
  follows = follows_first c.args.watch.now.checked.now.task c.args.text.now _ c.args.watch.now.run c.of_text-start.result.offset c.requires.begins c.of_text-start.ensures.offset;
  faults_grow = omega arith;
}

pub put_block-requires-clause-told : goal.put_block-requires-clause-told
put_block-requires-clause-told g c =
    let low : c.loop-start.start.offset < length c.args.text.now = is_inside _ _ c.loop-start-test.ensures.1 in
    told_there c.args.text.now c.loop-start.start (length c.line-line.result.now) c.line-told.result c.loop-start.invariant.start low c.line-line.ensures.len c.line-told.ensures.within

pub loop-start-preserved : goal.loop-start-preserved
loop-start-preserved g c =
    let T = c.args.watch.now.checked.now.task in
    let text = c.args.text.now in
    let at = c.loop-start.start.offset in
    let ran = c.line-told.new.self.run in
    let told = c.line-told.result in
    let low : at < length text = is_inside _ _ c.loop-start-test.ensures.1 in
    let checked = c.line-told.ensures.checked ∙ c.loop-start.invariant.checked in
    let asked = line_asked T c.loop-start.watch.run.task text at low c.loop-start.invariant.asked in
    let place = c.behind-start.ensures.offset ∙ ap (λ n. min (length text) (at + n + 1)) c.line-line.ensures.len in
    let before = c.loop-start.invariant.faults_grow in
    let after = c.in-Ok.ensures.faults_grow in
    let answered : IsAnswered T (line_at text at) c.loop-start.watch.run ran told =
    subst (λ bytes. IsAnswered T bytes c.loop-start.watch.run ran told) c.line-line.ensures.line
    (subst (λ (one : Checked). IsAnswered one.task c.line-line.result.now c.loop-start.watch.run ran told) c.loop-start.invariant.checked c.line-told.ensures.answer) in
    record {
      checked = checked;
      start = c.behind-start.ensures.start;
      asked = subst (λ G. AreLinesAsked T G (lines_from c.behind-start.result.offset (drop c.behind-start.result.offset text))) (sym c.line-told.ensures.task)
          (later_asked T c.loop-start.watch.run.task text at low c.loop-start.invariant.asked c.behind-start.result.offset place);
      follows = follows_more T text _ _ c.loop-start.watch.run at c.loop-start.invariant.follows low ran told answered asked _ c.behind-start.result.offset place
          (subst (λ (one : Checked). OfAnswer one.task ran told (λ plan answer. IsPut (block one.task text at plan answer) (g.S.Sink.seen c.loop-start.out).written (g.S.Sink.seen c.put_block.new.out).written)) checked
          c.in-Ok.ensures.ok);
      faults_grow = omega (arith, before, after);
    }

pub returns-in-Err-clause-partly : goal.returns-in-Err-clause-partly
returns-in-Err-clause-partly g c = λ failed.
    let T = c.args.watch.now.checked.now.task in
    let text = c.args.text.now in
    let at = c.loop-start.start.offset in
    let ran = c.line-told.new.self.run in
    let told = c.line-told.result in
    let low : at < length text = is_inside _ _ c.loop-start-test.ensures.1 in
    let checked = c.line-told.ensures.checked ∙ c.loop-start.invariant.checked in
    let asked = line_asked T c.loop-start.watch.run.task text at low c.loop-start.invariant.asked in
    let answered : IsAnswered T (line_at text at) c.loop-start.watch.run ran told =
    subst (λ bytes. IsAnswered T bytes c.loop-start.watch.run ran told) c.line-line.ensures.line
    (subst (λ (one : Checked). IsAnswered one.task c.line-line.result.now c.loop-start.watch.run ran told) c.loop-start.invariant.checked c.line-told.ensures.answer) in
    partly_there T text _ _ c.loop-start.watch.run at c.loop-start.invariant.follows low ran told answered asked _
    (subst (λ (one : Checked). OfAnswer one.task ran told (λ plan answer. IsPartlyPut (block one.task text at plan answer) (g.S.Sink.seen c.loop-start.out).written (g.S.Sink.seen c.put_block.new.out).written)) checked
    c.in-Err.ensures.partly)

pub returns-clause-done : goal.returns-clause-done
returns-clause-done g c = λ done.
    follows_end c.args.watch.now.checked.now.task c.args.text.now _ _ c.loop-start.watch.run c.loop-start.start.offset c.loop-start.invariant.follows (c.loop-start-test.ensures.0 refl)
