use Rattle.std.proofs.Common.{◌∙◌, ◌+◌, length, ap, sym, subst}
use Rattle.std.specs.Prelude.{IfSome}
use Rattle.std.proofs.lemmas.List.{length_push}
use Rattle.p3_hierarchy.specs.Walks.{IsSpan, IsTop}
use Rattle.p3_hierarchy.specs.Reaches.{AreTops}
use Rattle.p3_hierarchy.specs.Spans.{AreSpans}
use Rattle.p3_hierarchy.proofs.ReachLemmas.{tops-before, tops-more, spans-more}
use Rattle.p3_hierarchy.proofs.order.spans_of.Goals as goal

pub loop-place-preserved : goal.loop-place-preserved
loop-place-preserved c =
    let kept = c.loop-place.invariant in
    let tops = c.loop-place.tops.items in
    let spans = c.loop-place.spans.items in
    record {
      tops_long = ap length c.in_ok-push.ensures.items ∙ length_push tops c.top_of-top.result ∙ ap (λ n. n + 1) kept.tops_long;
      spans_long = ap length c.in_ok-push-2.ensures.items ∙ length_push spans c.span_of.result ∙ ap (λ n. n + 1) kept.spans_long;
      before = tops-before c.loop-place.place tops c.push.new.self.items c.top_of-top.result kept.tops_long c.in_ok-push.ensures.items kept.before c.top_of-top.ensures.before;
      tops = λ pairs names reached. subst (AreTops pairs names) (sym c.in_ok-push.ensures.items) (tops-more pairs names tops c.top_of-top.result (kept.tops pairs names reached)
          (subst (λ at. IsTop pairs names at c.top_of-top.result) (sym kept.tops_long)
          (c.top_of-top.ensures.top pairs names reached (subst (AreTops pairs names) (sym c.deref.ensures.value) (kept.tops pairs names reached)))));
      spans = λ pairs names reached. subst (AreSpans pairs names) (sym c.in_ok-push-2.ensures.items) (spans-more pairs names spans c.span_of.result (kept.spans pairs names reached)
          (subst (λ at. IfSome c.span_of.result (λ span. IsSpan pairs names at span.first span.end)) (sym kept.spans_long)
          (c.span_of.ensures pairs names reached
          (c.top_of-top.ensures.top pairs names reached (subst (AreTops pairs names) (sym c.deref.ensures.value) (kept.tops pairs names reached))))));
    }
