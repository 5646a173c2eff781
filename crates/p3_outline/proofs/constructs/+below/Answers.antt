use Rattle.std.proofs.Common.{◌∙◌, refl, sym, arith}
use Rattle.p3_outline.specs.Nodes.{expression_of, expressions_of, elements}
use Rattle.p3_outline.specs.Constructs.{the_word}
use Rattle.p3_outline.proofs.ConstructLemmas.{word_next, list_next, below_head, below_plain, below_list}
use Rattle.p3_outline.proofs.constructs.+below.Goals as goal

pub all_in-loop-part-preserved-in-Some-word_of : goal.all_in-loop-part-preserved-in-Some-word_of
all_in-loop-part-preserved-in-Some-word_of t c =
    record {
      less = omega (arith, c.in-Some.ensures.less, c.loop-part.invariant.less);
      finds = λ names innermost place.
          word_next names innermost c.loop-part.least c.least_if-least.result (expression_of c.in-Some.part) (expressions_of c.next.new.self) (expressions_of c.loop-part.left) c.in-Some.ensures.parts
          c.is_called.result (the_word c.in-Some-word_of.word) c.in-Some-word_of.ensures.word c.is_called.ensures c.least_if-least.ensures
          ∙ c.loop-part.invariant.finds names innermost place;
    }

pub all_in-loop-part-preserved-then-not-is_quiet : goal.all_in-loop-part-preserved-then-not-is_quiet
all_in-loop-part-preserved-then-not-is_quiet t c =
    record {
      less = omega (arith, c.in-Some.ensures.less, c.loop-part.invariant.less);
      finds = λ names innermost place.
          list_next names innermost c.loop-part.least c.below-least.result (expression_of c.in-Some.part) (expressions_of c.next.new.self) (expressions_of c.loop-part.left) c.in-Some.ensures.parts
          (expressions_of c.parts.result) c.in-None.ensures.word c.parts.ensures.parts (c.below-least.ensures names innermost place)
          ∙ c.loop-part.invariant.finds names innermost place;
    }

pub all_in-loop-part-preserved : goal.all_in-loop-part-preserved
all_in-loop-part-preserved t c =
    record {
      less = omega (arith, c.in-Some.ensures.less, c.loop-part.invariant.less);
      finds = λ names innermost place.
          list_next names innermost c.loop-part.least c.loop-part.least (expression_of c.in-Some.part) (expressions_of c.next.new.self) (expressions_of c.loop-part.left) c.in-Some.ensures.parts
          (elements (expression_of c.in-Some.part)) c.in-None.ensures.word refl (c.is_quiet.ensures c.if-not-is_quiet.false c.loop-part.least names innermost place)
          ∙ c.loop-part.invariant.finds names innermost place;
    }

pub below-returns-in-None : goal.below-returns-in-None
below-returns-in-None t c =
    below_list c.args.around c.with_no_head-in-None.result c.args.least c.all_in-in-None.result (expression_of c.in-Some.first) (expressions_of c.next.new.self) (expressions_of c.args.parts) c.in-Some.ensures.parts
    c.in-None.ensures.word c.with_no_head-in-None.ensures c.all_in-in-None.ensures

pub below-returns-then-is_plain : goal.below-returns-then-is_plain
below-returns-then-is_plain t c =
    below_plain c.args.around c.with_no_head.result c.args.least c.all_in.result (expression_of c.in-Some.first) (expressions_of c.next.new.self) (expressions_of c.args.parts) c.in-Some.ensures.parts
    (the_word c.in-Some-word_of.head) c.in-Some-word_of.ensures.word (sym c.if-is_plain.true ∙ c.is_plain.ensures) c.with_no_head.ensures c.all_in.ensures

pub below-returns-else-is_plain : goal.below-returns-else-is_plain
below-returns-else-is_plain t c =
    below_head c.args.around c.with_head.result c.args.least c.all_in-in-Some-word_of.result (expression_of c.in-Some.first) (expressions_of c.next.new.self) (expressions_of c.args.parts) c.in-Some.ensures.parts
    c.shown-least.result c.least_if-least.result c.is_called.result (the_word c.in-Some-word_of.head) c.in-Some-word_of.ensures.word c.with_head.ensures c.shown-least.ensures c.is_called.ensures c.least_if-least.ensures c.all_in-in-Some-word_of.ensures
