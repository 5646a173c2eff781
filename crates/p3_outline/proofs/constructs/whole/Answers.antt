use Rattle.std.proofs.Common.{◌∙◌, sym, ap, [], None}
use Rattle.p3_task.specs.Refusals.Constructs.{word_when}
use Rattle.p3_outline.specs.Nodes.{expression_of}
use Rattle.p3_outline.specs.Constructs.{the_word, least_with, constructs_below}
use Rattle.p3_outline.proofs.ConstructLemmas.{word_shows, list_shows}
use Rattle.p3_outline.proofs.constructs.whole.Goals as goal

pub returns-in-Some : goal.returns-in-Some
returns-in-Some c =
    c.least_if.ensures ∙ ap (λ b. least_with None (word_when b (the_word c.in-Some.word))) c.is_called.ensures
    ∙ ap (least_with None) (sym (word_shows [] None (expression_of c.args.root) (the_word c.in-Some.word) (sym c.in-Some.ensures.word)))

pub returns-in-None : goal.returns-in-None
returns-in-None c =
    c.below.ensures [] None c.nothing_around.ensures ∙ ap (λ parts. least_with None (constructs_below [] None parts)) c.parts.ensures.parts
    ∙ ap (least_with None) (sym (list_shows [] None (expression_of c.args.root) (sym c.in-None.ensures.word)))
