use Rattle.p3_outline.specs.Nodes.{expressions_of}
use Rattle.p3_outline.specs.Constructs.{the_word}
use Rattle.p3_outline.proofs.ConstructLemmas.{shown_finds}
use Rattle.p3_outline.proofs.constructs.shown.Goals as goal

pub returns : goal.returns
returns c =
    shown_finds c.args.around c.args.least c.head_shown-least.result c.behind_shown-least.result c.place_shown.result (the_word c.args.head) (expressions_of c.args.behind)
    c.head_shown-least.ensures c.behind_shown-least.ensures c.place_shown.ensures
