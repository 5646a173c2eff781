use Rattle.std.proofs.Common.{◌∙◌, ap, Some}
use Rattle.std.specs.Option.{option_or}
use Rattle.p3_task.specs.Refusals.Texts.{construct_in}
use Rattle.p3_outline.specs.Nodes.{root_of}
use Rattle.p3_outline.proofs.FirstLemmas.{shown_behind_outline}
use Rattle.p3_outline.proofs.first.first_shown.Goals as goal

pub returns : goal.returns
returns c =
    shown_behind_outline c.args.role c.args.text.now c.args.outline.now c.first_left_out.result c.requires.of_a_task c.requires.outline
    (c.first_left_out.ensures ∙ ap (option_or (construct_in c.args.role (Some (root_of c.args.outline.now)))) c.requires.outline.numbers)
