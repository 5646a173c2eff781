use Rattle.std.proofs.Common.{◌+◌, ◌∙◌, sym, length}
use Rattle.std.proofs.lemmas.Bool.{leb-true}
use Rattle.p3_outline.proofs.QuietLemmas.{inside_dull}
use Rattle.p3_outline.proofs.constructs.has_dull_length.Goals as goal

pub returns : goal.returns
returns c = λ inside.
    inside_dull c.args.text.now c.args.at c.args.len (sym c.is_dull_length.ensures ∙ c.if-not-is_dull_length.false)
    (leb-true (c.args.at + c.args.len) (length c.args.text.now) inside)
