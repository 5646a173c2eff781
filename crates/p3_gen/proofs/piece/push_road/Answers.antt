use Rattle.std.proofs.Common.{◌∙◌, ◌++◌, sym, ap}
use Rattle.std.specs.Prelude.{string_bytes}
use Rattle.p3_gen.proofs.PieceLemmas.{road_is}
use Rattle.p3_gen.proofs.piece.push_road.Goals as goal

pub returns : goal.returns
returns c = c.in_ok-write.ensures.bytes ∙ ap (λ road. string_bytes c.args.text.now ++ road) (sym (road_is c.args.from c.args.to c.args.length))
