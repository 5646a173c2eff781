use Rattle.std.specs.Prelude.{string_bytes}
use Rattle.p3_gen.proofs.PieceLemmas.{roads_are}
use Rattle.p3_gen.proofs.piece.push_roads.Goals as goal

pub returns : goal.returns
returns c = rw (c.in_ok-push_road-2.ensures, c.in_ok-push_road.ensures, c.saturating_sub-from.ensures) (roads_are (string_bytes c.args.text.now) c.args.to)
