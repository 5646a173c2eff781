use Rattle.std.proofs.Common.{◌≡◌, ◌+◌, arith, length, min, refl, rules}
use Rattle.p3_watch.proofs.PlaceLemmas.{line_fits, starts_behind}
use Rattle.p3_watch.proofs.lines.LineStart.behind.Goals as goal

pub overflow_add-self : goal.overflow_add-self
overflow_add-self c = let fits = line_fits c.args.text.now c.args.self.offset c.requires.start.within in omega (arith, fits)

pub overflow_add-self-2 : goal.overflow_add-self-2
overflow_add-self-2 c = let fits = line_fits c.args.text.now c.args.self.offset c.requires.start.within in omega (arith, fits)

pub returns-clause-start : goal.returns-clause-start
returns-clause-start c =
    let place : c.min-end.result ≡ min (length c.args.text.now) (c.args.self.offset + c.args.len + 1) = search rules in
    starts_behind c.args.text.now c.args.self (record { offset = c.min-end.result; row = c.args.self.row + 1 }) c.args.len c.requires.start c.requires.some c.requires.len refl place
