use Rattle.std.proofs.Common.{◌∙◌, arith}
use Rattle.p3_writer.proofs.PoolLemmas.{part_is, start_within}
use Rattle.p3_writer.proofs.atom_texts.part_at.Goals as goal

pub from_place-behind-requires : goal.from_place-behind-requires
from_place-behind-requires c = start_within c.args.names.now c.args.text.now c.args.starts.now c.requires.pool c.args.atom c.requires.within

pub bounds-behind-0 : goal.bounds-behind-0
bounds-behind-0 c =
    let many = (part_is c.args.names.now c.args.text.now c.args.starts.now c.requires.pool c.args.atom c.requires.within c.from_place-behind.result.now c.from_place-behind.ensures).many in
    omega (arith, many)

pub bounds-behind-1 : goal.bounds-behind-1
bounds-behind-1 c = (part_is c.args.names.now c.args.text.now c.args.starts.now c.requires.pool c.args.atom c.requires.within c.from_place-behind.result.now c.from_place-behind.ensures).many

pub between-requires : goal.between-requires
between-requires c =
    let part = part_is c.args.names.now c.args.text.now c.args.starts.now c.requires.pool c.args.atom c.requires.within c.from_place-behind.result.now c.from_place-behind.ensures in
    record { rises = part.rises; within = part.within }

pub returns : goal.returns
returns c = c.between.ensures ∙ (part_is c.args.names.now c.args.text.now c.args.starts.now c.requires.pool c.args.atom c.requires.within c.from_place-behind.result.now c.from_place-behind.ensures).is
