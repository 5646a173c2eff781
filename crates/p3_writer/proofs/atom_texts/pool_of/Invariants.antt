use Rattle.std.proofs.Common.{take}
use Rattle.p3_writer.specs.AtomTexts.{IsPool}
use Rattle.p3_writer.proofs.atom_texts.pool_of.Given as goal

-- the texts of the names passed stand there
abbrev pub invariant-loop-name : goal.invariant-loop-name
invariant-loop-name l = IsPool (take l.name-index l.names) l.text.items l.starts.items
