use Rattle.std.proofs.Common.{take}
use Rattle.p3_flat.specs.Splitting.{AreCopies}
use Rattle.p3_flat.proofs.splitting.copies_by.Given as goal

-- the copies for the choices passed
abbrev pub invariant-loop-choice : goal.invariant-loop-choice
invariant-loop-choice l = AreCopies l.action l.changes (take l.choice-index l.choices) l.copies.items
