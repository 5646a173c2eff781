use Rattle.std.proofs.Common.{ℕ, List, length, rules, sym, ap, subst, arith, length-take, length-append, length-drop}
use Rattle.std.specs.Io.KnownBytes.{Consumes}
use Rattle.std.proofs.KnownBytes.{Consumes-nil}
use Rattle.p3_base.proofs.TakenLemmas.{taken_more}
use Rattle.p3_base.proofs.real_files.read_all.Goals as goal

pub loop-into-init : goal.loop-into-init
loop-into-init g c = record {
  within = omega (arith, ap (λ (list : List ℕ). length list) c.requires.empty);
  piece = search rules;
  taken = subst (λ (list : List ℕ). Consumes (g.T.Read.remaining c.args.source.now) (g.T.Read.remaining c.args.source.now) list) (sym c.requires.empty) (Consumes-nil (g.T.Read.remaining c.args.source.now));
}

pub loop-into-preserved : goal.loop-into-preserved
loop-into-preserved g c = record {
  within = search rules;
  piece = grind (arith, length-take, length-append, length-drop, c.read_piece.auto.piece, c.deref_mut.ensures.len, c.min-room.ensures, c.loop-into.invariant.piece);
  taken = taken_more _ _ _ c.loop-into.into.items c.read_piece.new.into.items c.loop-into.invariant.taken c.in_ok-read_piece.ensures.taken;
}

pub returns-then-branch-eq0-clause-all : goal.returns-then-branch-eq0-clause-all
returns-then-branch-eq0-clause-all g c = taken_more _ _ _ c.loop-into.into.items c.read_piece.new.into.items c.loop-into.invariant.taken c.in_ok-read_piece.ensures.taken
