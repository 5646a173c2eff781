use Rattle.std.proofs.Common.{◌∙◌, ℕ, ◌+◌, List, ◌++◌, [], ◌∷◌, get_or, ap, subst, sym}
use Rattle.std.specs.declared.vec.Vec.{Vec}
use Rattle.std.specs.declared.alloc.Global.{Global}
use Rattle.std.proofs.lemmas.Bool.{eq-eqb, ne_eqb}
use Rattle.p3_accounts.specs.Starts.{AreStarts}
use Rattle.p3_accounts.proofs.LineLemmas.{line_feed, no_feed}
use Rattle.p3_accounts.proofs.lines.starts_of.Goals as goal
use Rattle.p3_accounts.proofs.lines.starts_of.Goals.{then-byte-eq10+in_ok-push-2, else-byte-eq10}

pub loop-byte-preserved : goal.loop-byte-preserved
loop-byte-preserved c =
    let text = c.args.text.now in
    let at = c.loop-byte.byte-index in
    let Begin : List ℕ → Type 0 = AreStarts text (at + 1) in
    record {
      behind = ap (λ n. n + 1) c.loop-byte.invariant.behind;
      starts =
          elim c.if-byte-eq10.branch as (λ branch. Begin c.if-byte-eq10.starts.items) [
            | then-byte-eq10+in_ok-push-2 w ↦
                subst Begin
                (sym (ap (λ (starts : Vec ℕ Global). starts.items) w.starts-is ∙ w.in_ok-push-2.ensures.items ∙ ap (λ n. c.loop-byte.starts.items ++ (n + 1) ∷ []) c.loop-byte.invariant.behind))
                (line_feed text at c.loop-byte.starts.items 0 c.loop-byte-test.true (eq-eqb (get_or text at 0) 10 w.if-byte-eq10.true) c.loop-byte.invariant.starts)
            | else-byte-eq10 w ↦
                subst Begin (sym (ap (λ (starts : Vec ℕ Global). starts.items) w.starts-is))
                (no_feed text at c.loop-byte.starts.items 0 c.loop-byte-test.true (ne_eqb (get_or text at 0) 10 w.if-byte-eq10.false) c.loop-byte.invariant.starts)
          ];
    }
