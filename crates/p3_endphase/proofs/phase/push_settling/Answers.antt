use Rattle.std.proofs.Common.{◌∙◌, ◌++◌, [], sym, ap, append_assoc, get_or, arith}
use Rattle.std.proofs.lemmas.List.{append-nil}
use Rattle.p3_endphase.proofs.ActionLemmas.{settles_next}
use Rattle.p3_endphase.proofs.phase.push_settling.Goals as goal

pub loop-number-init : goal.loop-number-init
loop-number-init c = record { settling = []; settles = tt; are = sym (append-nil c.args.actions.now) }

pub loop-number-preserved : goal.loop-number-preserved
loop-number-preserved c =
    let passed = c.loop-number.invariant in
    let own = c.in_ok-own.own in
    record {
      settling = passed.settling ++ own;
      settles = settles_next c.args.first_atom c.loop-number.number c.args.instances.now c.index-items-number.result passed.settling own (omega arith)
          (sym (c.index-items-number.is ∙ ap (λ list. get_or list c.loop-number.number c.index-items-number.result) c.items.ensures))
          passed.settles c.in_ok-own.ensures;
      are = c.in_ok-push_all.ensures ∙ ap (λ list. list ++ own) passed.are ∙ append_assoc c.args.actions.now passed.settling own;
    }
