use Rattle.std.proofs.Common.{◌∙◌, sym, subst}
use Rattle.std.specs.List.{list_all}
use Rattle.std.proofs.lemmas.Result.{on_ok_weaker}
use Rattle.p3_reach.specs.Closed.{change_keeps}
use Rattle.p3_reach.specs.Grown.{IsGrown}
use Rattle.p3_reach.proofs.GrownLaws.{grown_by_step}
use Rattle.p3_reach.proofs.rounds.look_at.Goals as goal

pub returns-then-may_hold : goal.returns-then-may_hold
returns-then-may_hold c = on_ok_weaker c.add_or_put_off.result
    (λ grown. grown_by_step c.args.atoms.now c.add_or_put_off.new.atoms c.args.step.now (sym c.may_hold.ensures ∙ c.if-may_hold.true)
    (subst (λ changes. IsGrown (λ set. list_all (change_keeps set) changes) c.args.atoms.now c.add_or_put_off.new.atoms) c.items.ensures grown)) c.add_or_put_off.ensures
