use Rattle.std.proofs.Common.{◌∙◌, List, sym, ap, subst}
use Rattle.std.specs.List.{All}
use Rattle.std.proofs.lemmas.List.{take_all}
use Rattle.std.proofs.lemmas.List.Elements.{All-more}
use Rattle.p3_formula.specs.declared.form.Change.{Change}
use Rattle.p3_run.specs.Pending.{IsPending, is_pending}
use Rattle.p3_run.proofs.pending.Pending.name_all.Goals as goal

pub loop-change-preserved : goal.loop-change-preserved
loop-change-preserved c =
    All-more (IsPending c.name.new.self) c.args.effects.now c.loop-change.change-index c.change-item.result c.loop-change-test.true
    (λ k d inside. c.name.ensures.others _ (c.loop-change.invariant k d inside))
    (ap (λ (change : Change). is_pending c.name.new.self change.atom) (sym c.change-item.is) ∙ c.name.ensures.named)

pub returns : goal.returns
returns c = subst (λ (list : List Change). All (IsPending c.loop-change.self) list) (take_all c.loop-change.change-index c.args.effects.now c.loop-change-test.false) c.loop-change.invariant
