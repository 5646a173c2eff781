use Rattle.std.proofs.Common.{rules, ◌≡◌, ◌∙◌, ◌++◌, ◌∷◌, [], sym, ap, append_assoc}
use Rattle.std.specs.Vec.Iter.{into_iter_items}
use Rattle.p3_ground.proofs.WholeLaws.{marked-more}
use Rattle.p3_ground.proofs.task.sifted_steps.Goals as goal

pub loop-step-preserved : goal.loop-step-preserved
loop-step-preserved c =
    let next : into_iter_items c.loop-step.step-iterator ≡ c.in-Some.step ∷ into_iter_items c.next.new.self = search rules in
    record {
      whole = append_assoc c.loop-step.yielded (c.in-Some.step ∷ []) (into_iter_items c.next.new.self) ∙ ap (λ items. c.loop-step.yielded ++ items) (sym next) ∙ c.loop-step.invariant.whole;
      counted = search rules;
      marked = λ set are.
          marked-more set c.loop-step.kept c.keep.new.kept c.loop-step.yielded (into_iter_items c.next.new.self) (into_iter_items c.loop-step.step-iterator) c.in-Some.step c.loop-step.left.now c.behind_first-left.result.now c.is_first_set.result
          next (c.loop-step.invariant.marked set are) c.is_first_set.ensures c.in_ok-keep.ensures c.behind_first-left.ensures;
    }
