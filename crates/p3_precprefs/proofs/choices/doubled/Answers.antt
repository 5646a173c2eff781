use Rattle.std.proofs.Common.{rules, ◌≡◌, ◌∙◌, ◌++◌, ◌∷◌, [], sym, ap, append_assoc}
use Rattle.std.specs.Vec.Iter.{into_iter_items}
use Rattle.std.proofs.lemmas.List.{flat_map_more}
use Rattle.p3_formula.specs.Simplified.{negated}
use Rattle.p3_precprefs.specs.Choices.{both_choices, satisfied, unless_never, violating}
use Rattle.p3_precprefs.proofs.choices.doubled.Goals as goal

pub loop-choice-preserved : goal.loop-choice-preserved
loop-choice-preserved c =
    let next : into_iter_items c.loop-choice.choice-iterator ≡ c.in-Some.choice ∷ into_iter_items c.next.new.self = search rules in
    let one = unless_never (satisfied c.args.body.now c.in-Some.choice) in
    let other = unless_never (violating (negated c.args.body.now) c.args.weight c.in-Some.choice) in
    record {
      whole = append_assoc c.loop-choice.yielded (c.in-Some.choice ∷ []) (into_iter_items c.next.new.self) ∙ ap (λ items. c.loop-choice.yielded ++ items) (sym next) ∙ c.loop-choice.invariant.whole;
      made = c.in_ok-push_unless_never-2.ensures
          ∙ (λ i. c.in_ok-push_unless_never.ensures i ++ unless_never (c.in_ok-violating.ensures i))
          ∙ (λ i. (c.loop-choice.invariant.made i ++ unless_never (c.in_ok-satisfied.ensures i)) ++ unless_never (violating (c.requires.opposite i) c.args.weight c.in-Some.choice))
          ∙ append_assoc _ one other
          ∙ flat_map_more (both_choices c.args.body.now c.args.weight) [] c.loop-choice.yielded c.in-Some.choice;
      counted = search rules;
    }
