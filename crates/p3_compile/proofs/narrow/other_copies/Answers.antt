use Rattle.std.proofs.Common.{rules, ◌≡◌, ◌∙◌, ◌++◌, ◌∷◌, [], sym, ap, subst, append_assoc}
use Rattle.std.specs.List.{All}
use Rattle.std.specs.Vec.Iter.{into_iter_items}
use Rattle.p3_compile.proofs.CopyLists.{all_amid, copied_more}
use Rattle.p3_compile.proofs.narrow.other_copies.Goals as goal
use Rattle.p3_compile.specs.Parts.{AreCopied}
use Rattle.p3_compile.specs.Updated.{IsSimpleCopy}

pub other_copy-requires : goal.other_copy-requires
other_copy-requires c =
    let next : into_iter_items c.loop-copy.copy-iterator ≡ c.in-Some.copy ∷ into_iter_items c.next.new.self = search rules in
    let all : c.loop-copy.yielded ++ into_iter_items c.loop-copy.copy-iterator ≡ c.args.copies.items = search rules in
    all_amid IsSimpleCopy c.loop-copy.yielded c.in-Some.copy (into_iter_items c.next.new.self)
    (subst (All IsSimpleCopy) (sym (ap (λ items. c.loop-copy.yielded ++ items) (sym next) ∙ all)) c.requires)

pub loop-copy-preserved : goal.loop-copy-preserved
loop-copy-preserved c =
    let next : into_iter_items c.loop-copy.copy-iterator ≡ c.in-Some.copy ∷ into_iter_items c.next.new.self = search rules in
    record {
      whole = append_assoc c.loop-copy.yielded (c.in-Some.copy ∷ []) (into_iter_items c.next.new.self) ∙ ap (λ items. c.loop-copy.yielded ++ items) (sym next) ∙ c.loop-copy.invariant.whole;
      copied = subst (AreCopied c.args.effects.now (c.loop-copy.yielded ++ c.in-Some.copy ∷ [])) (sym c.in_ok-push.ensures.items)
          (copied_more c.args.effects.now c.loop-copy.yielded c.loop-copy.made.items c.in-Some.copy c.in_ok-other_copy.field-0 c.loop-copy.invariant.copied c.in_ok-other_copy.ensures);
      counted = search rules;
    }
