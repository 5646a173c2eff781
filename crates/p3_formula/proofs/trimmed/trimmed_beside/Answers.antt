use Rattle.std.proofs.Common.{rules, ◌≡◌, ◌∙◌, ◌++◌, ◌∷◌, [], sym, ap, append_assoc}
use Rattle.std.specs.Vec.Iter.{into_iter_items}
use Rattle.p3_formula.specs.Literals.{said_of}
use Rattle.p3_formula.specs.Trimmed.{trimmed_beside}
use Rattle.p3_formula.proofs.TrimmedLaws.{none_left, none_of, one_trimmed}
use Rattle.p3_formula.proofs.trimmed.trimmed_beside.Goals as goal

pub loop-change-init : goal.loop-change-init
loop-change-init c = search rules

pub loop-change-preserved : goal.loop-change-preserved
loop-change-preserved c =
    let next : into_iter_items c.loop-change.change-iterator ≡ c.in-Some.change ∷ into_iter_items c.next.new.self = search rules in
    let known = said_of c.args.known.now in
    let cleared = c.args.cleared.now in
    record {
      whole = append_assoc c.loop-change.yielded (c.in-Some.change ∷ []) (into_iter_items c.next.new.self) ∙ ap (λ items. c.loop-change.yielded ++ items) (sym next) ∙ c.loop-change.invariant.whole;
      made =
          one_trimmed known cleared c.loop-change.all.items c.push_settled.new.all.items c.in-Some.change c.granted-own.result (into_iter_items c.next.new.self) c.in_ok-push_settled.ensures c.granted-own.ensures
          ∙ ap (λ items. c.loop-change.all.items ++ trimmed_beside known cleared items) (sym next) ∙ c.loop-change.invariant.made;
      counted = search rules;
    }

pub returns : goal.returns
returns c =
    let left : into_iter_items c.loop-change.change-iterator ≡ [] = none_of (into_iter_items c.loop-change.change-iterator) (sym c.loop-change.invariant.counted ∙ c.in-None.ensures.steps.0) in
    let known = said_of c.args.known.now in
    let cleared = c.args.cleared.now in
    let all : c.from.result ≡ c.loop-change.all.items = search rules in
    let start : into_iter_items c.into_iter-change-iterator.result ≡ c.args.effects.items = search rules in
    all ∙ sym (none_left known cleared c.loop-change.all.items) ∙ ap (λ items. c.loop-change.all.items ++ trimmed_beside known cleared items) (sym left)
    ∙ c.loop-change.invariant.made ∙ ap (trimmed_beside known cleared) start
