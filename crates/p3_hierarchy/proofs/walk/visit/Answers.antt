use Rattle.std.proofs.Common.{◌≡◌, ◌∙◌, ◌++◌, ◌∷◌, [], if◌then◌else◌, false, sym, subst, arith}
use Rattle.std.specs.Prelude.{filter_map}
use Rattle.p3_task.specs.Names.{has_name}
use Rattle.p3_task.specs.Types.{pair_of}
use Rattle.p3_hierarchy.specs.Walks.{IsAt, IsWalked}
use Rattle.p3_hierarchy.specs.Nexts.{AreNext}
use Rattle.p3_hierarchy.proofs.ReachLemmas.{at-more, nexts-more, walked-more}
use Rattle.p3_hierarchy.proofs.walk.visit.Goals as goal

pub returns-clause-walked : goal.returns-clause-walked
returns-clause-walked c =
    let pairs = filter_map pair_of c.args.filed.now.kinds.now in
    let names = c.args.walk.now.names in
    let kind = c.args.one.now.kind.now in
    let fresh : has_name names kind ≡ false = sym c.has.ensures ∙ c.if-has.false in
    let named : c.add.new.self ≡ names ++ kind ∷ [] = c.in_ok-add.ensures ∙ (λ i. if fresh i then names else names ++ kind ∷ []) in
    subst (λ from. IsWalked pairs c.add.new.self from) (sym c.in_ok-push.ensures.items) (subst (λ all. IsWalked pairs all (c.args.walk.now.from.items ++ c.args.one.now.from ∷ [])) (sym named)
    (walked-more pairs names c.args.walk.now.from.items kind c.args.one.now.from (omega (arith, c.len-place.ensures, c.len-place.type_inv)) c.requires.walked c.requires.one))

pub returns-clause-next : goal.returns-clause-next
returns-clause-next c =
    let pairs = filter_map pair_of c.args.filed.now.kinds.now in
    let names = c.args.walk.now.names in
    let kind = c.args.one.now.kind.now in
    let fresh : has_name names kind ≡ false = sym c.has.ensures ∙ c.if-has.false in
    let named : c.add.new.self ≡ names ++ kind ∷ [] = c.in_ok-add.ensures ∙ (λ i. if fresh i then names else names ++ kind ∷ []) in
    c.in_ok-call_lows.ensures c.add.new.self
    (subst (λ all. IsAt all c.len-place.result kind) (sym named) (subst (λ place. IsAt (names ++ kind ∷ []) place kind) (sym c.len-place.ensures) (at-more names kind)))
    (subst (λ all. AreNext pairs all c.args.next.now.items) (sym named) (nexts-more pairs names kind c.args.next.now.items c.requires.next))
