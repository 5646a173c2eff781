use Rattle.std.proofs.Common.{◌∙◌, ◌+◌, ◌∷◌, ◌++◌, [], length, take, sym, ap, subst}
use Rattle.p3_writer.specs.Layout.{atom_text}
use Rattle.p3_writer.specs.AtomTexts.{IsPool}
use Rattle.p3_writer.proofs.PoolLemmas.{next_pool}
use Rattle.p3_writer.proofs.atom_texts.pool_of.Goals as goal

pub loop-name-preserved : goal.loop-name-preserved
loop-name-preserved c =
    let passed = take (c.loop-name.name-index + 1) c.args.names.now in
    let next = next_pool c.args.names.now c.loop-name.name-index c.name-item.result c.loop-name-test.true c.name-item.is c.loop-name.text.items c.loop-name.starts.items c.loop-name.invariant in
    let text = sym c.in_ok-push_atom.ensures in
    subst (IsPool passed c.push_atom.new.text.items) (ap (λ n. c.loop-name.starts.items ++ n ∷ []) (ap length (text ∙ sym c.as_slice.ensures.value)) ∙ sym c.in_ok-push-2.ensures.items)
    (subst (λ list. IsPool passed list (c.loop-name.starts.items ++ length (c.loop-name.text.items ++ (32 ∷ atom_text c.name-item.result)) ∷ [])) text next)
