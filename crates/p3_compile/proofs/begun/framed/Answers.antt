use Rattle.std.proofs.Common.{◌∙◌, ◌++◌, ◌+◌, [], ◌∷◌, length, ap, subst, arith}
use Rattle.std.specs.Prelude.{codes}
use Rattle.std.specs.List.Sorted.{IsPermutation}
use Rattle.std.proofs.lemmas.List.FromFn.{length-map-range_with_len}
use Rattle.p3_simulation.specs.Naming.{numbered}
use Rattle.p3_compile.specs.Readers.{AreByAtom, readers_of}
use Rattle.p3_compile.specs.Monitored.{named_more}
use Rattle.p3_compile.proofs.FrameLaws.{framed_is}
use Rattle.p3_compile.proofs.begun.framed.Goals as goal

pub monitors-requires-clause-behind : goal.monitors-requires-clause-behind
monitors-requires-clause-behind c =
    let named = c.in_ok-push_numbered.ensures ∙ ap (λ names. named_more (codes "f") 0 names c.args.task.now.atoms) c.requires.new in
    let count = ap length named ∙ length-map-range_with_len (numbered (codes "f")) 0 c.args.task.now.atoms in
    let bits = c.requires.ready.bits in
    omega (arith, count, bits)

pub returns : goal.returns
returns c = framed_is c.args.task.now _ c.push_numbered.new.names c.monitors.new.names c.push.new.self c.push_numbered-2.new.names c.requires.ready
    (c.in_ok-push_numbered.ensures ∙ ap (λ names. named_more (codes "f") 0 names c.args.task.now.atoms) c.requires.new)
    c.in_ok-monitors.ensures
    c.len-go.ensures
    (c.in_ok-push.ensures.ok ∙ ap (λ name. c.monitors.new.names ++ name ∷ []) c.in_ok-running_name.ensures)
    (c.in_ok-push_numbered-2.ensures ∙ (λ i. named_more (codes "e") (c.len-chain.ensures i) c.push.new.self (c.len.ensures i + 1)))
    c.len-first.ensures
    c.len-hard.ensures
    (subst (λ monitors. IsPermutation (readers_of monitors) c.in_ok-readers.readers.items) c.items.ensures c.in_ok-readers.ensures.same)
    c.in_ok-readers.ensures.rising
    (subst (λ monitors. AreByAtom monitors c.in_ok-by_atom.by_atom.items) c.items-2.ensures c.in_ok-by_atom.ensures)
    c.len-first.type_inv
