use Rattle.std.proofs.Common.{sum_by, ap, arith}
use Rattle.p3_formula.specs.Forms.{nodes}
use Rattle.p3_formula.proofs.FormLemmas.{nodes-Not, nodes-And, nodes-Or}
use Rattle.p3_formula.proofs.settled.+settle.Goals as goal

pub settled-settled-requires : goal.settled-settled-requires
settled-settled-requires t c =
    let whole = ap nodes c.in-Not.is in
    let not = nodes-Not c.in-Not.part in
    let inner = ap nodes c.into_inner.ensures in
    (omega (arith, whole, not, inner, c.decreases), tt)

pub settled-gathered_parts-requires : goal.settled-gathered_parts-requires
settled-gathered_parts-requires t c =
    let whole = ap nodes c.in-And.is in
    let all = nodes-And c.in-And.parts in
    let items = ap (sum_by nodes) c.into_items.ensures in
    (omega (arith, whole, all, items, c.decreases), tt)

pub settled-gathered_parts-requires-in-Or : goal.settled-gathered_parts-requires-in-Or
settled-gathered_parts-requires-in-Or t c =
    let whole = ap nodes c.in-Or.is in
    let all = nodes-Or c.in-Or.parts in
    let items = ap (sum_by nodes) c.into_items-in-Or.ensures in
    (omega (arith, whole, all, items, c.decreases), tt)
