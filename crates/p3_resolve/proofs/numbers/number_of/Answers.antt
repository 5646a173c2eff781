use Rattle.std.proofs.Common.{◌∙◌, ap}
use Rattle.std.specs.Prelude.{slice_get}
use Rattle.p3_task.specs.Types.{names_of}
use Rattle.p3_resolve.proofs.NumberLemmas.{same-longer, lists-kept, list-placed}
use Rattle.p3_resolve.proofs.numbers.number_of.Goals as goal

pub returns-clause-same : goal.returns-clause-same
returns-clause-same c =
    same-longer c.args.keys.now c.number_of.new.self c.args.lists.now.items c.add_at.new.lists.items (names_of c.args.types.now) c.in_ok-number.number
    c.requires c.in_ok-number.ensures.lists c.in_ok-number.ensures.number c.in_ok-add_at.ensures

pub returns-clause-kept : goal.returns-clause-kept
returns-clause-kept c = λ k other at. ap (λ lists. slice_get lists k) c.in_ok-number.ensures.lists ∙ lists-kept (names_of c.args.types.now) c.args.keys.now k other at

pub returns-clause-number : goal.returns-clause-number
returns-clause-number c = (λ i. slice_get (c.in_ok-number.ensures.lists i) (c.in_ok-number.ensures.number i)) ∙ list-placed (names_of c.args.types.now) c.args.keys.now
