use Rattle.std.proofs.Common.{rules}
use Rattle.p3_formula.proofs.FormLemmas.{below-Not, below-And, below-Or}
use Rattle.p3_formula.specs.declared.form.Form.TheViews.{the_lemmas}
use Rattle.p3_reach.proofs.may.+may.Goals as goal

pub may_be-may_be-requires : goal.may_be-may_be-requires
may_be-may_be-requires t c = (search (rules, the_lemmas), rw c.get-in-Not.ensures (below-Not _ _ _ c.in-Not.is c.requires))

pub may_be-all_may_be-requires : goal.may_be-all_may_be-requires
may_be-all_may_be-requires t c = (search (rules, the_lemmas), rw c.items.ensures (below-And _ _ _ c.in-And.is c.requires))

pub may_be-some_may_be-requires : goal.may_be-some_may_be-requires
may_be-some_may_be-requires t c = (search (rules, the_lemmas), rw c.items-else-holds.ensures (below-And _ _ _ c.in-And.is c.requires))

pub may_be-some_may_be-requires-then-holds-2 : goal.may_be-some_may_be-requires-then-holds-2
may_be-some_may_be-requires-then-holds-2 t c = (search (rules, the_lemmas), rw c.items-then-holds-2.ensures (below-Or _ _ _ c.in-Or.is c.requires))

pub may_be-all_may_be-requires-else-holds-2 : goal.may_be-all_may_be-requires-else-holds-2
may_be-all_may_be-requires-else-holds-2 t c = (search (rules, the_lemmas), rw c.items-else-holds-2.ensures (below-Or _ _ _ c.in-Or.is c.requires))
