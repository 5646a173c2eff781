use Rattle.std.proofs.Common.{rules}
use Rattle.p3_formula.proofs.FormLemmas.{below-Not, below-And, below-Or}
use Rattle.p3_formula.specs.declared.form.Form.TheViews.{the_lemmas}
use Rattle.p3_formula.proofs.evaluation.+eval.Goals as goal

pub eval-eval-requires : goal.eval-eval-requires
eval-eval-requires t c = (search (rules, the_lemmas), rw c.get-in-Not.ensures (below-Not _ _ _ c.in-Not.is c.requires))

pub eval-all_hold-requires : goal.eval-all_hold-requires
eval-all_hold-requires t c = (search (rules, the_lemmas), rw c.items.ensures (below-And _ _ _ c.in-And.is c.requires))

pub eval-some_holds-requires : goal.eval-some_holds-requires
eval-some_holds-requires t c = (search (rules, the_lemmas), rw c.items-in-Or.ensures (below-Or _ _ _ c.in-Or.is c.requires))
