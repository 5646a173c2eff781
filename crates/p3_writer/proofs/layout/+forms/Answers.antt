use Rattle.std.proofs.Common.{rules}
use Rattle.p3_formula.proofs.FormLemmas.{below-Not, below-And, below-Or}
use Rattle.p3_formula.specs.declared.form.Form.TheViews.{the_lemmas}
use Rattle.p3_writer.proofs.layout.+forms.Goals as goal

pub push_form-push_negated-requires : goal.push_form-push_negated-requires
push_form-push_negated-requires t c = (search (rules, the_lemmas), rw c.get.ensures (below-Not _ _ _ c.in-Not.is c.requires))

pub push_form-push_joined-requires : goal.push_form-push_joined-requires
push_form-push_joined-requires t c = (search (rules, the_lemmas), rw c.items.ensures (below-And _ _ _ c.in-And.is c.requires))

pub push_form-push_joined-requires-in-Or : goal.push_form-push_joined-requires-in-Or
push_form-push_joined-requires-in-Or t c = (search (rules, the_lemmas), rw c.items-in-Or.ensures (below-Or _ _ _ c.in-Or.is c.requires))
