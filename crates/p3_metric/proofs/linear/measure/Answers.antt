use Rattle.std.proofs.Common.{rules, ◌∙◌, sym}
use mir.Syntax.{w128}
use mir.Val.{SFits}
use Rattle.p3_metric.proofs.BoundLemmas.{passed_within}
use Rattle.p3_metric.proofs.EntryLemmas.{both_true}
use Rattle.p3_metric.proofs.linear.measure.Goals as goal

pub returns-clause-small : goal.returns-clause-small
returns-clause-small c = λ e.
    let f : SFits w128 c.args.form.constant = search rules in
    let g : SFits w128 c.args.form.cost = search rules in
    let first = both_true _ _ e in
    let second = both_true _ _ first.1 in
    record {
      constant = sym (passed_within c.args.form.constant f _ c.is_within_bound.ensures) ∙ first.0;
      coefficients = record { cost = sym (passed_within c.args.form.cost g _ c.is_within_bound-2.ensures) ∙ second.0; counts = c.requires.within second.1 };
    }
