use Rattle.std.proofs.Common.{rules, ◌∙◌, Bor, List, ℕ, ℤ}
use Rattle.std.proofs.lemmas.Int.{to_z-of_z}
use mir.Syntax.{w128}
use mir.Val.{SFits}
use Rattle.p3_metric.proofs.EntryLemmas.{number_at_last, number_at_removed, number_at_none, nothing_in}
use Rattle.p3_metric.proofs.entries.take.Goals as goal

pub returns-in-None-clause-none : goal.returns-in-None-clause-none
returns-in-None-clause-none c = number_at_none c.args.entries.now (nothing_in (Bor (List ℕ) × ℤ) c.args.entries.now.entries c.in-None.ensures.found)

pub returns-in-Some-clause-own : goal.returns-in-Some-clause-own
returns-in-Some-clause-own c =
    let f : SFits w128 c.in-Some.pair.1 = search rules in
    to_z-of_z w128 c.in-Some.pair.1 f ∙ number_at_last c.args.entries.now c.pop.new.self c.in-Some.pair.0 c.in-Some.pair.1 c.in-Some.ensures.entries c.in-Some.ensures.updates

pub returns-in-Some-clause-rest : goal.returns-in-Some-clause-rest
returns-in-Some-clause-rest c = number_at_removed c.args.entries.now c.pop.new.self c.in-Some.pair.0 c.in-Some.ensures.updates
