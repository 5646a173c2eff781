use Rattle.std.proofs.Common.{rules, ◌≡◌, ◌≤◌, length, sym, subst}
use Rattle.p3_base.specs.declared.refusal.Side.TheVariants.{Source}
use Rattle.p3_tree.specs.Samples.{sample_problem, sample_plan}
use Rattle.p3_task.specs.Sides.{byte_limit, plan_byte_limit}
use Rattle.p3_gen.proofs.LengthLemmas.{problem_short, plan_short}
use Rattle.p3_gen.proofs.sample.generate.Goals as goal

pub returns-clause-short_problem : goal.returns-clause-short_problem
returns-clause-short_problem c =
    let same : c.from-2.result ≡ sample_problem c.args.n = search rules in
    subst (λ text. length text ≤ byte_limit Source) (sym same) (problem_short c.args.n c.requires.few)

pub returns-clause-short_plan : goal.returns-clause-short_plan
returns-clause-short_plan c =
    let same : c.from-3.result ≡ sample_plan c.args.n = search rules in
    subst (λ text. length text ≤ plan_byte_limit) (sym same) (plan_short c.args.n c.requires.few)
