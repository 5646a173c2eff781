use Rattle.std.proofs.Common.{subst, IsSome, ◌∙◌, sym, ap}
use Rattle.p3_task.specs.Grammar.Halves.{problem_place}
use Rattle.p3_task.specs.declared.expression.Expression.{Expression}
use Rattle.p3_outline.specs.Nodes.{root_of}
use Rattle.p3_syntax.proofs.FirstLemmas.{outline_balanced, problem_tree}
use Rattle.p3_syntax.proofs.halves.read_problem.Goals as goal

pub returns-in-Ok-clause-text : goal.returns-in-Ok-clause-text
returns-in-Ok-clause-text c =
    let outline = c.in_ok-outline.outline in
    record {
      expression = root_of outline;
      balanced = outline_balanced c.problem_role.result c.args.text.now outline c.in_ok-outline.ensures.outline;
      reads = ap problem_place (sym c.root.ensures.root) ∙ c.in-Ok.ensures;
    }

pub problem-requires : goal.problem-requires
problem-requires c = record { tree = subst (λ (e : Expression). IsSome (problem_place e)) (sym c.root.ensures.root) (problem_tree c.args.side c.problem_role.result (root_of c.in_ok-outline.outline) c.problem_role.ensures c.in_ok-outline.ensures.tree) }
