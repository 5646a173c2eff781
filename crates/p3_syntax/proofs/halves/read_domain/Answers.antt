use Rattle.std.proofs.Common.{subst, IsSome, ◌∙◌, sym, ap}
use Rattle.p3_task.specs.Grammar.Halves.{domain_place}
use Rattle.p3_task.specs.declared.expression.Expression.{Expression}
use Rattle.p3_outline.specs.Nodes.{root_of}
use Rattle.p3_syntax.proofs.FirstLemmas.{outline_balanced, domain_tree}
use Rattle.p3_syntax.proofs.halves.read_domain.Goals as goal

pub returns-in-Ok-clause-text : goal.returns-in-Ok-clause-text
returns-in-Ok-clause-text c =
    let outline = c.in_ok-outline.outline in
    record {
      expression = root_of outline;
      balanced = outline_balanced c.domain_role.result c.args.text.now outline c.in_ok-outline.ensures.outline;
      reads = ap domain_place (sym c.root.ensures.root) ∙ c.in-Ok.ensures;
    }

pub domain-requires : goal.domain-requires
domain-requires c = record { tree = subst (λ (e : Expression). IsSome (domain_place e)) (sym c.root.ensures.root) (domain_tree c.args.side c.domain_role.result (root_of c.in_ok-outline.outline) c.domain_role.ensures c.in_ok-outline.ensures.tree) }
