use Rattle.std.proofs.Common.{◌∙◌, sym, subst, Some}
use Rattle.std.specs.Prelude.{IsSome}
use Rattle.p3_task.specs.declared.goal.PreGoal.TheVariants.{Plain}
use Rattle.p3_outline.specs.Nodes.{expressions_of}
use Rattle.p3_syntax.specs.Trees.{formula_of, the_word}
use Rattle.p3_syntax.proofs.HeadLemmas.{some_first}
use Rattle.p3_syntax.proofs.GoalLemmas.{goal_plain}
use Rattle.p3_syntax.proofs.tree.goals.+goal.Goals as goal

pub goal_by-formula_by-requires : goal.goal_by-formula_by-requires
goal_by-formula_by-requires t c =
    let head = the_word c.args.word in
    let es = expressions_of c.args.behind in
    let plain = goal_plain head es (sym c.is.ensures ∙ c.if-is.false) (sym c.is-else-is.ensures ∙ c.if-is-2.false) (sym c.is-else-is-2.ensures ∙ c.if-is-3.false) in
    record { tree = some_first (formula_of head es) (λ tree. Some (Plain tree)) (subst IsSome plain c.requires.tree) }
