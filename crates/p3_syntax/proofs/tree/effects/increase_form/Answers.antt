use Rattle.std.proofs.Common.{if◌then◌else◌, subst, List, Option, Some, None}
use Rattle.std.specs.Prelude.{IsSome}
use Rattle.p3_task.specs.Grammar.Words.{◌>>=◌, pair}
use Rattle.p3_task.specs.Grammar.Effects.{amount_place, total_cost_place}
use Rattle.p3_task.specs.declared.effect.Effect.{Effect}
use Rattle.p3_task.specs.declared.effect.Effect.TheVariants.{Cost}
use Rattle.p3_task.specs.declared.expression.Expression.{Expression}
use Rattle.p3_task.specs.declared.term.Ref.{Ref}
use Rattle.p3_outline.specs.Nodes.{expressions_of}
use Rattle.p3_syntax.specs.Effects.{effect_found}
use Rattle.p3_syntax.specs.Trees.{the_pair, the_word}
use Rattle.p3_syntax.proofs.HeadLemmas.{some_first, some_next}
use Rattle.p3_syntax.proofs.TreeLemmas.{raws_listed}
use Rattle.p3_syntax.proofs.tree.effects.increase_form.Goals as goal

pub amount-requires : goal.amount-requires
amount-requires c =
    let es = expressions_of c.args.behind in
    let both = the_pair c.pair.result in
    let last : Ref → Option Effect = λ word. amount_place both.1 >>= λ increase. if c.args.free then Some (Cost word.at increase) else None in
    let all : Expression × Expression → Option Effect = λ both. total_cost_place both.0 >>= λ word. amount_place both.1 >>= λ increase. if c.args.free then Some (Cost word.at increase) else None in
    let listed = subst (λ (list : List Expression). IsSome (pair list >>= all)) (raws_listed effect_found es) c.requires.tree in
    let behind = some_next (total_cost_place both.0) (the_word c.total_cost-word.result) last c.total_cost-word.ensures (some_next (pair es) both all c.pair.ensures.pair listed) in
    record { tree = some_first (amount_place both.1) (λ increase. if c.args.free then Some (Cost (the_word c.total_cost-word.result).at increase) else None) behind }
