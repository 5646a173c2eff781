use Rattle.std.proofs.Common.{◌∙◌, sym, ap, subst, List, Option, Some}
use Rattle.std.specs.Prelude.{IsSome}
use Rattle.p3_task.specs.Grammar.Words.{◌>>=◌, headed}
use Rattle.p3_task.specs.Grammar.Halves.{Section, keyword_parts}
use Rattle.p3_task.specs.declared.expression.Expression.{Expression}
use Rattle.p3_task.specs.declared.task.Action.{Action}
use Rattle.p3_task.specs.declared.term.Ref.{Ref}
use Rattle.p3_outline.specs.Nodes.{expressions_of}
use Rattle.p3_syntax.specs.declared.tree.actions.ActionBody.{ActionBody}
use Rattle.p3_syntax.specs.declared.tree.actions.ActionPart.{ActionPart}
use Rattle.p3_syntax.specs.Trees.{the_head}
use Rattle.p3_syntax.specs.Actions.{body_among, action_of, the_parts}
use Rattle.p3_syntax.proofs.HeadLemmas.{some_first}
use Rattle.p3_syntax.proofs.ActionLemmas.{action_known, from_parts}
use Rattle.p3_syntax.proofs.tree.actions.action.Goals as goal

abbrev from_list : Ref × List Expression → Option Action
from_list list = keyword_parts list.1 >>= from_parts list.0

pub headed-list-requires : goal.headed-list-requires
headed-list-requires c =
    let es = expressions_of c.args.parts in
    record { tree = some_first (headed (λ (e : Expression). e) es) from_list (subst IsSome (action_known es c.requires.tree) c.requires.tree) }

pub keyword_parts-requires : goal.keyword_parts-requires
keyword_parts-requires c =
    let es = expressions_of c.args.parts in
    let list = the_head c.headed-list.result in
    record { tree = some_first (keyword_parts list.1) (from_parts list.0) (subst (λ (found : Option (Ref × List Expression)). IsSome (found >>= from_list)) c.headed-list.ensures.headed (subst IsSome (action_known es c.requires.tree) c.requires.tree)) }

pub body_among-requires : goal.body_among-requires
body_among-requires c =
    let es = expressions_of c.args.parts in
    let list = the_head c.headed-list.result in
    let parts = the_parts c.in_ok-parts.parts.items in
    let has = subst (λ (found : Option (Ref × List Expression)). IsSome (found >>= from_list)) c.headed-list.ensures.headed (subst IsSome (action_known es c.requires.tree) c.requires.tree) in
    let body = some_first (body_among list.0.at parts) (λ body. Some (action_of list.0 body)) (subst (λ (read : Option (List Section)). IsSome (read >>= from_parts list.0)) c.in_ok-parts.ensures has) in
    record {
      tree = subst (λ (list : List ActionPart). IsSome (body_among c.in_ok-name.name.at (the_parts list))) (sym c.as_slice.ensures.value)
          (subst (λ (name : Ref). IsSome (body_among name.at parts)) (sym c.in_ok-name.ensures) body);
    }

pub returns : goal.returns
returns c =
    let es = expressions_of c.args.parts in
    let list = the_head c.headed-list.result in
    action_known es c.requires.tree ∙ ap (λ (found : Option (Ref × List Expression)). found >>= from_list) c.headed-list.ensures.headed
    ∙ ap (λ (read : Option (List Section)). read >>= from_parts list.0) c.in_ok-parts.ensures
    ∙ ap (λ (name : Ref). from_parts name (the_parts c.in_ok-parts.parts.items)) (sym c.in_ok-name.ensures)
    ∙ ap (λ (list : List ActionPart). from_parts c.in_ok-name.name (the_parts list)) (sym c.as_slice.ensures.value)
    ∙ ap (λ (read : Option ActionBody). read >>= λ body. Some (action_of c.in_ok-name.name body)) c.in_ok-body.ensures ∙ ap Some (sym c.action_of.ensures)
