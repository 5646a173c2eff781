use Rattle.std.proofs.Common.{◌∙◌, sym, arith}
use Rattle.p3_outline.specs.Nodes.{expression_of, expressions_of}
use Rattle.p3_syntax.proofs.GroupLemmas.{group_item, group_dropped, group_kind, group_open, kind_follows, kind_is}
use Rattle.p3_syntax.proofs.tree.groups.first_item.Goals as goal

pub group-preserved : goal.group-preserved
group-preserved c =
    let kept = c.group.invariant in
    let view = c.in-Some-next in
    record {
      whole = group_item (expression_of c.in-Some.first) c.group.count (expressions_of c.next.new.self) (expressions_of c.group.ahead) _ kept.whole
          (expression_of view.view) _ view.ensures.parts kept.here (sym c.is_dash.ensures ∙ c.if-is_dash.false);
      here = group_dropped c.group.count (expressions_of c.next.new.self) (expressions_of c.group.ahead) _ (expression_of view.view) view.ensures.parts kept.here;
      nodes = omega (arith, kept.nodes, view.ensures.less);
      less = kept.less;
    }

pub unwrap-requires : goal.unwrap-requires
unwrap-requires c =
    kind_follows (expressions_of c.next-in-group.new.self) _ c.next-then-is_dash.result c.next-then-is_dash.ensures.parts
    (group_open (expression_of c.in-Some.first) c.group.count (expressions_of c.next.new.self) (expressions_of c.group.ahead) _ c.group.invariant.whole c.requires.tree
    (expression_of c.in-Some-next.view) (expressions_of c.next-in-group.new.self) c.in-Some-next.ensures.parts (sym c.is_dash.ensures ∙ c.if-is_dash.true))

pub returns-then-is_dash-clause-items : goal.returns-then-is_dash-clause-items
returns-then-is_dash-clause-items c =
    let view = c.in-Some-next in
    group_kind (expression_of c.in-Some.first) c.group.count (expressions_of c.next.new.self) (expressions_of c.group.ahead) _ c.group.invariant.whole
    (expression_of view.view) (expression_of c.unwrap.result) (expressions_of c.next-in-group.new.self) _ view.ensures.parts (sym c.is_dash.ensures ∙ c.if-is_dash.true)
    (kind_is (expressions_of c.next-in-group.new.self) _ c.next-then-is_dash.result c.next-then-is_dash.ensures.parts c.unwrap.result c.unwrap.ensures)
