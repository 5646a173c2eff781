use Rattle.std.proofs.Common.{◌∙◌, ◌∷◌, [], true, length, refl, sym, ap}
use Rattle.std.proofs.lemmas.Bool.{and_from}
use Rattle.p3_compile.specs.Parts.{copied_action}
use Rattle.p3_formula.specs.Targets.{is_sized_action}
use Rattle.p3_writer.specs.DomainText.{with_actions}
use Rattle.p3_writer.specs.Layout.{is_small}
use Rattle.p3_cli.proofs.ResultLemmas.{on_both}
use Rattle.p3_cli.proofs.StreamingLemmas.{same_action}
use Rattle.p3_cli.proofs.streaming.push_copy.Goals as goal

pub push_copy-requires : goal.push_copy-requires
push_copy-requires c = ap (is_sized_action (length c.args.text.now.names)) (same_action c.args.number c.args.go c.args.copy.now _ _ c.items.ensures c.items-2.ensures) ∙ c.requires

pub returns : goal.returns
returns c =
    let action = copied_action c.args.number c.args.go c.args.copy.now in
    let same = same_action c.args.number c.args.go c.args.copy.now _ _ c.items.ensures c.items-2.ensures in
    on_both c.push_copy.result
    (λ layout small. record {
      written = layout ∙ ap (λ action. with_actions c.args.text.now (action ∷ [])) same;
      small = and_from (is_small action) true (ap is_small (sym same) ∙ small) refl;
    })
    c.push_copy.ensures.layout c.push_copy.ensures.small
