use Rattle.std.proofs.Common.{◌∙◌, ◌++◌, ◌∷◌, true, false, map, sym, ap}
use Rattle.std.specs.Prelude.{codes}
use Rattle.std.proofs.lemmas.Result.{on_ok_weaker}
use Rattle.p3_formula.specs.Simplified.{spread}
use Rattle.p3_writer.specs.Layout.{form_text, spaced}
use Rattle.p3_writer.proofs.CopyLemmas.{alone_text, atom_below, behind_text, others_below}
use Rattle.p3_writer.proofs.copy_text.push_behind_atom.Goals as goal

pub spaced-requires : goal.spaced-requires
spaced-requires c = atom_below _ c.args.atom c.args.form.now c.requires true (sym c.has_no_part.ensures ∙ c.if-has_no_part.true)

pub returns-then-has_no_part : goal.returns-then-has_no_part
returns-then-has_no_part c =
    let alone = alone_text c.args.atoms.now c.args.atom c.args.form.now (sym c.has_no_part.ensures ∙ c.if-has_no_part.true) in
    on_ok_weaker c.push_bytes.result (λ is. is ∙ ap (λ text. c.args.out.now.items ++ text) (c.spaced.ensures ∙ ap (λ text. 32 ∷ text) (sym alone))) c.push_bytes.ensures

pub spaced-requires-2 : goal.spaced-requires-2
spaced-requires-2 c = atom_below _ c.args.atom c.args.form.now c.requires false (sym c.has_no_part.ensures ∙ c.if-has_no_part.false)

pub push_parts-requires : goal.push_parts-requires
push_parts-requires c = others_below _ c.args.atom c.args.form.now c.requires (sym c.has_no_part.ensures ∙ c.if-has_no_part.false)

pub returns : goal.returns
returns c =
    let others = spaced (map (form_text c.args.atoms.now) (spread c.args.form.now)) in
    on_ok_weaker c.push-2.result
    (λ is. is
    ∙ ap (λ text. text ++ codes ")") (c.in_ok-push_parts.ensures ∙ ap (λ text. text ++ others) (c.in_ok-push_bytes.ensures ∙ λ i. c.in_ok-push.ensures i ++ c.spaced-2.ensures i))
    ∙ behind_text c.args.atoms.now c.args.atom c.args.form.now c.args.out.now.items (sym c.has_no_part.ensures ∙ c.if-has_no_part.false))
    c.push-2.ensures
