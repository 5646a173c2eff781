use Rattle.std.proofs.Common.{rules, ◌≡◌, ◌∙◌, ◌∷◌, ◌++◌, [], sym, subst}
use Rattle.p3_compile.proofs.CopyLists.{copied_more}
use Rattle.p3_compile.proofs.narrow.target_copies.Goals as goal
use Rattle.p3_compile.specs.Parts.{AreCopied}

pub returns : goal.returns
returns c =
    let others = c.pop.new.self.items in
    let all : others ++ c.in-Some.last ∷ [] ≡ c.args.copies = search rules in
    subst (AreCopied c.args.effects c.args.copies) (sym (c.from.ensures ∙ c.in_ok-push.ensures.items))
    (subst (λ copies. AreCopied c.args.effects copies (c.in_ok-made.made.items ++ c.in_ok-target_copy.field-0 ∷ [])) all
    (copied_more c.args.effects others c.in_ok-made.made.items c.in-Some.last c.in_ok-target_copy.field-0 c.in_ok-made.ensures c.in_ok-target_copy.ensures))
