use Rattle.std.proofs.Common.{◌∙◌, sym, ap, subst, Option, List, Some}
use Rattle.std.specs.Prelude.{IsSome}
use Rattle.p3_task.specs.Grammar.Words.{◌>>=◌, each_at}
use Rattle.p3_task.specs.Grammar.Formulas.{AtomText}
use Rattle.p3_task.specs.Grammar.Lists.{term_place}
use Rattle.p3_task.specs.declared.effect.Effect.TheVariants.{Add}
use Rattle.p3_task.specs.declared.term.Term.{Term}
use Rattle.p3_task.specs.declared.term.Ref.{Ref}
use Rattle.p3_outline.specs.Nodes.{expressions_of}
use Rattle.p3_syntax.specs.Trees.{the_word}
use Rattle.p3_syntax.specs.Effects.{effect_found}
use Rattle.p3_syntax.proofs.HeadLemmas.{named_atom, some_first}
use Rattle.p3_syntax.proofs.tree.effects.add_form.Goals as goal

pub terms-requires : goal.terms-requires
terms-requires c =
    let head = the_word c.args.word in
    let known = named_atom effect_found head (expressions_of c.args.behind) (λ (atom : AtomText). Add atom.pred atom.args) c.requires.tree in
    record { tree = some_first (each_at term_place (expressions_of c.args.behind)) (λ args. Some (Add head args)) (subst IsSome known c.requires.tree) }

pub returns : goal.returns
returns c =
    named_atom effect_found (the_word c.args.word) (expressions_of c.args.behind) (λ (atom : AtomText). Add atom.pred atom.args) c.requires.tree
    ∙ ap (λ (read : Option (List Term)). read >>= λ args. Some (Add (the_word c.args.word) args)) c.in_ok-args.ensures
    ∙ ap (λ (pred : Ref). Some (Add pred c.in_ok-args.args)) (sym c.in_ok-pred.ensures)
