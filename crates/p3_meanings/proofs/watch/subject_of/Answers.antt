use Rattle.std.proofs.Common.{◌∙◌, ◌++◌, ap}
use Rattle.p3_scenes.specs.Lent.{lent_words}
use Rattle.p3_accounts.specs.Operators.{operator_word}
use Rattle.p3_accounts.specs.Subjects.{bindings_text}
use Rattle.p3_accounts.specs.Vocabularies.{vocabulary}
use Rattle.p3_meanings.specs.Heard.{of_watched}
use Rattle.p3_meanings.proofs.SaidLemmas.{bindings_are_told}
use Rattle.p3_meanings.proofs.watch.subject_of.Goals as goal

pub returns : goal.returns
returns c =
    let V = vocabulary c.args.telling.now.terms.now in
    c.subject_with.ensures V
    ∙ ap (λ means. of_watched V c.args.of (operator_word c.args.operator ++ means)) (ap (bindings_text V) c.in_ok-bindings.ensures ∙ bindings_are_told V (lent_words c.args.bindings.now.variables) c.args.bindings.now.objects)
