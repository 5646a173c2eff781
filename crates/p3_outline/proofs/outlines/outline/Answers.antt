use Rattle.std.proofs.Common.{◌≡◌, ◌∷◌, [], ◌∙◌, refl, sym, ap, subst, Some, IfSome}
use Rattle.std.specs.Option.{option_map}
use Rattle.p3_task.specs.Expressions.{expression_of_text}
use Rattle.p3_outline.specs.declared.build.Nodes.{Nodes}
use Rattle.p3_outline.specs.Balances.{balance_refusal}
use Rattle.p3_outline.specs.Nodes.{expressions_in, first_of}
use Rattle.p3_outline.specs.Numbers.{number_refusal}
use Rattle.p3_places.specs.Walks.{place_of, fault_of}
use Rattle.p3_places.proofs.Faults.{finds}
use Rattle.p3_outline.proofs.SoundLemmas.{spelled, balanced}
use Rattle.p3_outline.proofs.outlines.outline.Goals as goal

pub returns-in-Ok-Some-clause-outline : goal.returns-in-Ok-Some-clause-outline
returns-in-Ok-Some-clause-outline c =
    let text = c.args.text.now in
    let limit = c.level_limit-limit.result in
    let built = c.in-Ok-Some.field-0-0 in
    let level = sym c.level_limit-limit.ensures in
    let is : Some (expressions_in text built.nodes.items) ≡ option_map (λ e. e ∷ []) (expression_of_text limit text) =
    sym (ap (option_map (λ (nodes : Nodes). expressions_in text nodes.nodes.items)) c.in-Ok-Some.field-0-is) ∙ c.in-Ok-Some.ensures.nodes
    in
    let e = spelled (expression_of_text limit text) (expressions_in text built.nodes.items) is in
    record {
      source = refl;
      balanced = ap (λ n. balance_refusal c.args.role n text) level ∙ balanced c.args.role limit text e.0 e.1;
      whole = ap (λ n. expression_of_text n text) level ∙ e.1 ∙ ap (λ es. Some (first_of es)) (sym e.2);
      numbers = subst (λ o. IfSome o (λ (nodes : Nodes). nodes.number ≡ number_refusal c.args.role text)) c.in-Ok-Some.field-0-is c.in-Ok-Some.ensures.number;
      faults =
          finds c.args.role text built.fault c.requires.of_a_task
          (subst (λ o. IfSome o (λ (nodes : Nodes). nodes.fault ≡ fault_of c.args.role (place_of c.args.role) text)) c.in-Ok-Some.field-0-is c.in-Ok-Some.ensures.fault);
    }
