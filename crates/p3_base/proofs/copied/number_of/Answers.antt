use Rattle.std.proofs.Common.{◌≡◌, ◌∙◌, ℕ, List, Option, sym, subst}
use Rattle.std.specs.Prelude.{IfSome, IfNone, decimal}
use Rattle.std.specs.Str.Parse.{ParsesUnsigned}
use Rattle.p3_base.specs.Copied.{IsNoNumber}
use Rattle.p3_base.proofs.CopiedLaws.{no_text, padded_is_none, parsed}
use Rattle.p3_base.proofs.copied.number_of.Goals as goal

pub returns-then-is_padded-clause-none : goal.returns-then-is_padded-clause-none
returns-then-is_padded-clause-none c = padded_is_none c.args.digits.now (sym c.is_padded.ensures ∙ c.if-is_padded.true)

pub returns-in_default-clause-none : goal.returns-in_default-clause-none
returns-in_default-clause-none c = no_text c.args.digits.now c.in_default.ensures.cases.0

pub returns-clause-some : goal.returns-clause-some
returns-clause-some c =
    let parses = subst (λ (text : List ℕ). ParsesUnsigned 32 10 text c.parse.result) c.in-Ok.ensures.cases.0 c.parse.ensures.value.0 in
    subst (λ (r : Option ℕ). IfSome r (λ number. decimal number ≡ c.args.digits.now)) (sym c.ok.ensures.value)
    (parsed _ c.args.digits.now c.parse.result (sym c.is_padded.ensures ∙ c.if-is_padded.false) parses).0

pub returns-clause-none : goal.returns-clause-none
returns-clause-none c =
    let parses = subst (λ (text : List ℕ). ParsesUnsigned 32 10 text c.parse.result) c.in-Ok.ensures.cases.0 c.parse.ensures.value.0 in
    subst (λ (r : Option ℕ). IfNone r (IsNoNumber c.args.digits.now)) (sym c.ok.ensures.value)
    (parsed _ c.args.digits.now c.parse.result (sym c.is_padded.ensures ∙ c.if-is_padded.false) parses).1
