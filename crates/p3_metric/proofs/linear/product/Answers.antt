use Rattle.std.proofs.Common.{arith, ◌≡◌, ◌∙◌, ◌^◌, ◌&&◌, ◌||◌, Bool, true, false, inl, inr, sym, ap, refl}
use Rattle.std.proofs.lemmas.Result.{IfOk-weaker}
use Rattle.p3_metric.proofs.BoundLemmas.{times_passed_below, scaled_by, within_below}
use Rattle.p3_metric.proofs.linear.product.Goals as goal

first_false : (a b : Bool) → (a && b) ≡ false → b ≡ true → a ≡ false
first_false true b e f = absurd (cc)
first_false false b e f = refl

or_false : (a b : Bool) → b ≡ false → a ≡ (a || b)
or_false true b e = refl
or_false false b e = sym e

pub times-requires-clause-constant : goal.times-requires-clause-constant
times-requires-clause-constant c = times_passed_below c.args.second.constant c.head-factor.result.constant c.args.first.constant (2 ^ 64) (2 ^ 62) (2 ^ 126) (omega arith) c.head-factor.ensures.constant c.requires.second.constant (within_below c.args.first.constant c.requires.constant) (omega arith)

pub times-requires-else-mentions_any-clause-constant : goal.times-requires-else-mentions_any-clause-constant
times-requires-else-mentions_any-clause-constant c = times_passed_below c.args.first.constant c.head-factor-else-mentions_any.result.constant c.args.second.constant (2 ^ 62) (2 ^ 64) (2 ^ 126) (omega arith) c.head-factor-else-mentions_any.ensures.constant (within_below c.args.first.constant c.requires.constant) c.requires.second.constant (omega arith)

pub returns-then-mentions_any-clause-product : goal.returns-then-mentions_any-clause-product
returns-then-mentions_any-clause-product c =
    let t : c.args.second.mention ≡ true = sym c.mentions_any.ensures ∙ c.if-mentions_any.true in
    IfOk-weaker c.times.result _ _
    (λ measured is. inr (first_false c.args.first.mention c.args.second.mention c.requires.apart t, scaled_by c.args.second measured.form c.head-factor.result.constant c.args.first.constant c.head-factor.result.places c.args.first.places c.head-factor.ensures.constant c.requires.first.constant c.head-factor.ensures.places is))
    c.times.ensures.product

pub returns-then-mentions_any-clause-mention : goal.returns-then-mentions_any-clause-mention
returns-then-mentions_any-clause-mention c =
    let t : c.args.second.mention ≡ true = sym c.mentions_any.ensures ∙ c.if-mentions_any.true in
    IfOk-weaker c.times.result _ _
    (λ measured is. is ∙ ap (λ b. b || c.args.second.mention) (sym (first_false c.args.first.mention c.args.second.mention c.requires.apart t)))
    c.times.ensures.mention

pub returns-clause-product : goal.returns-clause-product
returns-clause-product c =
    let t : c.args.second.mention ≡ false = sym c.mentions_any.ensures ∙ c.if-mentions_any.false in
    IfOk-weaker c.times-else-mentions_any.result _ _
    (λ measured is. inl (t, scaled_by c.args.first measured.form c.head-factor-else-mentions_any.result.constant c.args.second.constant c.head-factor-else-mentions_any.result.places c.args.second.places c.head-factor-else-mentions_any.ensures.constant c.requires.second.constant c.head-factor-else-mentions_any.ensures.places is))
    c.times-else-mentions_any.ensures.product

pub returns-clause-mention : goal.returns-clause-mention
returns-clause-mention c =
    let t : c.args.second.mention ≡ false = sym c.mentions_any.ensures ∙ c.if-mentions_any.false in
    IfOk-weaker c.times-else-mentions_any.result _ _ (λ measured is. is ∙ or_false c.args.first.mention c.args.second.mention t) c.times-else-mentions_any.ensures.mention
