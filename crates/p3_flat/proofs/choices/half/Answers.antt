use Rattle.std.proofs.Common.{subst}
use Rattle.p3_flat.specs.Splitting.{IsExcluded, forms_in}
use Rattle.p3_flat.proofs.ChoiceLemmas.{half_excluded, half_made}
use Rattle.p3_flat.proofs.choices.half.Goals as goal

pub returns-then-is_excluded : goal.returns-then-is_excluded
returns-then-is_excluded c =
    half_excluded c.args.pre.now c.args.choice.now c.args.part.now c.args.holds
    (subst (λ list. IsExcluded c.args.pre.now (forms_in list) c.args.part.now) c.items.ensures (c.is_excluded.ensures c.if-is_excluded.true))

pub returns : goal.returns
returns c = half_made c.args.pre.now c.args.choice.now c.args.part.now c.args.holds _ c.in_ok-pattern.ensures c.in_ok-parts.ensures
