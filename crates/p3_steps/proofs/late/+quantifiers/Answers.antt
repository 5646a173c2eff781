use Rattle.std.proofs.Common.{sym, subst}
use Rattle.std.specs.List.{All}
use Rattle.p3_steps.specs.Late.{IsTestedEarly}
use Rattle.p3_steps.proofs.LateLemmas.{early-And, early-Or, on-false}
use Rattle.p3_steps.proofs.late.+quantifiers.Goals as goal

pub has_quantifier-returns-in-And : goal.has_quantifier-returns-in-And
has_quantifier-returns-in-And t c =
    on-false c.some_have_quantifier.result (λ early. subst IsTestedEarly (sym c.in-And.is) (early-And c.in-And.parts (subst (All IsTestedEarly) c.items.ensures early))) c.some_have_quantifier.ensures

pub has_quantifier-returns-in-Or : goal.has_quantifier-returns-in-Or
has_quantifier-returns-in-Or t c =
    on-false c.some_have_quantifier-in-Or.result (λ early. subst IsTestedEarly (sym c.in-Or.is) (early-Or c.in-Or.parts (subst (All IsTestedEarly) c.items-in-Or.ensures early))) c.some_have_quantifier-in-Or.ensures
