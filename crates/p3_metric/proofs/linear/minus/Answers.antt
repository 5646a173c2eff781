use Rattle.std.proofs.Common.{◌≡◌, ◌||◌}
use Rattle.std.specs.Prelude.{Result, Ok, Err, IfOk}
use Rattle.p3_base.specs.declared.error.NoMemory.{NoMemory}
use Rattle.p3_metric.specs.Forms.{IsSum, IsDifference}
use Rattle.p3_metric.specs.declared.linear.Measured.{Measured}
use Rattle.p3_metric.proofs.BoundLemmas.{negation_bounded}
use Rattle.p3_metric.proofs.linear.minus.Goals as goal

pub plus-requires-clause-second : goal.plus-requires-clause-second
plus-requires-clause-second c = negation_bounded c.args.second c.in_ok-negation.field-0.form c.requires.second c.in_ok-negation.ensures.scaled

pub returns-clause-difference : goal.returns-clause-difference
returns-clause-difference c = by c.plus.result c.plus.ensures.sum c.plus.ensures.mention
  where
    by : (r : Result Measured NoMemory) → IfOk r (λ m. IsSum c.args.first c.in_ok-negation.field-0.form m.form) → IfOk r (λ m. m.form.mention ≡ (c.args.first.mention || c.in_ok-negation.field-0.form.mention)) → IfOk r (λ m. IsDifference c.args.first c.args.second m.form)
    by (Ok m) sum mention = record { negation = c.in_ok-negation.field-0.form; negated = c.in_ok-negation.ensures.scaled; same_mention = c.in_ok-negation.ensures.mention; sum = sum; mention = mention }
    by (Err e) sum mention = tt
