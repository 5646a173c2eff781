-- Optima are kept by a faithful translation.
use Rattle.std.proofs.Common.{◌≡◌, ◌≤ℤ◌, ◌-ℤ◌, ℤ, subst, arith}
use Rattle.std.proofs.lemmas.Int.{ints}
use Rattle.p3_task.specs.Plans.{Plan}
use Rattle.p3_task.specs.Metrics.{value, loss, base_loss}
use Rattle.p3_task.specs.Lifting.{lift}
use Rattle.p3_task.specs.Faithful.{HasOneSource, Faithful}
use Rattle.p3_task.specs.Laws.{IsCheapest, IsBest}
use Rattle.p3_task.specs.declared.task.Task.{Task}

-- what is least above the base is least
least_above : (cheap other least loss base : ℤ) → cheap ≡ least -ℤ base → other ≡ loss -ℤ base → cheap ≤ℤ other → least ≤ℤ loss
least_above cheap other least loss base e f h = omega (arith, ints)

pub optima_are_kept : (T U : Task) → Faithful T U → (q : Plan) → IsCheapest U q → IsBest T (lift T q)
optima_are_kept T U faithful q cheapest = record {
  valid = (faithful.sound q cheapest.valid).valid;
  least = λ p valid.
      let one : HasOneSource T U p = faithful.one_to_one p valid in
      let cost : value U one.source ≡ loss T p -ℤ base_loss T = subst (λ r. value U one.source ≡ loss T r -ℤ base_loss T) one.lifts (faithful.sound one.source one.valid).cost in
      least_above (value U q) (value U one.source) (loss T (lift T q)) (loss T p) (base_loss T) (faithful.sound q cheapest.valid).cost cost (cheapest.least one.source one.valid);
}
