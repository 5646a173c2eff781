-- Costs in units.
use Rattle.std.specs.Prelude.{ℕ, ◌-◌, ◌*◌, ◌^◌}
use Rattle.p3_task.specs.declared.effect.Numeral.{Numeral}

-- a number in units of the last of so many decimal places
abbrev pub units_at : ℕ → Numeral → ℕ
units_at places numeral = numeral.digits * 10 ^ (places - numeral.places)
