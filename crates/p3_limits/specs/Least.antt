-- The refusal of least offset.
use Rattle.std.specs.Prelude.{nat_lt, Option, Some, None, if◌then◌else◌}
use Rattle.p3_base.specs.declared.refusal.Refusal.{Refusal}

-- that of least offset, the first where offsets are equal
abbrev pub with_least : Option Refusal → Refusal → Option Refusal
with_least None refusal = Some refusal
with_least (Some least) refusal = if nat_lt refusal.pos.offset least.pos.offset then Some refusal else Some least
