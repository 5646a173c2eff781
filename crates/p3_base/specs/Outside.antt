-- What a store of files holds and what a sink was given, where they tell it, and when a count of faults rose.
use Rattle.std.specs.Prelude.{ℕ, Bool, ◌≡◌, ◌+◌, ◌-◌, ◌^◌, ◌<◌, ◌++◌, ◌⊎◌, List, [], length, take, Option, IfSome, IsSome, IsSomeAnd, unwrap_or, Some, map}
use Rattle.std.specs.Option.{option_map}
use Rattle.std.specs.Ordering.{nat_cmp}
use Rattle.std.specs.Cmp.Lexicographic.{slice_cmp}
use Rattle.std.specs.Io.KnownBytes.{Consumes}
use Rattle.std.specs.FinMap.{FinMap, get, insert}
use Rattle.std.specs.declared.vec.Vec.{Vec}
use Rattle.std.specs.declared.alloc.Global.{Global}

-- names with the bytes that they hold
abbrev pub Store : Type 0
Store = FinMap (slice_cmp nat_cmp) (List ℕ)

-- all that is seen of a store of files: what is held, where it is told; whether no read can fail; and how often a read, and a write, has failed
pub record FilesSeen : Type 0 where
  pub held : Option Store
  pub is_sure : Bool
  pub read_faults : ℕ
  pub write_faults : ℕ

-- all that is seen of a sink: what was put so far, where it is told; and how often a put has failed
pub record SinkSeen : Type 0 where
  pub written : Option (List ℕ)
  pub faults : ℕ

-- what a name holds, or nothing
abbrev pub bytes_under : Store → List ℕ → Option (List ℕ)
bytes_under store name = get store name

-- what is told of a store after the bytes were put under the name
abbrev pub holding : List ℕ → List ℕ → Option Store → Option Store
holding name bytes told = option_map (λ store. insert store name bytes) told

-- what is told is as before, but that the name holds the bytes
abbrev pub IsHolding : List ℕ → List ℕ → Option Store → Option Store → Type 0
IsHolding name bytes old new = new ≡ holding name bytes old

-- it is told that the name is held
abbrev pub IsStored : Option Store → List ℕ → Type 0
IsStored told name = IsSomeAnd told (λ store. IsSome (bytes_under store name))

-- where it is told, the name holds these bytes
abbrev pub IsHeld : Option Store → List ℕ → List ℕ → Type 0
IsHeld told name bytes = IfSome told (λ store. bytes_under store name ≡ Some bytes)

-- the bytes are the first ones of the whole
abbrev pub IsPrefix : List ℕ → List ℕ → Type 0
IsPrefix bytes whole = (n : ℕ) × (bytes ≡ take n whole)

-- where it is told, what the name holds begins with these bytes
abbrev pub BeginsHeld : Option Store → List ℕ → List ℕ → Type 0
BeginsHeld told name bytes = IfSome told (λ store. IsPrefix bytes (unwrap_or (bytes_under store name) []))

-- where it is told, the name holds more bytes than the limit, and these are the first of them, one more than the limit
abbrev pub IsTooLong : Option Store → List ℕ → ℕ → List ℕ → Type 0
IsTooLong told name limit bytes =
    (length bytes ≡ limit + 1) × IfSome told (λ store. IsSomeAnd (bytes_under store name) (λ whole. (limit < length whole) × (bytes ≡ take (limit + 1) whole)))

-- the name holds some of the bytes, the first ones, or all is as before
abbrev pub IsPartlyWritten : List ℕ → List ℕ → Option Store → Option Store → Type 0
IsPartlyWritten name bytes old new = (new ≡ old) ⊎ ((n : ℕ) × (new ≡ holding name (take n bytes) old))

-- where a source tells what it has left, it gave the bytes by which what was taken in has grown
abbrev pub IsTaken : Option (List ℕ) → Option (List ℕ) → List ℕ → List ℕ → Type 0
IsTaken before after old new = (bytes : List ℕ) × (new ≡ old ++ bytes) × Consumes before after bytes

-- a count is greater than before, or stands at the greatest that it can reach
abbrev pub Rose : ℕ → ℕ → Type 0
Rose before after = (before < after) ⊎ (after ≡ 2 ^ 64 - 1)

-- what is told of a sink after the bytes were put
abbrev pub with_put : List ℕ → Option (List ℕ) → Option (List ℕ)
with_put bytes told = option_map (λ written. written ++ bytes) told

-- all of the bytes were put behind what was put before
abbrev pub IsPut : List ℕ → Option (List ℕ) → Option (List ℕ) → Type 0
IsPut bytes old new = new ≡ with_put bytes old

-- the first ones of the bytes were put
abbrev pub IsPartlyPut : List ℕ → Option (List ℕ) → Option (List ℕ) → Type 0
IsPartlyPut bytes old new = (n : ℕ) × (new ≡ with_put (take n bytes) old)

-- the entries of a map in memory, as names and bytes
abbrev pub listed : List (Vec ℕ Global × Vec ℕ Global) → List (List ℕ × List ℕ)
listed entries = map (λ entry. (entry.0.items, entry.1.items)) entries
