-- Counters: how often each name is violated, and what the violations weigh together.
use Rattle.std.specs.Prelude.{◌≡◌, ℕ, ◌+◌, ◌-◌, ◌^◌, ◌<◌, ◌≤◌, Bool, true, false, List, length, slice_index_or, slice_set, Option, Some, None, IsSome}
use Rattle.p3_formula.specs.Weighted.{HasNameBelow, named_weight}

-- by the numbers of the names, and all together
pub record Counted : Type 0 where
  pub counts : List ℕ
  pub worth : ℕ

-- one violation more, which counts only where it has a name
abbrev pub added : List ℕ → Option ℕ → Counted → Counted
added by_name None tally = tally
added by_name (Some name) tally = record { counts = slice_set tally.counts name (slice_index_or tally.counts name 0 + 1); worth = tally.worth + slice_index_or by_name name 0 }

-- one less
abbrev pub removed : List ℕ → Option ℕ → Counted → Counted
removed by_name None tally = tally
removed by_name (Some name) tally = record { counts = slice_set tally.counts name (slice_index_or tally.counts name 0 - 1); worth = tally.worth - slice_index_or by_name name 0 }

-- the counters follow what was or was not satisfied, and now is or is not
abbrev pub recounted : List ℕ → Option ℕ → Bool → Bool → Counted → Counted
recounted by_name name true true tally = tally
recounted by_name name true false tally = added by_name name tally
recounted by_name name false true tally = removed by_name name tally
recounted by_name name false false tally = tally

-- the count of its name
abbrev pub count_at : Option ℕ → List ℕ → ℕ
count_at None counts = 0
count_at (Some name) counts = slice_index_or counts name 0

-- there is room for one more of the name
pub record CanAdd (by_name : List ℕ) (name : Option ℕ) (tally : Counted) : Type 0 where
  pub named : HasNameBelow (length by_name) name
  pub names : length tally.counts ≡ length by_name
  pub room : count_at name tally.counts + 1 < 2 ^ 64
  pub worth : tally.worth + named_weight by_name name < 2 ^ 128

-- there is one of the name
pub record CanRemove (by_name : List ℕ) (name : Option ℕ) (tally : Counted) : Type 0 where
  pub named : HasNameBelow (length by_name) name
  pub names : length tally.counts ≡ length by_name
  pub some : IsSome name → 1 ≤ count_at name tally.counts
  pub worth : named_weight by_name name ≤ tally.worth

-- the counters are these
pub record IsTally (by_name : List ℕ) (count : ℕ → ℕ) (weight : ℕ) (tally : Counted) : Type 0 where
  pub names : length tally.counts ≡ length by_name
  pub counts : (name : ℕ) → name < length by_name → slice_index_or tally.counts name 0 ≡ count name
  pub worth : tally.worth ≡ weight
