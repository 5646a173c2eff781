-- There is room for the violations that are left.
use Rattle.std.proofs.Common.{◌≡◌, ◌∙◌, ℕ, ◌+◌, ◌^◌, ◌<◌, ◌≤◌, Bool, true, false, not, cond, List, length, get_or, Option, Some, None, ap, arith, length-set}
use Rattle.std.specs.Prelude.{slice_set}
use Rattle.std.specs.List.{All}
use Rattle.std.proofs.lemmas.Bool.{cases_eq}
use Rattle.std.proofs.lemmas.List.{get_or-set_same, get_or-set_other}
use mathlib.Core.Logic.{◌⊎◌, inl, inr}
use Rattle.p3_formula.specs.Forms.{State, truth}
use Rattle.p3_formula.specs.Weighted.{HasNameBelow}
use Rattle.p3_formula.specs.declared.modal.GroundPref.{GroundPref}
use Rattle.p3_run.specs.Steps.{added_if, HasRoom}
use Rattle.p3_run.specs.Tallies.{Counted, added}
use Rattle.p3_run.proofs.TallyLaws.{named_small}

module _ (by_name : List ℕ) (small : All (λ w. w < 2 ^ 64) by_name) where
  -- less room than there is
  pub less_room : (left more : ℕ) (tally : Counted) → left ≤ more → HasRoom by_name more tally → HasRoom by_name left tally
  less_room left more tally le has = record {
    names = has.names;
    room = λ k d lt. let h = has.room k d lt in omega (arith, le, h);
    worth = let h = has.worth in omega (arith, le, h);
  }

  -- one is counted
  room_added : (left : ℕ) (name : Option ℕ) (tally : Counted) → HasNameBelow (length by_name) name → HasRoom by_name (left + 1) tally → HasRoom by_name left (added by_name name tally)
  room_added left None tally below has = less_room left (left + 1) tally (omega arith) has
  room_added left (Some m) tally below has = record {
    names = length-set tally.counts m (get_or tally.counts m 0 + 1) ∙ has.names;
    room = λ k d lt. rest k d (let l = length-set tally.counts m (get_or tally.counts m 0 + 1) in omega (arith, l, lt)) (cases_eq k m);
    worth = let w = named_small by_name small (Some m) in let h = has.worth in omega (arith, w, h);
  }
    where
      in_counts : m < length tally.counts
      in_counts = let e = has.names in omega (arith, below, e)

      rest : (k d : ℕ) → k < length tally.counts → (k ≡ m) ⊎ (k ≡ m → ⊥) → get_or (slice_set tally.counts m (get_or tally.counts m 0 + 1)) k d + left < 2 ^ 64
      rest k d lt (inl same) =
          let e = ap (λ n. get_or (slice_set tally.counts m (get_or tally.counts m 0 + 1)) n d) same ∙ get_or-set_same tally.counts m (get_or tally.counts m 0 + 1) d in_counts in
          let h = has.room m 0 in_counts in
          omega (arith, e, h)
      rest k d lt (inr apart) =
          let e = get_or-set_other tally.counts m k (get_or tally.counts m 0 + 1) d apart in
          let h = has.room k d lt in
          omega (arith, e, h)

  pub room_added_if : (left : ℕ) (state : State) (pref : GroundPref) (tally : Counted) → HasNameBelow (length by_name) pref.name → HasRoom by_name (left + 1) tally → HasRoom by_name left (added_if state by_name tally pref)
  room_added_if left state pref tally below has = by (not (truth state pref.body)) where
    by : (b : Bool) → HasRoom by_name left (cond b (added by_name pref.name tally) tally)
    by true = room_added left pref.name tally below has
    by false = less_room left (left + 1) tally (omega arith) has
