-- Shares by numbers are those of each plan whose steps the run has done, and add up to its loss.
use Rattle.std.proofs.Common.{◌≡◌, ◌∙◌, ℕ, suc, ◌+◌, ◌*◌, refl, sym, ap, subst, arith, List, [], ◌∷◌, ◌++◌, length, Some, pos, ◌+ℤ◌, sum_by}
use Rattle.std.specs.Prelude.{ℤ, slice_get, slice_index_or}
use Rattle.std.specs.List.{AllZip, range_with_len}
use Rattle.std.proofs.Math.IntN.{ℤ_set}
use Rattle.std.proofs.Math.Logic.{∥∥₁_elim}
use Rattle.std.proofs.Math.Nat.{ℕ_set}
use Rattle.std.proofs.lemmas.Int.{ints}
use Rattle.std.proofs.Props.{props}
use Rattle.std.proofs.lemmas.List.{map-id}
use Rattle.std.proofs.lemmas.List.FromFn.{map-range_with_len_more}
use Rattle.std.proofs.lemmas.List.Sums.{sum_by-cons}
use Rattle.std.proofs.lemmas.Option.{get_or_from_slice_get}
use Rattle.std.proofs.lemmas.Slice.Zip.{all_zipped_more}
use Rattle.p3_base.specs.declared.refusal.Direction.{Direction}
use Rattle.p3_base.specs.declared.refusal.Direction.TheVariants.{Minimize, Maximize}
use Rattle.p3_task.specs.Costs.{initial_cost}
use Rattle.p3_task.specs.Metrics as metrics
use Rattle.p3_task.specs.Metrics.{cost, signed, value}
use Rattle.p3_task.specs.Names.{Name}
use Rattle.p3_task.specs.Plans.{Plan}
use Rattle.p3_task.specs.PreferenceNames.{ordered_names}
use Rattle.p3_task.specs.declared.task.Task.{Task}
use Rattle.p3_numbers.specs.Slots.{name_at}
use Rattle.p3_numbers.specs.declared.numbers.Numbers.{Numbers}
use Rattle.p3_formula.specs.GroundPlans.{ground_cost, ground_violated}
use Rattle.p3_ground.specs.PlansByNumber.{AreNumbers}
use Rattle.p3_run.specs.Runs.{Ran, ground_metric, ground_total, signed_by}
use Rattle.p3_eval.specs.declared.grounded.Grounded.{Grounded}
use Rattle.p3_eval.proofs.RunKept.{told_count, told_total, told_value}
use Rattle.p3_accounts.specs.Shares.{AreShares, IsNameShare, growth}
use Rattle.p3_accounts.specs.declared.share.NameShare.{NameShare}
use Rattle.p3_accounts.specs.declared.share.Shares.{Shares}
use Rattle.p3_shares.specs.Adding.{AddsUp, names_add}
use Rattle.p3_shares.specs.Sharing.{AreFound, CanShare, IsShareAt, loss_by}
use Rattle.p3_shares.proofs.BoundLemmas.{by_parts}
use Rattle.p3_shares.proofs.RunLemmas.{can_run, is_run, together}

directions-set : IsSet Direction
directions-set = Prim.hlevel props

-- ---- one number more

range_more : (n : ℕ) → range_with_len 0 (n + 1) ≡ range_with_len 0 n ++ n ∷ []
range_more n = sym (map-id (range_with_len 0 (n + 1))) ∙ map-range_with_len_more (λ k. k) 0 n n (omega arith) ∙ ap (λ all. all ++ n ∷ []) (map-id (range_with_len 0 n))

pub next_share : (ran : Ran) (number : ℕ) (shares : List NameShare) (share : NameShare) → AllZip (IsShareAt ran) (range_with_len 0 number) shares → IsShareAt ran number share
    → AllZip (IsShareAt ran) (range_with_len 0 (number + 1)) (shares ++ share ∷ [])
next_share ran number shares share are is =
    subst (λ list. AllZip (IsShareAt ran) list (shares ++ share ∷ [])) (sym (range_more number))
    (all_zipped_more (IsShareAt ran) (range_with_len 0 number) shares number share are is)

-- ---- their sum

module _ (ran : Ran) where
  abbrev adds : ℕ → ℕ
  adds number = slice_index_or ran.weights.by_name number 0 * ground_violated ran.task ran.plan number

  pub names_sum : (numbers : List ℕ) (shares : List NameShare) → AllZip (IsShareAt ran) numbers shares → names_add shares ≡ sum_by adds numbers
  names_sum [] [] are = refl
  names_sum [] (share ∷ shares) are = absurd are
  names_sum (number ∷ numbers) [] are = absurd are
  names_sum (number ∷ numbers) (share ∷ shares) (is, are) =
      sum_by-cons (λ (one : NameShare). one.weight * one.count) share shares
      ∙ (λ i. is.added i * is.count i + names_sum numbers shares are i)
      ∙ sym (sum_by-cons adds number numbers)

-- ---- what is found

module _ (grounded : Grounded) (ran : Ran) (can : CanShare grounded ran) (shares : Shares) (found : AreFound grounded.checked.now.task ran shares) where
  signed_back : (way : Direction) (amount : ℤ) → signed way (signed_by way amount) ≡ amount
  signed_back Minimize amount = refl
  signed_back Maximize amount = omega (arith, ints)

  way_is : ran.weights.direction ≡ metrics.direction grounded.checked.now.task
  way_is = ∥∥₁_elim (together grounded ran can).weights (directions-set _ _) (λ weights. weights.direction)

  -- they add up
  pub found_add_up : AddsUp grounded.checked.now.task shares
  unfolding ground_metric
  found_add_up =
      let parts = by_parts ran.task ran.weights (can_run grounded ran can) can.small ran.plan can.few in
      let names = names_sum ran (range_with_len 0 (length ran.weights.by_name)) shares.names found.names in
      record {
        sum = found.its_loss.units
            ∙ ap (λ n. ran.weights.base +ℤ pos n) parts
            ∙ sym (λ i. found.its_base.units i +ℤ pos (found.its_cost.added i * found.its_cost.grown i + names i));
        value = found.its_loss.units ∙ sym (signed_back ran.weights.direction (loss_by ran)) ∙ (λ i. signed (way_is i) (sym found.its_value.units i));
      }

  -- and are those of each plan of these steps
  module _ (plan : Plan) (numbers : AreNumbers grounded.checked.now.task plan ran.plan) where
    abbrev T : Task
    T = grounded.checked.now.task

    abbrev N : Numbers
    N = grounded.checked.now.numbered.numbers

    name_is : (number : ℕ) (word : Name) → slice_get (ordered_names T) number ≡ Some word → name_at N.preferences number ≡ word
    name_is number word at = ap (λ names. name_at names number) grounded.checked.now.names.preferences ∙ get_or_from_slice_get (ordered_names T) number word [] at

    share_is : (number : ℕ) (word : Name) → slice_get (ordered_names T) number ≡ Some word → (share : NameShare) → IsShareAt ran number share → IsNameShare N T plan word share
    share_is number word at share is = record {
      name = ap (name_at N.preferences) is.name ∙ name_is number word at;
      added = ap pos is.added ∙ ∥∥₁_elim (together grounded ran can).weights (ℤ_set _ _) (λ weights. weights.by_name number word at);
      count = is.count ∙ told_count ran (is_run grounded ran can) number (ground_violated ran.task ran.plan number) refl T (together grounded ran can) plan numbers word at;
    }

    names_from : (from : ℕ) (words : List Name) (shares : List NameShare) → ((k : ℕ) (word : Name) → slice_get words k ≡ Some word → slice_get (ordered_names T) (from + k) ≡ Some word)
        → AllZip (IsShareAt ran) (range_with_len from (length words)) shares → AllZip (IsNameShare N T plan) words shares
    names_from from [] [] own are = tt
    names_from from [] (share ∷ shares) own are = absurd are
    names_from from (word ∷ words) [] own are = absurd are
    names_from from (word ∷ words) (share ∷ shares) own (is, are) =
        let here : from + 0 ≡ from = omega arith in (
          share_is from word (subst (λ n. slice_get (ordered_names T) n ≡ Some word) here (own 0 word refl)) share is,
          names_from (from + 1) words shares
              (λ k other at. let next : from + suc k ≡ from + 1 + k = omega arith in subst (λ n. slice_get (ordered_names T) n ≡ Some other) next (own (suc k) other at)) are,
        )

    names_are : AllZip (IsNameShare N T plan) (ordered_names T) shares.names
    names_are =
        names_from 0 (ordered_names T) shares.names (λ k word at. let same : k ≡ 0 + k = omega arith in subst (λ n. slice_get (ordered_names T) n ≡ Some word) same at)
        (subst (λ n. AllZip (IsShareAt ran) (range_with_len 0 n) shares.names) (∥∥₁_elim (together grounded ran can).weights (ℕ_set _ _) (λ weights. weights.count)) found.names)

    grown_is : ground_cost ran.task ran.plan ≡ growth T plan
    unfolding ground_total
    grown_is =
        let all : pos (ground_total ran.task ran.plan) ≡ pos (cost T plan) =
        told_total ran (is_run grounded ran can) (pos (ground_total ran.task ran.plan)) refl T (together grounded ran can) plan numbers in
        let start : ran.task.initial_cost ≡ initial_cost T = ∥∥₁_elim (together grounded ran can).stands (ℕ_set _ _) (λ stands. stands.stands.initial_cost) in
        omega (arith, ints, all, start)

    value_is : ground_metric ran.task ran.weights ran.plan ≡ value T plan
    value_is = told_value ran (is_run grounded ran can) (ground_metric ran.task ran.weights ran.plan) refl T (together grounded ran can) plan numbers

    loss_is : loss_by ran ≡ metrics.loss T plan
    unfolding metrics.loss value ground_metric
    loss_is = sym (signed_back ran.weights.direction (loss_by ran)) ∙ (λ i. signed (way_is i) (value_is i))

    pub found_are : AreShares N T plan shares
    found_are = record {
      places = found.places;
      places_of_costs = found.places_of_costs;
      its_base = record { places = found.its_base.places; units = found.its_base.units ∙ ∥∥₁_elim (together grounded ran can).weights (ℤ_set _ _) (λ weights. weights.base) };
      names = names_are;
      added = ap pos found.its_cost.added ∙ ∥∥₁_elim (together grounded ran can).weights (ℤ_set _ _) (λ weights. weights.total_cost);
      grown = found.its_cost.grown ∙ grown_is;
      its_loss = record { places = found.its_loss.places; units = found.its_loss.units ∙ loss_is };
      its_value = record { places = found.its_value.places; units = found.its_value.units ∙ value_is };
    }
