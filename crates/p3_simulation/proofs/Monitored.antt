-- Monitors that stand one behind another: those that a step touches ride on it with their changes, and the others with none; and all are kept at the beginning.
use Rattle.std.proofs.Common.{◌≡◌, ◌∙◌, ℕ, zero, suc, ◌+◌, ◌<◌, ◌≤◌, nat_le, nat_lt, Bool, true, false, not, ◌&&◌, List, [], ◌∷◌, ◌++◌, length, refl, sym, ap, subst, arith, append_assoc}
use Rattle.std.specs.Prelude.{flat_map, replicate}
use Rattle.std.specs.List.{list_all}
use Rattle.std.proofs.lemmas.Bool.{and_parts, and_from, ltb-true}
use Rattle.std.proofs.lemmas.Bool.Decides.{nat_tests}
use Rattle.std.proofs.lemmas.List.{length-append}
use Rattle.p3_formula.specs.Alike.{AgreeBelow}
use Rattle.p3_formula.specs.Forms.{State, is_set}
use Rattle.p3_formula.specs.Kept.{AreAt, Carries, Kept, atom_count, is_own}
use Rattle.p3_formula.specs.Modals.{is_modal_below}
use Rattle.p3_formula.specs.Targets.{is_sized_change}
use Rattle.p3_formula.specs.declared.form.Change.{Change}
use Rattle.p3_formula.specs.GroundModal.{GroundModal}
use Rattle.p3_formula.proofs.ReadAtoms.{read_below}
use Rattle.p3_monitors.specs.KeepsOn.{HasNone}
use Rattle.p3_monitors.specs.Riders.{AreKept, AreRiders}
use Rattle.p3_monitors.specs.declared.monitoring.Monitor.{Monitor}
use Rattle.p3_monitors.proofs.UntouchedLaws.{rides_untouched}
use Rattle.p3_simulation.specs.Parts.{AreBefore}
use Rattle.p3_simulation.specs.Monitoring.{IsMonitor, AreMonitors, AreUpdates, NoMore, Untouched, Touched}

abbrev pub all_bits : List Monitor → List Bool
all_bits monitors = flat_map (λ (monitor : Monitor). monitor.initial) monitors

-- ---- where the atoms stand

-- changes below a number are of no monitor that stands behind it
pub none_own : (sources : ℕ) (step : List Change) (monitor : Monitor) → list_all (is_sized_change sources) step ≡ true → sources ≤ monitor.base → HasNone (is_own monitor.base monitor.modal) step
none_own sources [] monitor below behind = refl
none_own sources (change ∷ step) monitor below behind =
    let parts = and_parts (is_sized_change sources change) _ below in
    let low = ltb-true change.atom sources (and_parts (nat_lt change.atom sources) _ parts.0).0 in
    and_from (not (is_own monitor.base monitor.modal change.atom)) _ (apart monitor.base change.atom (nat_lt change.atom (monitor.base + atom_count monitor.modal)) (omega (arith, low, behind)))
    (none_own sources step monitor parts.1 behind)
  where
    apart : (base atom : ℕ) (b : Bool) → atom < base → not (nat_le base atom && b) ≡ true
    apart base atom b low = let e : nat_le base atom ≡ false = grind (arith, nat_tests) in λ i. not (e i && b)

module _ (initial : State) where
  -- the numbers rise
  pub monitors_rise : (from to : ℕ) (modals : List GroundModal) (monitors : List Monitor) → AreMonitors initial from to modals monitors → from ≤ to
  monitors_rise from to [] [] are = omega (arith, are)
  monitors_rise from to [] (monitor ∷ monitors) are = absurd are
  monitors_rise from to (modal ∷ modals) [] are = absurd are
  monitors_rise from to (modal ∷ modals) (monitor ∷ monitors) are = let more = monitors_rise (from + atom_count modal) to modals monitors are.1 in omega (arith, more)

  -- as many initial bits as atoms
  pub bit_count : (from to : ℕ) (modals : List GroundModal) (monitors : List Monitor) → AreMonitors initial from to modals monitors → from + length (all_bits monitors) ≡ to
  bit_count from to [] [] are = omega (arith, are)
  bit_count from to [] (monitor ∷ monitors) are = absurd are
  bit_count from to (modal ∷ modals) [] are = absurd are
  bit_count from to (modal ∷ modals) (monitor ∷ monitors) are =
      let more = bit_count (from + atom_count modal) to modals monitors are.1 in
      let here = are.0.entries in
      let both = length-append monitor.initial (all_bits monitors) in
      omega (arith, more, here, both)

  counts : (from : ℕ) (modal : GroundModal) (monitor : Monitor) → IsMonitor initial from modal monitor → monitor.base + atom_count monitor.modal ≡ from + atom_count modal
  counts from modal monitor is = λ i. is.base i + atom_count (is.watches i)

  module _ (sources : ℕ) where
    abbrev Below : List GroundModal → Type 0
    Below modals = list_all (is_modal_below sources) modals ≡ true

    monitor_below : (from : ℕ) (modal : GroundModal) (monitor : Monitor) → IsMonitor initial from modal monitor → is_modal_below sources modal ≡ true → is_modal_below sources monitor.modal ≡ true
    monitor_below from modal monitor is below = ap (is_modal_below sources) is.watches ∙ below

    pub are_before : (from to : ℕ) (modals : List GroundModal) (monitors : List Monitor) → AreMonitors initial from to modals monitors → Below modals → AreBefore sources to monitors
    are_before from to [] [] are below = tt
    are_before from to [] (monitor ∷ monitors) are below = absurd are
    are_before from to (modal ∷ modals) [] are below = absurd are
    are_before from to (modal ∷ modals) (monitor ∷ monitors) are below =
        let parts = and_parts (is_modal_below sources modal) _ below in
        let behind = monitors_rise (from + atom_count modal) to modals monitors are.1 in
        let end = counts from modal monitor are.0 in
        (monitor_below from modal monitor are.0 parts.0, omega (arith, behind, end), are_before (from + atom_count modal) to modals monitors are.1 parts.1)

    -- ---- the changes of a step

    pub record Spread (from : ℕ) (step : List Change) (monitors : List Monitor) (updates : List Change) : Type 0 where
      pub changes : List (List Change)
      pub riders : AreRiders sources from step monitors changes
      pub same : flat_map (λ effects. effects) changes ≡ updates

    module _ (step : List Change) (step_below : list_all (is_sized_change sources) step ≡ true) where
      pub spread : (low from to : ℕ) (modals : List GroundModal) (monitors : List Monitor) (updates : List Change) → AreUpdates step monitors updates → AreMonitors initial from to modals monitors → Below modals
          → sources ≤ low → low ≡ from → Spread low step monitors updates
      spread low from to [] [] updates NoMore are below behind here = record { changes = []; riders = tt; same = refl }
      spread low from to (modal ∷ modals) [] updates NoMore are below behind here = absurd are
      spread low from to [] (monitor ∷ monitors) updates updated are below behind here = absurd are
      spread low from to (modal ∷ modals) (monitor ∷ monitors) updates (Untouched _ _ _ untouched more) are below behind here =
          let parts = and_parts (is_modal_below sources modal) _ below in
          let base = are.0.base in
          let rest = spread (monitor.base + atom_count monitor.modal) (from + atom_count modal) to modals monitors updates more are.1 parts.1 (omega (arith, base, behind, here)) (counts from modal monitor are.0) in
          record {
            changes = [] ∷ rest.changes;
            riders = (rides_untouched sources low step monitor (monitor_below from modal monitor are.0 parts.0) (omega (arith, base, here)) untouched (none_own sources step monitor step_below (omega (arith, base, behind, here))), rest.riders);
            same = rest.same;
          }
      spread low from to (modal ∷ modals) (monitor ∷ monitors) updates (Touched _ _ own others are_own keeps more) are below behind here =
          let parts = and_parts (is_modal_below sources modal) _ below in
          let base = are.0.base in
          let rest = spread (monitor.base + atom_count monitor.modal) (from + atom_count modal) to modals monitors others more are.1 parts.1 (omega (arith, base, behind, here)) (counts from modal monitor are.0) in
          record {
            changes = own ∷ rest.changes;
            riders = (record { below = monitor_below from modal monitor are.0 parts.0; behind = omega (arith, base, here); own = are_own; keeps = keeps }, rest.riders);
            same = ap (λ list. own ++ list) rest.same;
          }

-- ---- the beginning

pub set_next : (front : State) (bit : Bool) (back : State) → is_set (front ++ bit ∷ back) (length front) ≡ bit
set_next [] bit back = refl
set_next (first ∷ front) bit back = set_next front bit back

-- bits stand in a list where they were put
pub stand_behind : (bits front back : State) (base : ℕ) → length front ≡ base → AreAt base bits (front ++ (bits ++ back))
stand_behind [] front back base here = tt
stand_behind (bit ∷ bits) front back base here = (
  ap (is_set (front ++ bit ∷ (bits ++ back))) (sym here) ∙ set_next front bit (bits ++ back),
  subst (AreAt (base + 1) bits) (append_assoc front (bit ∷ []) (bits ++ back)) (stand_behind bits (front ++ bit ∷ []) back (base + 1) (length-append front (bit ∷ []) ∙ ap (λ n. n + 1) here)),
)

module _ (initial whole back : State) (agrees : AgreeBelow (length initial) whole initial) where
  -- so the monitors are kept at the initial state
  pub kept_first : (from to : ℕ) (modals : List GroundModal) (monitors : List Monitor) (front : State) → AreMonitors initial from to modals monitors → list_all (is_modal_below (length initial)) modals ≡ true
      → length front ≡ from → whole ≡ front ++ (all_bits monitors ++ back) → AreKept monitors (initial ∷ []) whole
  kept_first from to [] [] front are below here same = tt
  kept_first from to [] (monitor ∷ monitors) front are below here same = absurd are
  kept_first from to (modal ∷ modals) [] front are below here same = absurd are
  kept_first from to (modal ∷ modals) (monitor ∷ monitors) front are below here same = (kept, kept_first (from + atom_count modal) to modals monitors (front ++ monitor.initial) are.1 parts.1 further nested)
    where
      parts : (is_modal_below (length initial) modal ≡ true) × (list_all (is_modal_below (length initial)) modals ≡ true)
      parts = and_parts (is_modal_below (length initial) modal) _ below

      further : length (front ++ monitor.initial) ≡ from + atom_count modal
      further = length-append front monitor.initial ∙ (λ i. here i + are.0.entries i)

      joined : whole ≡ front ++ (monitor.initial ++ (all_bits monitors ++ back))
      joined = same ∙ ap (λ list. front ++ list) (append_assoc monitor.initial (all_bits monitors) back)

      nested : whole ≡ (front ++ monitor.initial) ++ (all_bits monitors ++ back)
      nested = joined ∙ sym (append_assoc front monitor.initial (all_bits monitors ++ back))

      carries : Carries from monitor.initial modal initial whole
      carries = record {
        agrees = λ atom read. agrees atom (read_below (length initial) modal parts.0 atom read);
        room = let l = ap length nested ∙ length-append (front ++ monitor.initial) (all_bits monitors ++ back) in let e = are.0.entries in omega (arith, l, further, e);
        stand = subst (AreAt from monitor.initial) (sym joined) (stand_behind monitor.initial front (all_bits monitors ++ back) from here);
      }

      kept : Kept monitor.base monitor.modal (initial ∷ []) whole
      kept = subst (λ base. Kept base monitor.modal (initial ∷ []) whole) (sym are.0.base) (subst (λ modal. Kept from modal (initial ∷ []) whole) (sym are.0.watches) (are.0.starts whole carries))

idle_bits : (count atom : ℕ) → is_set (replicate count false) atom ≡ false
idle_bits zero atom = refl
idle_bits (suc count) zero = refl
idle_bits (suc count) (suc atom) = idle_bits count atom

-- behind the running atom nothing is set
pub clear_behind : (front : State) (idle atom : ℕ) → length front < atom → is_set (front ++ true ∷ replicate idle false) atom ≡ false
clear_behind front idle zero high = absurd (omega (arith, high))
clear_behind [] idle (suc atom) high = idle_bits idle atom
clear_behind (bit ∷ front) idle (suc atom) high = clear_behind front idle atom (omega (arith, high))
