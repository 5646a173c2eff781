-- More monitors behind those of other constraints.
use Rattle.std.proofs.Common.{◌≡◌, ◌∙◌, ◌<◌, ◌≤◌, ◌+◌, ℕ, nat_lt, List, [], ◌∷◌, ◌++◌, length, take, get_or, refl, sym, ap, subst, arith, append_assoc}
use Rattle.std.specs.Prelude.{codes, sum_by}
use Rattle.std.proofs.lemmas.Bool.Decides.{nat_tests}
use Rattle.std.proofs.lemmas.List.{append-nil, take_more, flat_map_more}
use Rattle.std.proofs.lemmas.List.Elements.{All-contains}
use Rattle.std.proofs.lemmas.List.Sums.{sum_by-cons, sum_by-append}
use Rattle.p3_base.specs.Words.{Name}
use Rattle.p3_formula.specs.Forms.{State}
use Rattle.p3_formula.specs.Kept.{atom_count}
use Rattle.p3_formula.specs.Modals.{IsModalBelow}
use Rattle.p3_base.specs.Operators.{formulas_of}
use Rattle.p3_formula.specs.GroundModal.{GroundModal}
use Rattle.p3_formula.specs.declared.modal.GroundSoft.{GroundSoft}
use Rattle.p3_formula.proofs.ReadAtoms.{all_have_more_of}
use Rattle.p3_monitors.specs.declared.monitoring.Monitor.{Monitor}
use Rattle.p3_compile.specs.Monitored.{AreModalsBelow, AreSoftBelow, HasMonitor, HasMonitors, monitor_atoms, named_more, soft_modals}
use Rattle.p3_simulation.specs.Monitoring.{AreMonitors}
use Rattle.p3_compile.proofs.NumberedNames.{length-named, named-join}

-- what is below a count is below a greater one
pub below_greater : (count greater : ℕ) (modal : GroundModal) → count ≤ greater → IsModalBelow count modal → IsModalBelow greater modal
below_greater count greater modal le below = all_have_more_of (λ atom. nat_lt atom count) (λ atom. nat_lt atom greater) (λ atom low. grind (arith, nat_tests)) (formulas_of modal) below

pub monitors-append : (start : State) (from to end : ℕ) (first second : List GroundModal) (made more : List Monitor) → AreMonitors start from to first made → AreMonitors start to end second more → AreMonitors start from end (first ++ second) (made ++ more)
monitors-append start from to end [] second [] more are later = subst (λ n. AreMonitors start n end second more) (sym are) later
monitors-append start from to end [] second (one ∷ made) more are later = absurd are
monitors-append start from to end (modal ∷ first) second [] more are later = absurd are
monitors-append start from to end (modal ∷ first) second (one ∷ made) more are later = (are.0, monitors-append start (from + atom_count modal) to end first second made more are.1 later)

module _ (start : State) (old mid new : List Name) (before between after : List Monitor) (behind : length start ≤ length old) where
  -- the monitors of some constraints, and then those of others
  pub joined : (first second : List GroundModal) → HasMonitors start first old mid before between → HasMonitors start second mid new between after → HasMonitors start (first ++ second) old new before after
  joined first second has more =
      let atoms : length old + monitor_atoms first + monitor_atoms second ≡ length old + monitor_atoms (first ++ second) = ap (λ n. n) (omega arith) ∙ ap (λ n. length old + n) (sym (sum_by-append atom_count first second)) in
      let counted = ap length has.names ∙ length-named (codes "m") old (length start) (monitor_atoms first) in
      record {
        monitors = has.monitors ++ more.monitors;
        are = more.are ∙ ap (λ all. all ++ more.monitors) has.are ∙ append_assoc before has.monitors more.monitors;
        made = subst (λ end. AreMonitors start (length old) end (first ++ second) (has.monitors ++ more.monitors)) atoms
            (monitors-append start (length old) (length old + monitor_atoms first) (length old + monitor_atoms first + monitor_atoms second) first second has.monitors more.monitors has.made
            (subst (λ n. AreMonitors start n (n + monitor_atoms second) second more.monitors) counted more.made));
        names = more.names ∙ ap (λ names. named_more (codes "m") (length start) names (monitor_atoms second)) has.names
            ∙ named-join (codes "m") old (length start) (monitor_atoms first) (monitor_atoms second) behind
            ∙ ap (named_more (codes "m") (length start) old) (sym (sum_by-append atom_count first second));
      }

one_more : (start : State) (modal : GroundModal) (old new : List Name) (before : List Monitor) (monitor : Monitor) → HasMonitor start modal old new monitor → HasMonitors start (modal ∷ []) old new before (before ++ monitor ∷ [])
one_more start modal old new before monitor has =
    let count = single (atom_count modal) ∙ sym (sum_by-cons atom_count modal []) in
    record {
      monitors = monitor ∷ [];
      are = refl;
      made = (has.is, ap (λ n. length old + n) count);
      names = has.names ∙ ap (named_more (codes "m") (length start) old) count;
    }
  where
    single : (n : ℕ) → n ≡ n + sum_by atom_count []
    single n = omega arith

module _ (start : State) (old mid new : List Name) (before between : List Monitor) (behind : length start ≤ length old) where
  -- the constraints passed, and one more
  pub monitors_next : (modals : List GroundModal) (index : ℕ) (modal : GroundModal) (monitor : Monitor) → index < length modals → modal ≡ get_or modals index modal
      → HasMonitors start (take index modals) old mid before between → HasMonitor start modal mid new monitor → HasMonitors start (take (index + 1) modals) old new before (between ++ monitor ∷ [])
  monitors_next modals index modal monitor within at has is =
      subst (λ list. HasMonitors start list old new before (between ++ monitor ∷ [])) (sym (take_more modals index modal within ∙ ap (λ one. take index modals ++ one ∷ []) (sym at)))
      (joined start old mid new before between (between ++ monitor ∷ []) behind (take index modals) (modal ∷ []) has (one_more start modal mid new between monitor is))

  -- so for the parts of a soft one more
  pub soft_next : (softs : List GroundSoft) (index : ℕ) (soft : GroundSoft) (after : List Monitor) → index < length softs → soft ≡ get_or softs index soft
      → HasMonitors start (soft_modals (take index softs)) old mid before between → HasMonitors start soft.parts mid new between after
      → HasMonitors start (soft_modals (take (index + 1) softs)) old new before after
  soft_next softs index soft after within at has more =
      subst (λ list. HasMonitors start list old new before after)
      (flat_map_more (λ (one : GroundSoft). one.parts) [] (take index softs) soft ∙ ap soft_modals (sym (take_more softs index soft within ∙ ap (λ one. take index softs ++ one ∷ []) (sym at))))
      (joined start old mid new before between after behind (soft_modals (take index softs)) soft.parts has more)

pub modal_below : (count : ℕ) (modals : List GroundModal) (index : ℕ) (modal : GroundModal) → AreModalsBelow count modals → index < length modals → modal ≡ get_or modals index modal → IsModalBelow count modal
modal_below count modals index modal below within at = All-contains (IsModalBelow count) modals modal below (index, within, sym at)

pub parts_below : (count : ℕ) (softs : List GroundSoft) (index : ℕ) (soft : GroundSoft) → AreSoftBelow count softs → index < length softs → soft ≡ get_or softs index soft → AreModalsBelow count soft.parts
parts_below count softs index soft below within at = All-contains (λ (one : GroundSoft). AreModalsBelow count one.parts) softs soft below (index, within, sym at)

-- no constraint has no monitor
pub none_yet : (start : State) (names : List Name) (monitors : List Monitor) → HasMonitors start [] names names monitors monitors
none_yet start names monitors = record {
  monitors = [];
  are = sym (append-nil monitors);
  made = nothing (length names);
  names = sym (append-nil names);
}
  where
    nothing : (n : ℕ) → n ≡ n + monitor_atoms []
    nothing n = omega arith
