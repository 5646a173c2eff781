-- One instance after another takes its monitors.
use Rattle.std.proofs.Common.{◌≡◌, ◌∙◌, ℕ, ◌+◌, ◌<◌, ◌≤◌, List, [], ◌∷◌, ◌++◌, length, take, drop, get_or, refl, sym, ap, arith, add-one, drop-cons, append_assoc, length-append}
use Rattle.std.proofs.lemmas.List.{length-map}
use Rattle.p3_formula.specs.Weighted.{named_weight}
use Rattle.p3_formula.specs.declared.form.Form.{Form}
use Rattle.p3_formula.specs.GroundModal.{GroundModal}
use Rattle.p3_formula.specs.declared.modal.GroundSoft.{GroundSoft}
use Rattle.p3_endphase.specs.declared.phase.SoftEnd.{SoftEnd}
use Rattle.p3_monitors.specs.declared.monitoring.Monitor.{Monitor}
use Rattle.p3_simulation.specs.Monitoring.{modals}
use Rattle.p3_compile.specs.Ending.{accepting, soft_ends}
use Rattle.p3_compile.specs.Monitored.{soft_modals}

-- the first monitors are those of the first constraints
pub modals-take : (monitors : List Monitor) (parts more : List GroundModal) → modals monitors ≡ parts ++ more → modals (take (length parts) monitors) ≡ parts
modals-take monitors [] more are = refl
modals-take [] (part ∷ parts) more are = absurd (cc)
modals-take (monitor ∷ monitors) (part ∷ parts) more are =
    let first : monitor.modal ≡ part = cc in
    let rest : modals monitors ≡ parts ++ more = cc in
    λ i. first i ∷ modals-take monitors parts more rest i

pub modals-drop : (monitors : List Monitor) (parts more : List GroundModal) → modals monitors ≡ parts ++ more → modals (drop (length parts) monitors) ≡ more
modals-drop monitors [] more are = are
modals-drop [] (part ∷ parts) more are = absurd (cc)
modals-drop (monitor ∷ monitors) (part ∷ parts) more are = let rest : modals monitors ≡ parts ++ more = cc in modals-drop monitors parts more rest

module _ (softs : List GroundSoft) (index : ℕ) (soft : GroundSoft) (within : index < length softs) (at : soft ≡ get_or softs index soft) where
  one_left : drop index softs ≡ soft ∷ drop (index + 1) softs
  one_left = drop-cons softs index soft within ∙ (λ i. sym at i ∷ drop (sym (add-one index) i) softs)

  module _ (rest : List Monitor) (left : modals rest ≡ soft_modals (drop index softs)) where
    left_is : modals rest ≡ soft.parts ++ soft_modals (drop (index + 1) softs)
    left_is = left ∙ ap soft_modals one_left

    pub enough : length soft.parts ≤ length rest
    enough =
        let all = sym (length-map rest (λ (monitor : Monitor). monitor.modal)) ∙ ap length left_is ∙ length-append soft.parts (soft_modals (drop (index + 1) softs)) in
        omega (arith, all)

    pub left_next : modals (drop (length soft.parts) rest) ≡ soft_modals (drop (index + 1) softs)
    left_next = modals-drop rest soft.parts (soft_modals (drop (index + 1) softs)) left_is

  pub ends_next : (by_name : List ℕ) (rest others : List Monitor) (ends : List SoftEnd) (accept : Form) (weight : ℕ) → others ≡ drop (length soft.parts) rest → accept ≡ accepting [] (take (length soft.parts) rest) → weight ≡ named_weight by_name soft.name
      → (ends ++ record { accept = accept; weight = weight } ∷ []) ++ soft_ends by_name (drop (index + 1) softs) others ≡ ends ++ soft_ends by_name (drop index softs) rest
  ends_next by_name rest others ends accept weight back accepts weighs =
      append_assoc ends (record { accept = accept; weight = weight } ∷ []) (soft_ends by_name (drop (index + 1) softs) others)
      ∙ (λ i. ends ++ record { accept = accepts i; weight = weighs i } ∷ soft_ends by_name (drop (index + 1) softs) (back i))
      ∙ ap (λ list. ends ++ soft_ends by_name list rest) (sym one_left)
