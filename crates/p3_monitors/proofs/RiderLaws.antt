-- Several monitors ride on one step.
use Rattle.std.proofs.Common.{◌≡◌, ◌∙◌, ℕ, ◌+◌, ◌≤◌, nat_le, nat_lt, Bool, true, false, not, ◌&&◌, List, [], ◌∷◌, ◌++◌, refl, sym, ap, subst, append_assoc, arith}
use Rattle.std.specs.Prelude.{flat_map}
use Rattle.std.specs.List.{list_all}
use Rattle.std.specs.List.Sorted.{IsPermutation}
use Rattle.std.proofs.lemmas.Bool.{and_parts, and_from, and_right, lt-ltb}
use Rattle.std.proofs.lemmas.Bool.Decides.{nat_tests}
use Rattle.std.proofs.lemmas.List.Folds.{list_all-append}
use Rattle.std.proofs.lemmas.List.Sorted.{IsPermutation-append_comm, IsPermutation-append_left, IsPermutation-append_right}
use Rattle.p3_formula.specs.Forms.{State, is_set}
use Rattle.p3_formula.specs.Next.{after}
use Rattle.p3_formula.specs.declared.form.Change.{Change}
use Rattle.p3_formula.specs.GroundModal.{GroundModal}
use Rattle.p3_formula.proofs.NextLaws.{after-permutation}
use Rattle.p3_formula.specs.Kept.{is_own, atom_count, Kept}
use Rattle.p3_formula.specs.Modals.{is_read, IsModalBelow}
use Rattle.p3_monitors.specs.KeepsOn.{HasNone, AreOwn, AreOthers}
use Rattle.p3_monitors.specs.Riders.{AreRiders, AreKept, AreBeside, RideTogether}
use Rattle.p3_formula.specs.Alike.{AgreeBelow}
use Rattle.p3_monitors.specs.declared.monitoring.Monitor.{Monitor}
use Rattle.p3_formula.proofs.ReadAtoms.{read_below}
use Rattle.p3_monitors.proofs.ChangeLaws.{none_named, unnamed_stays}

-- the changes are of atoms from a number on and before another
abbrev AreWithin : ℕ → ℕ → List Change → Type 0
AreWithin low high effects = list_all (λ change. nat_le low change.atom && nat_lt change.atom high) effects ≡ true

abbrev AreFrom : ℕ → List Change → Type 0
AreFrom low effects = list_all (λ change. nat_le low change.atom) effects ≡ true

-- what each change passes, it passes of another test
all_pass : (test other : Change → Bool) → ((change : Change) → test change ≡ true → other change ≡ true) → (effects : List Change) → list_all test effects ≡ true → list_all other effects ≡ true
all_pass test other passes [] all = refl
all_pass test other passes (change ∷ effects) all = let parts = and_parts (test change) _ all in and_from (other change) _ (passes change parts.0) (all_pass test other passes effects parts.1)

both_pass : (test : Change → Bool) (first second : List Change) → list_all test first ≡ true → list_all test second ≡ true → list_all test (first ++ second) ≡ true
both_pass test first second h k = list_all-append test first second ∙ and_from (list_all test first) _ h k

abbrev flat : List (List Change) → List Change
flat changes = flat_map (λ effects. effects) changes

-- the changes of riders are of atoms from the first one's base on
riders_from : (sources from : ℕ) (step : List Change) (monitors : List Monitor) (changes : List (List Change)) → AreRiders sources from step monitors changes → AreFrom from (flat changes)
riders_from sources from step [] [] are = refl
riders_from sources from step [] (effects ∷ changes) are = absurd are
riders_from sources from step (monitor ∷ monitors) [] are = absurd are
riders_from sources from step (monitor ∷ monitors) (effects ∷ changes) (one, are) =
    let behind = one.behind in
    both_pass (λ change. nat_le from change.atom) effects (flat changes)
    (all_pass _ (λ change. nat_le from change.atom) (λ change own. let low = (and_parts (nat_le monitor.base change.atom) _ own).0 in grind (arith, nat_tests)) effects one.own)
    (all_pass _ (λ change. nat_le from change.atom) (λ change high. grind (arith, nat_tests)) (flat changes) (riders_from sources (monitor.base + atom_count monitor.modal) step monitors changes are))

-- an atom below a count is not read past it
read_no : (sources : ℕ) (modal : GroundModal) → IsModalBelow sources modal → (atom : ℕ) → sources ≤ atom → not (is_read modal atom) ≡ true
read_no sources modal below atom past = by (is_read modal atom) refl where
  by : (b : Bool) → is_read modal atom ≡ b → not b ≡ true
  by false unread = refl
  by true read = let lt = read_below sources modal below atom read in absurd (omega arith)

-- the changes before and behind a rider are no matter of its monitor
module _ (sources from : ℕ) (step : List Change) (modal : GroundModal) (base : ℕ) (below : IsModalBelow sources modal) (all_sources : sources ≤ from) (behind : from ≤ base) where
  others_before : (front : List Change) → AreWithin sources from front → AreOthers base modal front
  others_before front within = record {
    own = all_pass _ (λ change. not (is_own base modal change.atom)) (λ change both. let high = (and_parts (nat_le sources change.atom) _ both).1 in outside change.atom high) front within;
    read = all_pass _ (λ change. not (is_read modal change.atom)) (λ change both. let low = (and_parts (nat_le sources change.atom) _ both).0 in read_no sources modal below change.atom (past change.atom low)) front within;
  } where
    past : (atom : ℕ) → nat_le sources atom ≡ true → sources ≤ atom
    past atom low = grind (arith, nat_tests)

    outside : (atom : ℕ) → nat_lt atom from ≡ true → not (is_own base modal atom) ≡ true
    outside atom high = let low : nat_le base atom ≡ false = grind (arith, nat_tests) in ap (λ b. not (b && nat_lt atom (base + atom_count modal))) low

  others_behind : (rest : List Change) → AreFrom (base + atom_count modal) rest → AreOthers base modal rest
  others_behind rest high = record {
    own = all_pass _ (λ change. not (is_own base modal change.atom)) (λ change low. outside change.atom low) rest high;
    read = all_pass _ (λ change. not (is_read modal change.atom)) (λ change low. read_no sources modal below change.atom (past change.atom low)) rest high;
  } where
    past : (atom : ℕ) → nat_le (base + atom_count modal) atom ≡ true → sources ≤ atom
    past atom low = grind (arith, nat_tests)

    outside : (atom : ℕ) → nat_le (base + atom_count modal) atom ≡ true → not (is_own base modal atom) ≡ true
    outside atom low = let high : nat_lt atom (base + atom_count modal) ≡ false = grind (arith, nat_tests) in ap not (and_right (nat_le base atom) _ high)

  others_beside : (others : List Change) → HasNone (λ atom. nat_lt atom sources) others → HasNone (is_own base modal) others → AreOthers base modal others
  others_beside others high own = record {
    own = own;
    read = all_pass _ (λ change. not (is_read modal change.atom)) (λ change up. read_no sources modal below change.atom (past change.atom up)) others high;
  } where
    past : (atom : ℕ) → not (nat_lt atom sources) ≡ true → sources ≤ atom
    past atom up = grind (arith, nat_tests)

  both_others : (front rest : List Change) → AreOthers base modal front → AreOthers base modal rest → AreOthers base modal (front ++ rest)
  both_others front rest first second = record {
    own = both_pass (λ change. not (is_own base modal change.atom)) front rest first.own second.own;
    read = both_pass (λ change. not (is_read modal change.atom)) front rest first.read second.read;
  }

-- a list between two others may come first
to_front : (step front effects rest : List Change) → IsPermutation (step ++ (effects ++ (front ++ rest))) (step ++ (front ++ (effects ++ rest)))
to_front step front effects rest =
    IsPermutation-append_right step _ _
    (subst (λ first. IsPermutation first (front ++ (effects ++ rest))) (append_assoc effects front rest)
    (subst (λ second. IsPermutation ((effects ++ front) ++ rest) second) (append_assoc front effects rest)
    (IsPermutation-append_left rest (effects ++ front) (front ++ effects) (IsPermutation-append_comm effects front))))

further : (sources from base count : ℕ) → sources ≤ from → from ≤ base → sources ≤ base + count
further sources from base count all_sources behind = omega arith

-- with a rider's changes, those before it reach up to its last atom
wider : (sources from : ℕ) (step : List Change) (base : ℕ) (modal : GroundModal) (front effects : List Change) → sources ≤ from → from ≤ base → AreWithin sources from front → AreOwn base modal effects
    → AreWithin sources (base + atom_count modal) (front ++ effects)
wider sources from step base modal front effects all_sources behind within own =
    both_pass (λ change. nat_le sources change.atom && nat_lt change.atom (base + atom_count modal)) front effects
    (all_pass _ _ (λ change both. let parts = and_parts (nat_le sources change.atom) _ both in and_from (nat_le sources change.atom) _ parts.0 (lower change.atom parts.1)) front within)
    (all_pass _ _ (λ change both. let parts = and_parts (nat_le base change.atom) _ both in and_from (nat_le sources change.atom) _ (higher change.atom parts.0) parts.1) effects own) where
      lower : (atom : ℕ) → nat_lt atom from ≡ true → nat_lt atom (base + atom_count modal) ≡ true
      lower atom lt = grind (arith, nat_tests)

      higher : (atom : ℕ) → nat_le base atom ≡ true → nat_le sources atom ≡ true
      higher atom le = grind (arith, nat_tests)

-- the same with changes of riders before
ride_behind : (sources from : ℕ) (step front others : List Change) (monitors : List Monitor) (changes : List (List Change)) (W : List State) (state next : State) → sources ≤ from → AreWithin sources from front
    → AreRiders sources from step monitors changes → HasNone (λ atom. nat_lt atom sources) others → AreBeside monitors others → AreKept monitors W state
    → AgreeBelow sources (after state (step ++ (front ++ (flat changes ++ others)))) next → AreKept monitors (W ++ next ∷ []) (after state (step ++ (front ++ (flat changes ++ others))))
ride_behind sources from step front others [] [] W state next all_sources within are high beside kept agree = tt
ride_behind sources from step front others [] (effects ∷ changes) W state next all_sources within are high beside kept agree = absurd are
ride_behind sources from step front others (monitor ∷ monitors) [] W state next all_sources within are high beside kept agree = absurd are
ride_behind sources from step front others (monitor ∷ monitors) (effects ∷ changes) W state next all_sources within (one, are) high (outside, beside) (first, kept) agree =
    let behind = flat changes in
    let apart = both_others sources from step monitor.modal monitor.base one.below all_sources one.behind front (behind ++ others)
    (others_before sources from step monitor.modal monitor.base one.below all_sources one.behind front within)
    (both_others sources from step monitor.modal monitor.base one.below all_sources one.behind behind others
    (others_behind sources from step monitor.modal monitor.base one.below all_sources one.behind behind (riders_from sources (monitor.base + atom_count monitor.modal) step monitors changes are))
    (others_beside sources from step monitor.modal monitor.base one.below all_sources one.behind others high outside)) in
    let parted = ap (λ more. after state (step ++ (front ++ more))) (append_assoc effects behind others) in
    let swap = after-permutation state _ _ (to_front step front effects (behind ++ others)) ∙ sym parted in
    let assoc = ap (λ more. after state (step ++ more)) (append_assoc front effects (behind ++ others)) ∙ sym parted in (
      subst (Kept monitor.base monitor.modal (W ++ next ∷ [])) swap
          (one.keeps W state next (front ++ (behind ++ others)) first apart (λ atom read. ap (λ s. is_set s atom) swap ∙ agree atom (read_below sources monitor.modal one.below atom read))),
      subst (AreKept monitors (W ++ next ∷ [])) assoc
          (ride_behind sources (monitor.base + atom_count monitor.modal) step (front ++ effects) others monitors changes W state next (further sources from monitor.base (atom_count monitor.modal) all_sources one.behind)
          (wider sources from step monitor.base monitor.modal front effects all_sources one.behind within one.own) are high beside kept (λ atom lt. ap (λ s. is_set s atom) assoc ∙ agree atom lt)),
    )

-- the changes of riders and of others are of no source atom
sources_stay : (sources from : ℕ) (step others : List Change) (monitors : List Monitor) (changes : List (List Change)) (state : State) → sources ≤ from → AreRiders sources from step monitors changes
    → HasNone (λ atom. nat_lt atom sources) others → AgreeBelow sources (after state (step ++ (flat changes ++ others))) (after state step)
sources_stay sources from step others monitors changes state all_sources are high atom lt =
    unnamed_stays step (flat changes ++ others) state atom
    (none_named (λ a. nat_lt a sources) atom (flat changes ++ others)
    (both_pass (λ change. not (nat_lt change.atom sources)) (flat changes) others (all_pass _ _ (λ change up. above change.atom up) (flat changes) (riders_from sources from step monitors changes are)) high)
    (lt-ltb atom sources lt)) where
      above : (a : ℕ) → nat_le from a ≡ true → not (nat_lt a sources) ≡ true
      above a up = let low : nat_lt a sources ≡ false = grind (arith, nat_tests) in ap not low

pub ride_together : RideTogether
ride_together sources from step others monitors changes W state next all_sources are high beside kept agree = record {
  kept = ride_behind sources from step [] others monitors changes W state next all_sources refl are high beside kept (λ atom lt. sources_stay sources from step others monitors changes state all_sources are high atom lt ∙ agree atom lt);
  sources_stay = sources_stay sources from step others monitors changes state all_sources are high;
}
