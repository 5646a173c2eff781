-- The guards of monitors, one monitor after another, and the precondition that they make.
use Rattle.std.proofs.Common.{◌≡◌, ◌∙◌, ℕ, ◌+◌, ◌<◌, ◌≤◌, nat_lt, true, false, ◌&&◌, List, [], ◌∷◌, ◌++◌, length, take, drop, get_or, refl, sym, ap, subst, arith}
use Rattle.std.specs.List.{list_all}
use Rattle.std.proofs.Math.Bool.{and-true}
use Rattle.std.proofs.lemmas.Bool.{and_from}
use Rattle.std.proofs.lemmas.List.{append-nil, take-append-drop, take-take, take_more}
use Rattle.std.proofs.lemmas.List.Folds.{list_all-append}
use Rattle.p3_formula.specs.Forms.{State, is_below, truth}
use Rattle.p3_formula.specs.Lasting.{stays_broken}
use Rattle.p3_formula.specs.Simplified.{spread}
use Rattle.p3_formula.specs.Targets.{is_sized_change}
use Rattle.p3_formula.specs.declared.form.Change.{Change}
use Rattle.p3_formula.specs.declared.form.Form.{Form}
use Rattle.p3_formula.specs.declared.form.Form.TheVariants.{True}
use Rattle.p3_formula.specs.declared.task.GroundStep.{GroundStep}
use Rattle.p3_formula.proofs.FormLemmas.{truth-And, has_atoms-And}
use Rattle.p3_formula.proofs.GuardLaws.{spread_atoms, spread_truth}
use Rattle.p3_monitors.specs.Guards.{HasGuard, IsGuard}
use Rattle.p3_monitors.specs.declared.monitoring.Monitor.{Monitor}
use Rattle.p3_simulation.specs.Parts.{AreBefore}
use Rattle.p3_simulation.specs.Monitoring.{AreGuards, NoGuards, Unguarded, Guarded, IsGuardedPre}
use Rattle.p3_compile.specs.Guarding.{HasGuards, HasOneGuard, IsGuardedBy, guarded_by}
use Rattle.p3_compile.proofs.UpdateLists.{before_back, before_front, parts_inside}

module _ (step : List Change) where
  -- ---- some monitors, and then others

  guards-append : (monitors others : List Monitor) (guards more : List Form) → AreGuards step monitors guards → AreGuards step others more → AreGuards step (monitors ++ others) (guards ++ more)
  guards-append [] others guards more NoGuards later = later
  guards-append (monitor ∷ monitors) others guards more (Unguarded _ _ _ are) later = Unguarded monitor (monitors ++ others) (guards ++ more) (guards-append monitors others guards more are later)
  guards-append (monitor ∷ monitors) others (guard ∷ guards) more (Guarded _ _ _ _ is free are) later = Guarded monitor (monitors ++ others) guard (guards ++ more) is free (guards-append monitors others guards more are later)

  joined : (monitors others : List Monitor) (guards more : List Form) → HasGuards step monitors guards → HasGuards step others more → HasGuards step (monitors ++ others) (guards ++ more)
  joined monitors others guards more has later = record {
    are = guards-append monitors others guards more has.are later.are;
    inside = λ sources bound wider before sized.
        list_all-append (is_below bound) guards more
        ∙ and_from (list_all (is_below bound) guards) _ (has.inside sources bound wider (before_front step sources bound monitors others before) sized) (later.inside sources bound wider (before_back step sources bound monitors others before) sized);
  }

  unguarded : (monitors : List Monitor) → AreGuards step monitors []
  unguarded [] = NoGuards
  unguarded (monitor ∷ monitors) = Unguarded monitor monitors [] (unguarded monitors)

  pub no_guards : (monitors : List Monitor) → HasGuards step monitors []
  no_guards monitors = record { are = unguarded monitors; inside = λ sources bound wider before sized. refl }

  -- ---- one monitor

  pub left_out : (monitor : Monitor) (guards : List Form) → HasOneGuard step monitor guards guards
  left_out monitor guards = record { own = []; has = no_guards (monitor ∷ []); are = sym (append-nil guards) }

  pub guarded : (monitor : Monitor) (old new : List Form) (guard : Form) → new ≡ old ++ guard ∷ [] → IsGuard monitor.base monitor.modal step guard → (stays_broken monitor.modal ≡ false → guard ≡ True) → HasGuard monitor.base monitor.modal step guard
      → HasOneGuard step monitor old new
  guarded monitor old new guard are is free atoms = record {
    own = guard ∷ [];
    has = record {
      are = Guarded monitor [] guard [] is free NoGuards;
      inside = λ sources bound wider before sized.
          let parts = parts_inside step monitor [] sources bound wider before sized in
          and_from (is_below bound guard) true (atoms (λ atom. nat_lt atom bound) parts.modal parts.own parts.conds) refl;
    };
    are = are;
  }

  -- ---- the guards as they are found

  module _ (monitors : List Monitor) where
    -- behind those before a place come those up to another, without guards
    passed_over : (guards : List Form) (next place : ℕ) → next ≤ place → HasGuards step (take next monitors) guards → HasGuards step (take place monitors) guards
    passed_over guards next place le has =
        subst (λ list. HasGuards step list guards) (ap (λ front. front ++ drop next (take place monitors)) (sym (take-take next place monitors le)) ∙ take-append-drop next (take place monitors))
        (subst (HasGuards step (take next monitors ++ drop next (take place monitors))) (append-nil guards)
        (joined (take next monitors) (drop next (take place monitors)) guards [] has (no_guards (drop next (take place monitors)))))

    pub one_more : (old new : List Form) (next place : ℕ) (monitor : Monitor) → next ≤ place → place < length monitors → monitor ≡ get_or monitors place monitor → HasGuards step (take next monitors) old → HasOneGuard step monitor old new
        → HasGuards step (take (place + 1) monitors) new
    one_more old new next place monitor le within at has one =
        let front : take place monitors ++ monitor ∷ [] ≡ take (place + 1) monitors = ap (λ last. take place monitors ++ last ∷ []) at ∙ sym (take_more monitors place monitor within) in
        subst (λ list. HasGuards step list new) front
        (subst (HasGuards step (take place monitors ++ monitor ∷ [])) (sym one.are)
        (joined (take place monitors) (monitor ∷ []) old one.own (passed_over old next place le has) one.has))

    pub all_passed : (guards : List Form) (next : ℕ) → HasGuards step (take next monitors) guards → HasGuards step monitors guards
    all_passed guards next has =
        subst (λ list. HasGuards step list guards) (take-append-drop next monitors)
        (subst (HasGuards step (take next monitors ++ drop next monitors)) (append-nil guards)
        (joined (take next monitors) (drop next monitors) guards [] has (no_guards (drop next monitors))))

-- ---- the precondition

guarded_truth : (state : State) (pre : Form) (guards : List Form) → truth state (guarded_by pre guards) ≡ (truth state pre && list_all (truth state) guards)
guarded_truth state pre [] = sym (and-true (truth state pre))
guarded_truth state pre (guard ∷ guards) =
    truth-And state (spread pre ++ guard ∷ guards)
    ∙ list_all-append (truth state) (spread pre) (guard ∷ guards) ∙ ap (λ b. b && list_all (truth state) (guard ∷ guards)) (spread_truth state pre)

guarded_below : (bound : ℕ) (pre : Form) (guards : List Form) → is_below bound pre ≡ true → list_all (is_below bound) guards ≡ true → is_below bound (guarded_by pre guards) ≡ true
guarded_below bound pre [] below all = below
guarded_below bound pre (guard ∷ guards) below all =
    has_atoms-And (λ atom. nat_lt atom bound) (spread pre ++ guard ∷ guards)
    ∙ list_all-append (is_below bound) (spread pre) (guard ∷ guards) ∙ and_from (list_all (is_below bound) (spread pre)) _ (spread_atoms (λ atom. nat_lt atom bound) pre ∙ below) all

pub is_guarded : (go : ℕ) (monitors : List Monitor) (step : GroundStep) → AreBefore go go monitors → is_below go step.pre ≡ true → list_all (is_sized_change go) step.effects ≡ true → (pre : Form) → IsGuardedBy step.effects monitors step.pre pre
    → IsGuardedPre go monitors step pre
is_guarded go monitors step before below sized pre guarded = record {
  guards = guarded.guards;
  are = guarded.has.are;
  holds = λ state. ap (truth state) guarded.is ∙ guarded_truth state step.pre guarded.guards;
  below = ap (is_below go) guarded.is ∙ guarded_below go step.pre guarded.guards below (guarded.has.inside go go (omega arith) before sized);
}
