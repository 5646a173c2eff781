-- The changes of each operator's monitor are what they are to be.
use Rattle.std.proofs.Common.{◌≡◌, ◌∙◌, ℕ, ◌+◌, ◌≤◌, ◌<◌, ◌==◌, Bool, true, false, not, ◌&&◌, ◌||◌, List, [], ◌∷◌, ◌++◌, length, sum_by, Result, refl, sym, ap, subst, arith}
use Rattle.std.specs.Prelude.{IfOk}
use Rattle.std.specs.List.{list_all}
use Rattle.std.proofs.lemmas.Bool.{and_parts, and_from, not-true}
use Rattle.std.proofs.lemmas.Bool.Decides.{nat_tests}
use Rattle.std.proofs.lemmas.List.Sums.{sum_by-cons}
use Rattle.std.proofs.lemmas.Result.{IfOk-weaker}
use Rattle.std.proofs.Math.Bool.{and-false, or-false, or-true, not-not}
use Rattle.p3_formula.specs.Forms.{State, is_set, truth, has_atoms, nodes}
use Rattle.p3_base.specs.Trajectories.{each, some, came_back, is_awaited, came_early}
use Rattle.p3_formula.specs.GroundSat.{holds_at}
use Rattle.p3_formula.specs.GroundPlans.{last_of}
use Rattle.p3_formula.specs.Next.{is_set_after}
use Rattle.p3_formula.specs.declared.form.Change.{Change}
use Rattle.p3_formula.specs.declared.form.Form.{Form}
use Rattle.p3_formula.specs.declared.form.Form.TheVariants.{Not}
use Rattle.p3_formula.specs.GroundModal.{GroundModal}
use Rattle.p3_base.specs.declared.operator.Operator.TheVariants as modal
use Rattle.p3_formula.proofs.FormLemmas.{truth-Not, truth-both, has_atoms-Not, has_atoms-both, nodes-Not, nodes-both}
use Rattle.p3_formula.proofs.NextLaws.{is_set_after-front, is_set_after-back}
use Rattle.p3_regress.specs.Regressed.{growth}
use Rattle.p3_regress.proofs.TurnedLaws.{growth-both, growth-Not}
use Rattle.p3_formula.specs.Kept.{is_own}
use Rattle.p3_formula.specs.Modals.{is_read, IsModalBelow}
use Rattle.p3_base.specs.Operators.{formulas_of}
use Rattle.p3_monitors.specs.KeepsOn.{AreOwn, condition_nodes}
use Rattle.p3_monitors.specs.Updates.{IsTurned, IsUpdate, change, awaits, back, early, always, sometime, at_most_once, sometime_after, sometime_before, possible, unless}
use Rattle.p3_formula.proofs.ReadAtoms.{same_number, reads}
use Rattle.p3_formula.proofs.WatchedLaws.{each-next, some-next, came-next, awaited-next, early-next}
use Rattle.p3_monitors.proofs.JointLaws.{truth-back, truth-early, truth-unless, has_atoms-back, has_atoms-early, has_atoms-unless, nodes-back, nodes-early, nodes-unless}
use Rattle.p3_monitors.proofs.ChangeLaws.{Transition, own_from, own_after, transition, truth_now, turned_later, turned_only, keeps_on, set_by, cleared_by}
use Rattle.p3_monitors.proofs.PossibleLaws.{possible_update}
use Rattle.p3_monitors.proofs.LastLaws.{each_last, some_last, awaited_last, unawaited_last, early_last}

module _ {A : Type 0} (size : A → ℕ) where
  pub one_sum : (one : A) → sum_by size (one ∷ []) ≡ size one
  one_sum one = let h = sum_by-cons size one [] in omega arith

  pub two_sum : (one other : A) → sum_by size (one ∷ other ∷ []) ≡ size one + size other
  two_sum one other = let h = sum_by-cons size one (other ∷ []) in let k = sum_by-cons size other [] in omega arith

pub at_base : (base : ℕ) → base ≤ base
at_base base = omega arith

past_base : (base : ℕ) → base ≤ base + 1
past_base base = omega arith

in_one : (base : ℕ) → base < base + 1
in_one base = omega arith

pub in_two : (base : ℕ) → base < base + 2
in_two base = omega arith

next_in_two : (base : ℕ) → base + 1 < base + 2
next_in_two base = omega arith

one_atom : (base : ℕ) → (base == (base + 1)) ≡ false
one_atom base = grind (arith, nat_tests)

next_atom : (base : ℕ) → ((base + 1) == base) ≡ false
next_atom base = grind (arith, nat_tests)

-- of two changes of the base and of the next atom, each minds its own
module _ (state : State) (base : ℕ) (first second : Form) where
  first_set : is_set_after state (change true base first ∷ change true (base + 1) second ∷ []) base ≡ (is_set state base || truth state first)
  first_set = is_set_after-front state (change true base first ∷ []) (change true (base + 1) second ∷ []) base (or-false _ ∙ next_atom base) ∙ set_by state base first

  second_set : is_set_after state (change true base first ∷ change true (base + 1) second ∷ []) (base + 1) ≡ (is_set state (base + 1) || truth state second)
  second_set = is_set_after-back state (change true base first ∷ []) (change true (base + 1) second ∷ []) (base + 1) (or-false _ ∙ one_atom base) ∙ set_by state (base + 1) second

  -- an atom that is cleared where the first holds, and set where the second does
  switched : (a b old test : Bool) → test ≡ true → ((test && false && a || (test && true && b || false)) || (old && not (test && true && a || (test && false && b || false)))) ≡ (b || (old && not a))
  switched a b old test e = ap (λ t. (t && false && a || (t && true && b || false)) || (old && not (t && true && a || (t && false && b || false)))) e ∙ by a b old where
    by : (a b old : Bool) → ((true && false && a || (true && true && b || false)) || (old && not (true && true && a || (true && false && b || false)))) ≡ (b || (old && not a))
    by true true old = refl
    by true false true = refl
    by true false false = refl
    by false true old = refl
    by false false true = refl
    by false false false = refl

  switched_by : is_set_after state (change false base first ∷ change true base second ∷ []) base ≡ (truth state second || (is_set state base && not (truth state first)))
  switched_by = switched (truth state first) (truth state second) (is_set state base) (base == base) (same_number base)

-- changes of both atoms of a monitor are its own
both_own : (base : ℕ) (first second : Form) (modal : GroundModal) → is_own base modal base ≡ true → is_own base modal (base + 1) ≡ true → AreOwn base modal (change true base first ∷ change true (base + 1) second ∷ [])
both_own base first second modal h k = and_from (is_own base modal base) _ h (and_from (is_own base modal (base + 1)) true k refl)

-- what is told matters only where the old bit leaves it open
agree_and : (old later next : Bool) → (old ≡ true → later ≡ next) → (old && later) ≡ (old && next)
agree_and true later next h = h refl
agree_and false later next h = refl

agree_or : (old later next : Bool) → (old ≡ false → later ≡ next) → (old || later) ≡ (old || next)
agree_or true later next h = refl
agree_or false later next h = h refl

agree_back : (held was later next : Bool) → (was ≡ false → later ≡ next) → ((held && not was) && later) ≡ ((held && not was) && next)
agree_back held was later next h = agree_and (held && not was) later next (λ ceased. h (not-true was (and_parts held (not was) ceased).1))

agree_early : (early held later next : Bool) → (early ≡ false → held ≡ false → later ≡ next) → (early || (later && not held)) ≡ (early || (next && not held))
agree_early true held later next h = refl
agree_early false true later next h = and-false later ∙ sym (and-false next)
agree_early false false later next h = ap (λ b. b && true) (h refl refl)

-- waiting goes on where the answer does not come, and begins so
awaiting : (old met awaited first second : Bool) → (old ≡ true → met ≡ second) → (old ≡ false → awaited ≡ (first && not second)) → ((first && not second) ≡ false → awaited ≡ false)
    → (awaited || (old && not met)) ≡ ((old || first) && not second)
awaiting true met awaited first true answers begins only = λ i. only (and-false first) i || not (answers refl i)
awaiting true met awaited first false answers begins only = ap (λ b. awaited || not b) (answers refl) ∙ or-true awaited
awaiting false met awaited first second answers begins only = or-false awaited ∙ begins refl

truth-awaits : (state : State) (f g : Form) → truth state (awaits f g) ≡ (truth state f && not (truth state g))
truth-awaits state f g = truth-both state f (Not g) ∙ ap (λ b. truth state f && b) (truth-Not state g)

module _ (base : ℕ) (step : List Change) where
  pub at_end_update : (f : Form) → IsModalBelow base (modal.AtEnd f) → IsUpdate base (modal.AtEnd f) step []
  at_end_update f below = record {
    kept = keeps_on base (modal.AtEnd f) step [] below refl (λ stage. tt);
    own = refl;
    atoms = λ allowed of own conds. refl;
    few = omega arith;
    size = omega arith;
  }

  module _ (f later : Form) where
    -- a constraint of one form
    module _ (operator : GroundModal) (one : formulas_of operator ≡ f ∷ []) where
      reads_it : has_atoms (is_read operator) f ≡ true
      reads_it = (and_parts _ _ (sym (ap (list_all (has_atoms (is_read operator))) one) ∙ reads operator)).0

    -- with what its atom says, what is told before the step says whether the form holds in each state, also in the next
    pub each_told : IsTurned false step f later → (at : Transition base (modal.Always f) step)
        → (each (length at.W) (holds_at at.W f) && truth at.state later) ≡ each (length (at.W ++ at.next ∷ [])) (holds_at (at.W ++ at.next ∷ []) f)
    each_told made at =
        agree_and (each (length at.W) (holds_at at.W f)) (truth at.state later) (truth at.next f)
        (λ held. turned_later at f (reads_it (modal.Always f) refl) false later made.truth (each_last at.W at.kept.visited f held))
        ∙ sym (each-next at.W at.next f)

    pub always_update : IsTurned false step f later → IsModalBelow base (modal.Always f) → IsUpdate base (modal.Always f) step (always base later)
    always_update made below = record {
      kept = keeps_on base (modal.Always f) step (always base later) below mine (λ stage. (
        own_after stage base (at_base base) (in_one base)
            ∙ cleared_by stage.state base (unless later)
            ∙ (λ i. stage.kept.carries.stand.0 i && not (truth-unless stage.state later i))
            ∙ ap (λ b. each (length stage.W) (holds_at stage.W f) && b) (not-not (truth stage.state later))
            ∙ each_told made (transition stage),
        tt,
      ));
      own = mine;
      atoms = λ allowed of own conds. and_from (has_atoms allowed (unless later)) true (has_atoms-unless allowed later (made.atoms allowed (and_parts _ _ of).0 conds)) refl;
      few = omega arith;
      size = let n = nodes-unless later in let c : condition_nodes (always base later) ≡ nodes (unless later) = one_sum (λ c. nodes c.cond) (change false base (unless later)) in let m = one_sum nodes f in let s = made.size in let g = one_sum (growth step) f in omega arith;
    } where
      mine : AreOwn base (modal.Always f) (always base later)
      mine = and_from (is_own base (modal.Always f) base) true (own_from base (modal.Always f) base (at_base base) (in_one base)) refl

    pub sometime_update : IsTurned true step f later → IsModalBelow base (modal.Sometime f) → IsUpdate base (modal.Sometime f) step (sometime base later)
    sometime_update made below = record {
      kept = keeps_on base (modal.Sometime f) step (sometime base later) below mine (λ stage. (
        own_after stage base (at_base base) (in_one base)
            ∙ set_by stage.state base later
            ∙ (λ i. stage.kept.carries.stand.0 i || truth stage.state later)
            ∙ agree_or (some (length stage.W) (holds_at stage.W f)) (truth stage.state later) (truth stage.next f)
            (λ none. turned_later (transition stage) f (reads_it (modal.Sometime f) refl) true later made.truth (some_last stage.W stage.kept.visited f none))
            ∙ sym (some-next stage.W stage.next f),
        tt,
      ));
      own = mine;
      atoms = λ allowed of own conds. and_from (has_atoms allowed later) true (made.atoms allowed (and_parts _ _ of).0 conds) refl;
      few = omega arith;
      size = let c : condition_nodes (sometime base later) ≡ nodes later = one_sum (λ c. nodes c.cond) (change true base later) in let m = one_sum nodes f in let s = made.size in let g = one_sum (growth step) f in omega arith;
    } where
      mine : AreOwn base (modal.Sometime f) (sometime base later)
      mine = and_from (is_own base (modal.Sometime f) base) true (own_from base (modal.Sometime f) base (at_base base) (in_one base)) refl

    -- and whether it came back
    pub came_told : IsTurned true step f later → (at : Transition base (modal.AtMostOnce f) step)
        → (came_back (length at.W) (holds_at at.W f) || truth at.state (back base f later)) ≡ came_back (length (at.W ++ at.next ∷ [])) (holds_at (at.W ++ at.next ∷ []) f)
    came_told made at =
        let reads = reads_it (modal.AtMostOnce f) refl in
        let came = came_back (length at.W) (holds_at at.W f) in
        (λ i. came || truth-back at.state base f later i)
        ∙ (λ i. came || ((at.kept.carries.stand.0 i && not (truth_now at f reads i)) && truth at.state later))
        ∙ ap (λ b. came || b) (agree_back (some (length at.W) (holds_at at.W f)) (truth (last_of at.W) f) (truth at.state later) (truth at.next f) (turned_later at f reads true later made.truth))
        ∙ sym (came-next at.W at.next f)

    pub at_most_once_update : IsTurned true step f later → IsModalBelow base (modal.AtMostOnce f) → IsUpdate base (modal.AtMostOnce f) step (at_most_once base f later)
    at_most_once_update made below = record {
      kept = keeps_on base (modal.AtMostOnce f) step (at_most_once base f later) below mine (λ stage.
          let comes = turned_later (transition stage) f (reads_it (modal.AtMostOnce f) refl) true later made.truth in
          let held = some (length stage.W) (holds_at stage.W f) in (
            own_after stage base (at_base base) (in_two base)
                ∙ first_set stage.state base later (back base f later)
                ∙ (λ i. stage.kept.carries.stand.0 i || truth stage.state later)
                ∙ agree_or held (truth stage.state later) (truth stage.next f) (λ none. comes (some_last stage.W stage.kept.visited f none))
                ∙ sym (some-next stage.W stage.next f),
            (
              own_after stage (base + 1) (past_base base) (next_in_two base)
                  ∙ second_set stage.state base later (back base f later)
                  ∙ (λ i. stage.kept.carries.stand.1.0 i || truth stage.state (back base f later))
                  ∙ came_told made (transition stage),
              tt,
            ),
          ));
      own = mine;
      atoms = λ allowed of own conds.
          let it = (and_parts (has_atoms allowed f) _ of).0 in
          let now = made.atoms allowed it conds in
          and_from (has_atoms allowed later) _ now (and_from (has_atoms allowed (back base f later)) true (has_atoms-back allowed base f later (own base first_own) it now) refl);
      few = omega arith;
      size = let b = nodes-back base f later in let c : condition_nodes (at_most_once base f later) ≡ nodes later + nodes (back base f later) = two_sum (λ c. nodes c.cond) (change true base later) (change true (base + 1) (back base f later)) in let m = one_sum nodes f in let s = made.size in let g = one_sum (growth step) f in omega arith;
    } where
      first_own : is_own base (modal.AtMostOnce f) base ≡ true
      first_own = own_from base (modal.AtMostOnce f) base (at_base base) (in_two base)

      mine : AreOwn base (modal.AtMostOnce f) (at_most_once base f later)
      mine = both_own base later (back base f later) (modal.AtMostOnce f) first_own (own_from base (modal.AtMostOnce f) (base + 1) (past_base base) (next_in_two base))

  module _ (f g : Form) where
    -- a constraint of two forms
    module _ (operator : GroundModal) (two : formulas_of operator ≡ f ∷ g ∷ []) where
      reads_both : (has_atoms (is_read operator) f ≡ true) × (has_atoms (is_read operator) g ≡ true)
      reads_both = let parts = and_parts _ _ (sym (ap (list_all (has_atoms (is_read operator))) two) ∙ reads operator) in (parts.0, (and_parts _ _ parts.1).0)

    has_atoms-awaits : (allowed : ℕ → Bool) → has_atoms allowed f ≡ true → has_atoms allowed g ≡ true → has_atoms allowed (awaits f g) ≡ true
    has_atoms-awaits allowed first second = has_atoms-both allowed f (Not g) first (has_atoms-Not allowed g ∙ second)

    pub sometime_after_update : (met awaited : Form) → IsTurned true step g met → IsTurned true step (awaits f g) awaited
        → IsModalBelow base (modal.SometimeAfter f g) → IsUpdate base (modal.SometimeAfter f g) step (sometime_after base met awaited)
    sometime_after_update met awaited made other_made below = record {
      kept = keeps_on base (modal.SometimeAfter f g) step (sometime_after base met awaited) below mine (λ stage.
          let both_read = reads_both (modal.SometimeAfter f g) refl in
          let answers = turned_later (transition stage) g both_read.1 true met made.truth in
          let open_read = has_atoms-awaits (is_read (modal.SometimeAfter f g)) both_read.0 both_read.1 in
          let begins = turned_later (transition stage) (awaits f g) open_read true awaited other_made.truth in
          let only = turned_only (transition stage) (awaits f g) open_read true awaited other_made.truth in (
            own_after stage base (at_base base) (in_one base)
                ∙ switched_by stage.state base met awaited
                ∙ (λ i. truth stage.state awaited || (stage.kept.carries.stand.0 i && not (truth stage.state met)))
                ∙ awaiting (is_awaited (length stage.W) (holds_at stage.W f) (holds_at stage.W g)) (truth stage.state met) (truth stage.state awaited) (truth stage.next f) (truth stage.next g)
                (λ waits. answers (awaited_last stage.W stage.kept.visited f g waits))
                (λ none. begins (truth-awaits (last_of stage.W) f g ∙ unawaited_last stage.W stage.kept.visited f g none) ∙ truth-awaits stage.next f g)
                (λ none. only (truth-awaits stage.next f g ∙ none))
                ∙ sym (awaited-next stage.W stage.next f g),
            tt,
          ));
      own = mine;
      atoms = λ allowed of own conds.
          let parts = and_parts (has_atoms allowed f) _ of in
          let second = (and_parts (has_atoms allowed g) true parts.1).0 in
          and_from (has_atoms allowed met) _ (made.atoms allowed second conds)
          (and_from (has_atoms allowed awaited) true (other_made.atoms allowed (has_atoms-awaits allowed parts.0 second) conds) refl);
      few = omega arith;
      size = let b = nodes-both f (Not g) in let n = nodes-Not g in let p = growth-both step f (Not g) in let q = growth-Not step g in let c : condition_nodes (sometime_after base met awaited) ≡ nodes met + nodes awaited = two_sum (λ c. nodes c.cond) (change false base met) (change true base awaited) in let m = two_sum nodes f g in let s = made.size in let o = other_made.size in let h = two_sum (growth step) f g in omega arith;
    } where
      mine : AreOwn base (modal.SometimeAfter f g) (sometime_after base met awaited)
      mine =
          let h = own_from base (modal.SometimeAfter f g) base (at_base base) (in_one base) in
          and_from (is_own base (modal.SometimeAfter f g) base) _ h (and_from (is_own base (modal.SometimeAfter f g) base) true h refl)

    -- with what its atoms say, what is told before the step says whether the first came too early, also in the next state
    pub early_told : (later : Form) → IsTurned true step f later → (at : Transition base (modal.SometimeBefore f g) step)
        → (came_early (length at.W) (holds_at at.W f) (holds_at at.W g) || truth at.state (early base later)) ≡ came_early (length (at.W ++ at.next ∷ [])) (holds_at (at.W ++ at.next ∷ []) f) (holds_at (at.W ++ at.next ∷ []) g)
    early_told later made at =
        let came = came_early (length at.W) (holds_at at.W f) (holds_at at.W g) in
        (λ i. came || truth-early at.state base later i)
        ∙ (λ i. came || (truth at.state later && not (at.kept.carries.stand.0 i)))
        ∙ agree_early came (some (length at.W) (holds_at at.W g)) (truth at.state later) (truth at.next f)
        (λ none unheld. turned_later at f (reads_both (modal.SometimeBefore f g) refl).0 true later made.truth (early_last at.W at.kept.visited f g none unheld))
        ∙ sym (early-next at.W at.next f g)

    pub sometime_before_update : (later answer : Form) → IsTurned true step f later → IsTurned true step g answer → IsModalBelow base (modal.SometimeBefore f g)
        → IsUpdate base (modal.SometimeBefore f g) step (sometime_before base later answer)
    sometime_before_update later answer made other_made below = record {
      kept = keeps_on base (modal.SometimeBefore f g) step (sometime_before base later answer) below mine (λ stage.
          let answers = turned_later (transition stage) g (reads_both (modal.SometimeBefore f g) refl).1 true answer other_made.truth in
          let held = some (length stage.W) (holds_at stage.W g) in (
            own_after stage base (at_base base) (in_two base)
                ∙ first_set stage.state base answer (early base later)
                ∙ (λ i. stage.kept.carries.stand.0 i || truth stage.state answer)
                ∙ agree_or held (truth stage.state answer) (truth stage.next g) (λ none. answers (some_last stage.W stage.kept.visited g none))
                ∙ sym (some-next stage.W stage.next g),
            (
              own_after stage (base + 1) (past_base base) (next_in_two base)
                  ∙ second_set stage.state base answer (early base later)
                  ∙ (λ i. stage.kept.carries.stand.1.0 i || truth stage.state (early base later))
                  ∙ early_told later made (transition stage),
              tt,
            ),
          ));
      own = mine;
      atoms = λ allowed of own conds.
          let parts = and_parts (has_atoms allowed f) _ of in
          let first = made.atoms allowed parts.0 conds in
          let second = other_made.atoms allowed (and_parts _ _ parts.1).0 conds in
          and_from (has_atoms allowed answer) _ second (and_from (has_atoms allowed (early base later)) true (has_atoms-early allowed base later (own base first_own) first) refl);
      few = omega arith;
      size = let b = nodes-early base later in let c : condition_nodes (sometime_before base later answer) ≡ nodes answer + nodes (early base later) = two_sum (λ c. nodes c.cond) (change true base answer) (change true (base + 1) (early base later)) in let m = two_sum nodes f g in let s = made.size in let o = other_made.size in let h = two_sum (growth step) f g in omega arith;
    } where
      first_own : is_own base (modal.SometimeBefore f g) base ≡ true
      first_own = own_from base (modal.SometimeBefore f g) base (at_base base) (in_two base)

      mine : AreOwn base (modal.SometimeBefore f g) (sometime_before base later answer)
      mine = both_own base answer (early base later) (modal.SometimeBefore f g) first_own (own_from base (modal.SometimeBefore f g) (base + 1) (past_base base) (next_in_two base))

-- what is made for the operator of a constraint is made for the constraint
pub updated : {E : Type 0} (base : ℕ) (step made : List Change) (modal operator : GroundModal) (result : Result (List Change) E)
    → modal ≡ operator → IsModalBelow base modal → (IsModalBelow base operator → IsUpdate base operator step made) → IfOk result (λ effects. effects ≡ possible made) → IfOk result (IsUpdate base modal step)
updated base step made modal operator result is below update ok =
    IfOk-weaker result _ _
    (λ effects same. subst (λ m. IsUpdate base m step effects) (sym is) (subst (IsUpdate base operator step) (sym same) (possible_update base operator step made (update (subst (IsModalBelow base) is below)))))
    ok
