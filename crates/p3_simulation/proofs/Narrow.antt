-- The copies of a step, as its actions: the one that fits leads from open bits to open bits.
use Rattle.std.proofs.Common.{◌≡◌, ◌∙◌, ◌⊎◌, inl, inr, ⊎_elim, ℕ, ◌+◌, ◌<◌, ◌≤◌, nat_lt, Bool, true, false, ◌&&◌, cond, List, [], ◌∷◌, refl, sym, ap, subst, arith, Option, Some, true≢false}
use Rattle.std.specs.Prelude.{Contains}
use Rattle.std.specs.List.{list_all}
use Rattle.std.proofs.Math.Bool.{and-true}
use Rattle.std.proofs.lemmas.Bool.{and_parts, and_from, le-ltb}
use Rattle.p3_base.specs.Copies.{extra_of, copy_name}
use Rattle.p3_base.specs.Words.{Name}
use Rattle.p3_formula.specs.Forms.{State, is_set, truth}
use Rattle.p3_formula.specs.Next.{after}
use Rattle.p3_formula.specs.Targets.{is_sized_change}
use Rattle.p3_formula.specs.Weighted.{width_of}
use Rattle.p3_formula.specs.declared.form.Change.{Change}
use Rattle.p3_formula.specs.declared.form.Form.{Form}
use Rattle.p3_formula.specs.declared.target.TargetAction.{TargetAction}
use Rattle.p3_formula.specs.declared.target.Weights.{Weights}
use Rattle.p3_formula.specs.declared.task.GroundStep.{GroundStep}
use Rattle.p3_formula.proofs.NextLaws.{length-after, is_set-unchanged}
use Rattle.p3_formula.proofs.TurnLaws.{unnamed_above}
use Rattle.p3_precprefs.specs.declared.copies.StepCopy.{StepCopy}
use Rattle.p3_precprefs.specs.Copies.{fitting}
use Rattle.p3_simulation.proofs.Walks.{head_or_tail, in_none, is_head, is_behind}
use Rattle.p3_simulation.specs.Assembled.{IsCopyAction, AreCopyActions, IsSplit}
use Rattle.p3_simulation.specs.Gadgets.{IsOpen, IsAsking, Back, IsGadget}
use Rattle.p3_simulation.specs.Naming.{pattern}

-- where the action of a copy fits
fits_with : (go number : ℕ) (effects : List Change) (copy : StepCopy) (action : TargetAction) → IsCopyAction go number effects copy action → (state : State) → truth state action.pre ≡ (is_set state go && truth state copy.pre)
fits_with go number effects copy action is state = is.pre.fits state ∙ ap (λ b. b && truth state copy.pre) (and-true (is_set state go))

module _ (go number : ℕ) (effects : List Change) (state : State) where
  none_fits : (copies : List StepCopy) (actions : List TargetAction) → AreCopyActions go number effects copies actions → fitting state copies ≡ [] → (action : TargetAction) → Contains actions action → truth state action.pre ≡ true → ⊥
  none_fits [] [] are none action member holds = in_none action member
  none_fits [] (other ∷ actions) are none action member holds = are
  none_fits (copy ∷ copies) [] are none action member holds = are
  none_fits (copy ∷ copies) (first ∷ actions) are none action member holds = by (truth state copy.pre) refl (head_or_tail first actions action member) (none_fits copies actions are.1)
    where
      fits_first : truth state first.pre ≡ (is_set state go && truth state copy.pre)
      fits_first = fits_with go number effects copy first are.0 state

      by : (b : Bool) → truth state copy.pre ≡ b → (first ≡ action) ⊎ Contains actions action
          → (fitting state copies ≡ [] → (action : TargetAction) → Contains actions action → truth state action.pre ≡ true → ⊥) → ⊥
      by true e place more = let clash : copy ∷ fitting state copies ≡ [] = ap (λ b. cond b (copy ∷ fitting state copies) (fitting state copies)) (sym e) ∙ none in absurd (cc)
      by false e (inl is) more =
          let holds_too : (is_set state go && truth state copy.pre) ≡ true = sym (fits_first) ∙ ap (λ (a : TargetAction). truth state a.pre) is ∙ holds in
          true≢false (sym (and_parts (is_set state go) (truth state copy.pre) holds_too).1 ∙ e)
      by false e (inr later) more = more (ap (λ b. cond b (copy ∷ fitting state copies) (fitting state copies)) (sym e) ∙ none) action later holds

  pub record OneAction (copy : StepCopy) (actions : List TargetAction) : Type 0 where
    pub action : TargetAction
    pub own : Contains actions action
    pub is : IsCopyAction go number effects copy action
    pub holds : truth state action.pre ≡ true
    pub met : truth state copy.pre ≡ true
    pub only : (other : TargetAction) → Contains actions other → truth state other.pre ≡ true → other ≡ action

  one_fits : (copies : List StepCopy) (actions : List TargetAction) → AreCopyActions go number effects copies actions → is_set state go ≡ true → (chosen : StepCopy) → fitting state copies ≡ chosen ∷ [] → OneAction chosen actions
  one_fits [] actions are running chosen one = absurd (cc)
  one_fits (copy ∷ copies) [] are running chosen one = absurd are
  one_fits (copy ∷ copies) (first ∷ actions) are running chosen one = by (truth state copy.pre) refl (one_fits copies actions are.1 running chosen)
    where
      fits_first : truth state first.pre ≡ (is_set state go && truth state copy.pre)
      fits_first = fits_with go number effects copy first are.0 state

      here : truth state copy.pre ≡ true → fitting state copies ≡ [] → copy ≡ chosen → OneAction chosen (first ∷ actions)
      here e none same = record {
        action = first;
        own = is_head first actions;
        is = subst (λ (c : StepCopy). IsCopyAction go number effects c first) same are.0;
        holds = fits_first ∙ and_from (is_set state go) (truth state copy.pre) running e;
        met = ap (λ (c : StepCopy). truth state c.pre) (sym same) ∙ e;
        only = λ other member holds. ⊎_elim (λ is. sym is) (λ later. absurd (none_fits copies actions are.1 none other later holds)) (head_or_tail first actions other member);
      }

      not_first : truth state copy.pre ≡ false → (other : TargetAction) → first ≡ other → truth state other.pre ≡ true → ⊥
      not_first e other is holds =
          let holds_too : (is_set state go && truth state copy.pre) ≡ true = sym (fits_first) ∙ ap (λ (a : TargetAction). truth state a.pre) is ∙ holds in
          true≢false (sym (and_parts (is_set state go) (truth state copy.pre) holds_too).1 ∙ e)

      by : (b : Bool) → truth state copy.pre ≡ b → (fitting state copies ≡ chosen ∷ [] → OneAction chosen actions) → OneAction chosen (first ∷ actions)
      by true e more =
          let both : copy ∷ fitting state copies ≡ chosen ∷ [] = ap (λ b. cond b (copy ∷ fitting state copies) (fitting state copies)) (sym e) ∙ one in
          let none : fitting state copies ≡ [] = cc in
          let same : copy ≡ chosen = cc in here e none same
      by false e more =
          let rest = more (ap (λ b. cond b (copy ∷ fitting state copies) (fitting state copies)) (sym e) ∙ one) in
          record {
            action = rest.action;
            own = is_behind first actions rest.action rest.own;
            is = rest.is;
            holds = rest.holds;
            met = rest.met;
            only = λ other member holds. ⊎_elim (λ is. absurd (not_first e other is holds)) (λ later. rest.only other later holds) (head_or_tail first actions other member);
          }

-- what an action is, whichever copy it is of
module _ (go number : ℕ) (effects : List Change) where
  pub record IsSomeCopy (action : TargetAction) : Type 0 where
    pub rest : Name
    pub named : action.name ≡ copy_name number rest
    pub running : (state : State) → truth state action.pre ≡ true → is_set state go ≡ true
    pub sized : list_all (is_sized_change go) effects ≡ true → list_all (is_sized_change go) action.effects ≡ true

  pub some_copy : (copies : List StepCopy) (actions : List TargetAction) → AreCopyActions go number effects copies actions → (action : TargetAction) → Contains actions action → IsSomeCopy action
  some_copy [] [] are action member = in_none action member
  some_copy [] (other ∷ actions) are action member = absurd are
  some_copy (copy ∷ copies) [] are action member = absurd are
  some_copy (copy ∷ copies) (first ∷ actions) are action member = elim (head_or_tail first actions action member) [
    | inl is ↦ subst IsSomeCopy is (record {
      rest = pattern copy.violated;
      named = are.0.named;
      running = λ state holds. (and_parts (is_set state go) (truth state copy.pre) (sym (fits_with go number effects copy first are.0 state) ∙ holds)).0;
      sized = are.0.atoms (λ atom. nat_lt atom go);
    })
    | inr later ↦ some_copy copies actions are.1 action later
  ]

-- the clauses of `split_under`, as those of a gadget
module _ (go first size : ℕ) (behind_go : go < first) (counted : TargetAction → Option ℕ) (weights : Weights) (step : GroundStep) (pre : Form) (effects wanted : List Change) (actions : List TargetAction)
    (few : width_of weights.by_name step ≤ 8) (is : IsSplit go weights step pre effects actions) (below : list_all (is_sized_change go) effects ≡ true)
    (does : (state : State) → truth state pre ≡ true → after state effects ≡ after state wanted) (counts : (action : TargetAction) (rest : Name) → action.name ≡ copy_name step.number rest → counted action ≡ Some step.number) where
  some : (action : TargetAction) → Contains actions action → IsSomeCopy go step.number effects action
  some action member = some_copy go step.number effects is.copies actions is.are action member

  stays_open : (bits : State) → IsOpen go first size bits → (action : TargetAction) → Contains actions action → IsOpen go first size (after bits action.effects)
  stays_open bits opens action member = record {
    room = length-after bits action.effects ∙ opens.room;
    running = is_set-unchanged bits action.effects go (unnamed_above go action.effects go own (omega arith)) ∙ opens.running;
    clear = λ atom high. is_set-unchanged bits action.effects atom (unnamed_above go action.effects atom own (omega (arith, high))) ∙ opens.clear atom high;
  } where
    own : list_all (is_sized_change go) action.effects ≡ true
    own = (some action member).sized below

  holds_where : (bits : State) → IsOpen go first size bits → (action : TargetAction) → Contains actions action → truth bits action.pre ≡ true → truth bits pre ≡ true
  holds_where bits opens action member holds = by (truth bits pre) refl
    where
      by : (b : Bool) → truth bits pre ≡ b → truth bits pre ≡ true
      by true e = e
      by false e = absurd (none_fits go step.number effects bits is.copies actions is.are (is.no_copy bits e) action member holds)

  chosen : (bits : State) → IsOpen go first size bits → (fits : truth bits pre ≡ true) → OneAction go step.number effects bits (is.one_copy bits fits).copy actions
  chosen bits opens fits = one_fits go step.number effects bits is.copies actions is.are opens.running (is.one_copy bits fits).copy (is.one_copy bits fits).only

  never : (bits : State) → IsAsking go first size go bits → ⊥
  never bits asking = let b = asking.behind in omega (arith, b, behind_go)

  narrow : extra_of (width_of weights.by_name step) ≡ 0
  narrow = ap (λ b. cond b (width_of weights.by_name step + 1) 0) (le-ltb 8 (width_of weights.by_name step) few)

  pub copies_turn : IsGadget go first size counted weights step pre wanted go actions
  copies_turn = record {
    guarded = λ bits action member holds. inl ((some action member).running bits holds);
    open_one = λ bits opens one other member member_two fits fit.
        let c = chosen bits opens (holds_where bits opens one member fits) in c.only one member fits ∙ sym (c.only other member_two fit);
    open_fits = holds_where;
    open_counts = λ bits opens action member holds. counts action (some action member).rest (some action member).named;
    open_next = λ bits opens action member holds. inl (stays_open bits opens action member);
    amid_one = λ bits asking one other member member_two fits fit. absurd (never bits asking);
    amid_counts = λ bits asking action member fits. absurd (never bits asking);
    amid_next = λ bits asking action member fits. absurd (never bits asking);
    turn = λ bits opens fits. let c = chosen bits opens fits in record {
      begin = c.action;
      rest = [];
      later = after bits c.action.effects;
      own = c.own;
      fits = c.holds;
      turns = Back (after bits c.action.effects) (stays_open bits opens c.action c.own);
      same = λ atom low. ap (λ s. is_set s atom) (c.is.does bits c.met ∙ does bits fits);
      costs = add_nothing c.action.cost ∙ c.is.costs ∙ (is.one_copy bits fits).costs;
      count = sym narrow;
    };
  }
    where
      add_nothing : (n : ℕ) → n + 0 ≡ n
      add_nothing n = omega arith
