-- One list of actions ends, from each state where just one of the phase's atoms is set.
use Rattle.std.proofs.Common.{◌≡◌, ◌∙◌, ◌≢◌, ◌⊎◌, inl, inr, ℕ, zero, suc, ◌+◌, ◌<◌, Bool, true, false, not, ◌&&◌, cond, List, [], ◌∷◌, length, sum_by, refl, sym, ap, subst, arith, true≢false}
use Rattle.std.specs.Prelude.{◌==◌, codes, Contains}
use Rattle.std.proofs.lemmas.Bool.{and_parts}
use Rattle.std.proofs.lemmas.Bool.Decides.{nat_tests}
use Rattle.std.proofs.lemmas.List.Sums.{sum_by-cons}
use Rattle.p3_formula.specs.Forms.{State, is_set, truth}
use Rattle.p3_formula.specs.Next.{after}
use Rattle.p3_formula.specs.declared.form.Form.{Form}
use Rattle.p3_formula.specs.declared.form.Form.TheVariants as form
use Rattle.p3_formula.specs.declared.target.TargetAction.{TargetAction}
use Rattle.p3_formula.proofs.FormLemmas.{truth-Atom}
use Rattle.p3_endphase.specs.declared.phase.EndPhase.{EndPhase}
use Rattle.p3_endphase.specs.declared.phase.SoftEnd.{SoftEnd}
use Rattle.p3_endphase.specs.Ends.{AreBelow, moving, IsMove, IsSettled, Settles, AreActions, IsEndPhase, IsSingleAt, Ends, weight_in, violation, HasOneEnd}
use Rattle.p3_endphase.proofs.MoveLemmas.{moved, moved_single, moved_violation}

-- ---- members of lists

head_or_tail : {A : Type 0} (x : A) (xs : List A) (a : A) → Contains (x ∷ xs) a → (x ≡ a) ⊎ Contains xs a
head_or_tail x xs a (zero, within, is) = inl is
head_or_tail x xs a (suc k, within, is) = inr (k, omega (arith, within), is)

is_head : {A : Type 0} (x : A) (xs : List A) → Contains (x ∷ xs) x
is_head x xs = (0, omega arith, refl)

is_behind : {A : Type 0} (x : A) (xs : List A) (a : A) → Contains xs a → Contains (x ∷ xs) a
is_behind x xs a (k, within, is) = (suc k, omega (arith, within), is)

in_none : {A : Type 0} {B : Type 0} (a : A) → Contains [] a → B
in_none a (k, within, is) = absurd (omega (arith, within))

-- ---- which actions fit

module _ (first count : ℕ) where
  -- a move that fits stands at the place of the atom that is set
  pub fits_here : (place at : ℕ) (source : Form) (condition : State → Bool) (name : List ℕ) (cost : ℕ) (a : TargetAction) (state : State)
      → IsMove (first + at) source condition name cost a → at < count → IsSingleAt first count place state → truth state a.pre ≡ true → (at ≡ place) × (condition state ≡ true)
  fits_here place at source condition name cost a state move below single fits =
      let holds : (is_set state (first + at) && condition state) ≡ true = sym (move.fits state) ∙ fits in
      let parts : (is_set state (first + at) ≡ true) × (condition state ≡ true) = and_parts (is_set state (first + at)) (condition state) holds in
      (by (at == place) refl parts.0, parts.1)
    where
      by : (same : Bool) → (at == place) ≡ same → is_set state (first + at) ≡ true → at ≡ place
      by true e set = grind (arith, nat_tests)
      by false e set =
          let differ : at ≢ place = grind (arith, nat_tests) in
          absurd (true≢false (sym set ∙ single.others at below differ))

  -- the actions that settle instances from a number on fit behind it
  pub fits_later : (number : ℕ) (instances : List SoftEnd) (actions : List TargetAction) → Settles first number instances actions → number + length instances + 1 < count
      → (place : ℕ) (state : State) (a : TargetAction) → IsSingleAt first count place state → Contains actions a → truth state a.pre ≡ true → number < place
  fits_later number [] [] settles room place state a single member fits = in_none a member
  fits_later number [] (action ∷ actions) settles room place state a single member fits = absurd settles
  fits_later number (instance ∷ instances) [] settles room place state a single member fits = absurd settles
  fits_later number (instance ∷ instances) (action ∷ []) settles room place state a single member fits = absurd settles
  fits_later number (instance ∷ instances) (collect ∷ forgo ∷ actions) settles room place state a single member fits =
      elim (head_or_tail collect (forgo ∷ actions) a member) [
        | inl is ↦ let here = fits_here place (number + 1) _ _ _ _ collect state settles.0.collects (omega (arith, room)) single (subst (λ b. truth state b.pre ≡ true) (sym is) fits) in omega (arith, here.0)
        | inr other ↦ elim (head_or_tail forgo actions a other) [
          | inl is ↦ let here = fits_here place (number + 1) _ _ _ _ forgo state settles.0.forgoes (omega (arith, room)) single (subst (λ b. truth state b.pre ≡ true) (sym is) fits) in omega (arith, here.0)
          | inr later ↦ let behind : number + 1 < place = fits_later (number + 1) instances actions settles.1 (omega (arith, room)) place state a single later fits in omega (arith, behind)
        ]
      ]

-- ---- lists that end

-- exactly one list ends, of that length and cost
pub record OneEnd (phase : EndPhase) (steps cost : ℕ) (state : State) : Type 0 where
  pub plan : List TargetAction
  pub ends : Ends phase state plan
  pub count : length plan ≡ steps
  pub costs : sum_by (λ (action : TargetAction). action.cost) plan ≡ cost
  pub only : (other : List TargetAction) → Ends phase state other → other ≡ plan

module _ (phase : EndPhase) (first count last : ℕ) (goal_is : phase.goal ≡ form.Atom (first + last)) (last_is : count ≡ last + 1) where
  goal_at : (state : State) → truth state phase.goal ≡ is_set state (first + last)
  goal_at state = ap (truth state) goal_is ∙ truth-Atom state (first + last)

  no_goal : (place : ℕ) (state : State) → IsSingleAt first count place state → place ≢ last → truth state phase.goal ≡ true → ⊥
  no_goal place state single apart goal = true≢false (sym goal ∙ goal_at state ∙ single.others last (omega (arith, last_is)) (λ same. apart (sym same)))

  -- one action more, which alone fits
  one_more : (place steps cost : ℕ) (state : State) (a : TargetAction) → IsSingleAt first count place state → place ≢ last → Contains phase.actions a → truth state a.pre ≡ true
      → ((other : TargetAction) → Contains phase.actions other → truth state other.pre ≡ true → a ≡ other)
      → OneEnd phase steps cost (after state a.effects) → OneEnd phase (suc steps) (a.cost + cost) state
  one_more place steps cost state a single apart member fits alone rest = record {
    plan = a ∷ rest.plan;
    ends = (member, fits, rest.ends);
    count = ap suc rest.count;
    costs = sum_by-cons (λ (action : TargetAction). action.cost) a rest.plan ∙ ap (λ n. a.cost + n) rest.costs;
    only = only;
  }
    where
      only : (other : List TargetAction) → Ends phase state other → other ≡ a ∷ rest.plan
      only [] goal = absurd (no_goal place state single apart goal)
      only (b ∷ plan) ends =
          let same : a ≡ b = alone b ends.0 ends.1 in
          λ i. sym same i ∷ rest.only plan (subst (λ c. Ends phase (after state c.effects) plan) (sym same) ends.2) i

  -- the last atom of the chain is set
  at_the_end : (state : State) → IsSingleAt first count last state → ((a : TargetAction) → Contains phase.actions a → truth state a.pre ≡ true → ⊥) → OneEnd phase 0 0 state
  at_the_end state single none = record {
    plan = [];
    ends = goal_at state ∙ single.here;
    count = refl;
    costs = refl;
    only = only;
  }
    where
      only : (other : List TargetAction) → Ends phase state other → other ≡ []
      only [] ends = refl
      only (a ∷ plan) ends = absurd (none a ends.0 ends.1)

  -- one instance, where the first of its two atoms is set, before the others
  module _ (number : ℕ) (instance : SoftEnd) (instances : List SoftEnd) (collect forgo : TargetAction) (actions : List TargetAction) (settled : IsSettled first number instance collect forgo) (others : Settles first (number + 1) instances actions) (last_eq : last ≡ number + length (instance ∷ instances) + 1) where
    room : number + 1 + length instances + 1 < count
    room = let e = last_eq in omega (arith, e, last_is)

    early : number + 1 ≢ last
    early same = let e = last_eq in omega (arith, e, same)

    -- a member is one of the first two, or of the others
    which : {B : Type 0} (a : TargetAction) → Contains (collect ∷ forgo ∷ actions) a → (collect ≡ a → B) → (forgo ≡ a → B) → (Contains actions a → B) → B
    which a member one two more = elim (head_or_tail collect (forgo ∷ actions) a member) [
      | inl is ↦ one is
      | inr other ↦ elim (head_or_tail forgo actions a other) [ inl is ↦ two is | inr later ↦ more later ]
    ]

    collect_here : (place : ℕ) (state : State) (a : TargetAction) → IsSingleAt first count place state → collect ≡ a → truth state a.pre ≡ true → (number + 1 ≡ place) × (truth state instance.accept ≡ true)
    collect_here place state a single is fits = fits_here first count place (number + 1) _ _ _ _ collect state settled.collects (let r = room in omega (arith, r)) single (subst (λ b. truth state b.pre ≡ true) (sym is) fits)

    forgo_here : (place : ℕ) (state : State) (a : TargetAction) → IsSingleAt first count place state → forgo ≡ a → truth state a.pre ≡ true → (number + 1 ≡ place) × (not (truth state instance.accept) ≡ true)
    forgo_here place state a single is fits = fits_here first count place (number + 1) _ _ _ _ forgo state settled.forgoes (let r = room in omega (arith, r)) single (subst (λ b. truth state b.pre ≡ true) (sym is) fits)

    -- behind this instance, the actions that fit are those of the others
    behind_it : ((place : ℕ) (state : State) (a : TargetAction) → IsSingleAt first count place state → number < place → Contains phase.actions a → truth state a.pre ≡ true → Contains (collect ∷ forgo ∷ actions) a)
        → (place : ℕ) (state : State) (a : TargetAction) → IsSingleAt first count place state → number + 1 < place → Contains phase.actions a → truth state a.pre ≡ true → Contains actions a
    behind_it outside place state a single behind member fits = which a (outside place state a single (omega (arith, behind)) member fits)
        (λ is. absurd (let here = collect_here place state a single is fits in omega (arith, here.0, behind)))
        (λ is. absurd (let here = forgo_here place state a single is fits in omega (arith, here.0, behind)))
        (λ more. more)

    module _ (inside : (a : TargetAction) → Contains (collect ∷ forgo ∷ actions) a → Contains phase.actions a)
        (outside : (place : ℕ) (state : State) (a : TargetAction) → IsSingleAt first count place state → number < place → Contains phase.actions a → truth state a.pre ≡ true → Contains (collect ∷ forgo ∷ actions) a)
        (state : State) (single : IsSingleAt first count (number + 1) state)
        (rest : OneEnd phase (length instances) (violation state instances) (moved state (first + (number + 1)))) where
      none_later : {B : Type 0} (a : TargetAction) → Contains actions a → truth state a.pre ≡ true → B
      none_later a member fits = let behind : number + 1 < number + 1 = fits_later first count (number + 1) instances actions others room (number + 1) state a single member fits in absurd (omega (arith, behind))

      settle_one : (holds : Bool) → truth state instance.accept ≡ holds → OneEnd phase (length (instance ∷ instances)) (violation state (instance ∷ instances)) state
      settle_one true e =
          let total : collect.cost + violation state instances ≡ violation state (instance ∷ instances) =
          ap (λ n. n + violation state instances) (settled.collects.costs ∙ ap (λ holds. cond holds 0 instance.weight) (sym e)) ∙ sym (sum_by-cons (weight_in state) instance instances) in
          let fits : truth state collect.pre ≡ true = settled.collects.fits state ∙ (λ i. single.here i && e i) in
          subst (λ cost. OneEnd phase (length (instance ∷ instances)) cost state) total
          (one_more (number + 1) (length instances) (violation state instances) state collect single early (inside collect (is_head collect (forgo ∷ actions))) fits
          (λ other member fit. which other (outside (number + 1) state other single (omega arith) member fit) (λ is. is)
          (λ is. absurd (let here = forgo_here (number + 1) state other single is fit in true≢false (sym here.1 ∙ ap not e)))
          (λ more. none_later other more fit))
          (subst (λ effects. OneEnd phase (length instances) (violation state instances) (after state effects)) (sym settled.collects.moves) rest))
      settle_one false e =
          let total : forgo.cost + violation state instances ≡ violation state (instance ∷ instances) =
          ap (λ n. n + violation state instances) (settled.forgoes.costs ∙ ap (λ holds. cond holds 0 instance.weight) (sym e)) ∙ sym (sum_by-cons (weight_in state) instance instances) in
          let fits : truth state forgo.pre ≡ true = settled.forgoes.fits state ∙ (λ i. single.here i && not (e i)) in
          subst (λ cost. OneEnd phase (length (instance ∷ instances)) cost state) total
          (one_more (number + 1) (length instances) (violation state instances) state forgo single early (inside forgo (is_behind collect (forgo ∷ actions) forgo (is_head forgo actions))) fits
          (λ other member fit. which other (outside (number + 1) state other single (omega arith) member fit)
          (λ is. absurd (let here = collect_here (number + 1) state other single is fit in true≢false (sym here.1 ∙ e)))
          (λ is. is)
          (λ more. none_later other more fit))
          (subst (λ effects. OneEnd phase (length instances) (violation state instances) (after state effects)) (sym settled.forgoes.moves) rest))

  -- the instances from a number on, where the first atom of their part of the chain is set
  settle : (number : ℕ) (instances : List SoftEnd) (actions : List TargetAction) → Settles first number instances actions → last ≡ number + length instances + 1 → AreBelow first instances
      → ((a : TargetAction) → Contains actions a → Contains phase.actions a)
      → ((place : ℕ) (state : State) (a : TargetAction) → IsSingleAt first count place state → number < place → Contains phase.actions a → truth state a.pre ≡ true → Contains actions a)
      → (state : State) → IsSingleAt first count (number + 1) state → OneEnd phase (length instances) (violation state instances) state
  settle number [] [] settles last_eq below inside outside state single =
      let here : number + 1 ≡ last = omega (arith, last_eq) in
      at_the_end state (subst (λ place. IsSingleAt first count place state) here single) (λ a member fits. in_none a (outside (number + 1) state a single (omega arith) member fits))
  settle number [] (action ∷ actions) settles last_eq below inside outside state single = absurd settles
  settle number (instance ∷ instances) [] settles last_eq below inside outside state single = absurd settles
  settle number (instance ∷ instances) (action ∷ []) settles last_eq below inside outside state single = absurd settles
  settle number (instance ∷ instances) (collect ∷ forgo ∷ actions) settles last_eq below inside outside state single =
      settle_one number instance instances collect forgo actions settles.0 settles.1 last_eq inside outside state single
      (subst (λ cost. OneEnd phase (length instances) cost (moved state (first + (number + 1)))) (moved_violation first count (number + 1) state single instances below.1)
      (settle (number + 1) instances actions settles.1 (let e = last_eq in omega (arith, e)) below.1
      (λ a member. inside a (is_behind collect (forgo ∷ actions) a (is_behind forgo actions a member)))
      (behind_it number instance instances collect forgo actions settles.0 settles.1 last_eq outside)
      (moved state (first + (number + 1))) (moved_single first count (number + 1) state single (let e = last_eq in omega (arith, e, last_is)))))
      (truth state instance.accept) refl

-- ---- the whole phase

module _ (finish : Form) (instances : List SoftEnd) (first : ℕ) (phase : EndPhase) (shape : IsEndPhase finish instances first phase) where
  abbrev last : ℕ
  last = 1 + length instances

  last_is : phase.atoms ≡ last + 1
  last_is = let count = shape.count in omega (arith, count)

  -- the finishing action stands before the others
  record Parts : Type 0 where
    head : TargetAction
    tail : List TargetAction
    are : phase.actions ≡ head ∷ tail
    finishes : IsMove (first + 0) finish (λ state. truth state finish) (codes "finish") 0 head
    settles : Settles first 0 instances tail

  parts : Parts
  parts = by phase.actions refl shape.settles
    where
      by : (actions : List TargetAction) → phase.actions ≡ actions → AreActions first finish instances actions → Parts
      by [] e are = absurd are
      by (action ∷ actions) e are = record { head = action; tail = actions; are = e; finishes = are.0; settles = are.1 }

  of_all : (a : TargetAction) → Contains phase.actions a → Contains (parts.head ∷ parts.tail) a
  of_all a member = subst (λ actions. Contains actions a) parts.are member

  to_all : (a : TargetAction) → Contains (parts.head ∷ parts.tail) a → Contains phase.actions a
  to_all a member = subst (λ actions. Contains actions a) (sym parts.are) member

  finish_here : (place : ℕ) (state : State) (a : TargetAction) → IsSingleAt first phase.atoms place state → parts.head ≡ a → truth state a.pre ≡ true → (0 ≡ place) × (truth state finish ≡ true)
  finish_here place state a single is fits = fits_here first phase.atoms place 0 _ _ _ _ parts.head state parts.finishes (omega (arith, last_is)) single (subst (λ b. truth state b.pre ≡ true) (sym is) fits)

  pub one_end : AreBelow first instances → (state : State) → IsSingleAt first phase.atoms 0 state → truth state finish ≡ true → HasOneEnd phase instances state
  one_end below state single holds = record { plan = one.plan; ends = one.ends; steps = let count = one.count in omega (arith, count); cost = one.costs ∙ (let free = parts.finishes.costs in omega (arith, free)); only = one.only }
    where
      settled : OneEnd phase (length instances) (violation state instances) (moved state (first + 0))
      settled = subst (λ cost. OneEnd phase (length instances) cost (moved state (first + 0))) (moved_violation first phase.atoms 0 state single instances below)
          (settle phase first phase.atoms last shape.reached last_is 0 instances parts.tail parts.settles (omega arith) below (λ a member. to_all a (is_behind parts.head parts.tail a member))
          (λ place other a alone behind member fits. elim (head_or_tail parts.head parts.tail a (of_all a member)) [
            | inl is ↦ absurd (let here = finish_here place other a alone is fits in omega (arith, here.0, behind))
            | inr later ↦ later
          ])
          (moved state (first + 0)) (moved_single first phase.atoms 0 state single (omega (arith, last_is))))

      one : OneEnd phase (suc (length instances)) (parts.head.cost + violation state instances) state
      one = one_more phase first phase.atoms last shape.reached last_is 0 (length instances) (violation state instances) state parts.head single (λ same. omega (arith, same)) (to_all parts.head (is_head parts.head parts.tail))
          (parts.finishes.fits state ∙ (λ i. single.here i && holds i))
          (λ other member fits. elim (head_or_tail parts.head parts.tail other (of_all other member)) [
            | inl is ↦ is
            | inr later ↦ absurd (let behind = fits_later first phase.atoms 0 instances parts.tail parts.settles (omega (arith, last_is)) 0 state other single later fits in omega (arith, behind))
          ])
          (subst (λ effects. OneEnd phase (length instances) (violation state instances) (after state effects)) (sym parts.finishes.moves) settled)

  pub no_end : (state : State) → IsSingleAt first phase.atoms 0 state → truth state finish ≡ false → (plan : List TargetAction) → Ends phase state plan → ⊥
  no_end state single fails [] goal = no_goal phase first phase.atoms last shape.reached last_is 0 state single (λ same. omega (arith, same)) goal
  no_end state single fails (a ∷ plan) ends = elim (head_or_tail parts.head parts.tail a (of_all a ends.0)) [
    | inl is ↦ let here = finish_here 0 state a single is ends.1 in true≢false (sym here.1 ∙ fails)
    | inr later ↦ let behind = fits_later first phase.atoms 0 instances parts.tail parts.settles (omega (arith, last_is)) 0 state a single later ends.1 in omega (arith, behind)
  ]

  -- ---- one action at most fits

  module _ (place : ℕ) (state : State) (single : IsSingleAt first phase.atoms place state) where
    -- two that fit are the same, among those that settle instances
    one_settles : (number : ℕ) (others : List SoftEnd) (actions : List TargetAction) → Settles first number others actions → last ≡ number + length others + 1
        → (one two : TargetAction) → Contains actions one → Contains actions two → truth state one.pre ≡ true → truth state two.pre ≡ true → one ≡ two
    one_settles number [] [] settles last_eq one two first_in second_in fits fit = in_none one first_in
    one_settles number [] (action ∷ actions) settles last_eq one two first_in second_in fits fit = absurd settles
    one_settles number (instance ∷ others) [] settles last_eq one two first_in second_in fits fit = absurd settles
    one_settles number (instance ∷ others) (action ∷ []) settles last_eq one two first_in second_in fits fit = absurd settles
    one_settles number (instance ∷ others) (collect ∷ forgo ∷ actions) settles last_eq one two first_in second_in fits fit =
        which_of one first_in
        (λ is. which_of two second_in (λ same. sym is ∙ same)
        (λ other. absurd (true≢false (sym (forgoes two other fit).1 ∙ ap not (collects one is fits).1)))
        (λ more. absurd (let here = collects one is fits in let behind = tail_later two more fit in omega (arith, here.0, behind))))
        (λ is. which_of two second_in (λ other. absurd (true≢false (sym (forgoes one is fits).1 ∙ ap not (collects two other fit).1)))
        (λ same. sym is ∙ same)
        (λ more. absurd (let here = forgoes one is fits in let behind = tail_later two more fit in omega (arith, here.0, behind))))
        (λ more. which_of two second_in
        (λ is. absurd (let here = collects two is fit in let behind = tail_later one more fits in omega (arith, here.0, behind)))
        (λ is. absurd (let here = forgoes two is fit in let behind = tail_later one more fits in omega (arith, here.0, behind)))
        (λ other. one_settles (number + 1) others actions settles.1 (omega (arith, last_eq)) one two more other fits fit))
      where
        which_of : {B : Type 0} (a : TargetAction) → Contains (collect ∷ forgo ∷ actions) a → (collect ≡ a → B) → (forgo ≡ a → B) → (Contains actions a → B) → B
        which_of = which phase first phase.atoms last shape.reached last_is number instance others collect forgo actions settles.0 settles.1 last_eq

        collects : (a : TargetAction) → collect ≡ a → truth state a.pre ≡ true → (number + 1 ≡ place) × (truth state instance.accept ≡ true)
        collects a = collect_here phase first phase.atoms last shape.reached last_is number instance others collect forgo actions settles.0 settles.1 last_eq place state a single

        forgoes : (a : TargetAction) → forgo ≡ a → truth state a.pre ≡ true → (number + 1 ≡ place) × (not (truth state instance.accept) ≡ true)
        forgoes a = forgo_here phase first phase.atoms last shape.reached last_is number instance others collect forgo actions settles.0 settles.1 last_eq place state a single

        tail_later : (a : TargetAction) → Contains actions a → truth state a.pre ≡ true → number + 1 < place
        tail_later a more fits = fits_later first phase.atoms (number + 1) others actions settles.1 (omega (arith, last_eq, last_is)) place state a single more fits

    -- the set atom moves on with the action that fits
    moved_on : (at : ℕ) (source : Form) (condition : State → Bool) (name : List ℕ) (cost : ℕ) (a : TargetAction) → IsMove (first + at) source condition name cost a → at < last → truth state a.pre ≡ true → IsSingleAt first phase.atoms (place + 1) (after state a.effects)
    moved_on at source condition name cost a move before fits =
        let here : at ≡ place = (fits_here first phase.atoms place at source condition name cost a state move (omega (arith, before, last_is)) single fits).0 in
        subst (λ effects. IsSingleAt first phase.atoms (place + 1) (after state effects)) (sym (move.moves ∙ ap (λ p. moving (first + p)) here))
        (moved_single first phase.atoms place state single (omega (arith, before, here, last_is)))

    settling_moves : (number : ℕ) (others : List SoftEnd) (actions : List TargetAction) → Settles first number others actions → last ≡ number + length others + 1
        → (a : TargetAction) → Contains actions a → truth state a.pre ≡ true → IsSingleAt first phase.atoms (place + 1) (after state a.effects)
    settling_moves number [] [] settles last_eq a member fits = in_none a member
    settling_moves number [] (action ∷ actions) settles last_eq a member fits = absurd settles
    settling_moves number (instance ∷ others) [] settles last_eq a member fits = absurd settles
    settling_moves number (instance ∷ others) (action ∷ []) settles last_eq a member fits = absurd settles
    settling_moves number (instance ∷ others) (collect ∷ forgo ∷ actions) settles last_eq a member fits =
        which phase first phase.atoms last shape.reached last_is number instance others collect forgo actions settles.0 settles.1 last_eq a member
        (λ is. moved_on (number + 1) _ _ _ _ a (subst (IsMove _ _ _ _ _) is settles.0.collects) (omega (arith, last_eq)) fits)
        (λ is. moved_on (number + 1) _ _ _ _ a (subst (IsMove _ _ _ _ _) is settles.0.forgoes) (omega (arith, last_eq)) fits)
        (λ more. settling_moves (number + 1) others actions settles.1 (omega (arith, last_eq)) a more fits)

    tail_late : (a : TargetAction) → Contains parts.tail a → truth state a.pre ≡ true → 0 < place
    tail_late a more fits = fits_later first phase.atoms 0 instances parts.tail parts.settles (omega (arith, last_is)) place state a single more fits

    pub one_fits : (one other : TargetAction) → Contains phase.actions one → Contains phase.actions other → truth state one.pre ≡ true → truth state other.pre ≡ true → one ≡ other
    one_fits one other first_in second_in fits fit =
        elim (head_or_tail parts.head parts.tail one (of_all one first_in)) [
          | inl is ↦ elim (head_or_tail parts.head parts.tail other (of_all other second_in)) [
            | inl same ↦ sym is ∙ same
            | inr more ↦ absurd (let here = finish_here place state one single is fits in let behind = tail_late other more fit in omega (arith, here.0, behind))
          ]
          | inr more ↦ elim (head_or_tail parts.head parts.tail other (of_all other second_in)) [
            | inl is ↦ absurd (let here = finish_here place state other single is fit in let behind = tail_late one more fits in omega (arith, here.0, behind))
            | inr too ↦ one_settles 0 instances parts.tail parts.settles (omega arith) one other more too fits fit
          ]
        ]

    pub moves_on : (action : TargetAction) → Contains phase.actions action → truth state action.pre ≡ true → IsSingleAt first phase.atoms (place + 1) (after state action.effects)
    moves_on action member fits = elim (head_or_tail parts.head parts.tail action (of_all action member)) [
      | inl is ↦ moved_on 0 _ _ _ _ action (subst (IsMove _ _ _ _ _) is parts.finishes) (omega arith) fits
      | inr more ↦ settling_moves 0 instances parts.tail parts.settles (omega arith) action more fits
    ]
