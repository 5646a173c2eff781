-- The least model gives the least closed set; and what is not in a closed set is false in every reachable state.
use Rattle.std.proofs.Common.{◌≡◌, ◌∙◌, ℕ, zero, suc, ◌+◌, ◌<◌, ◌≤◌, nat_lt, ◌==◌, Bool, true, false, not, ◌&&◌, ◌||◌, List, [], ◌∷◌, ◌++◌, map, length, take, drop, get_or, refl, sym, ap, subst, arith}
use Rattle.std.specs.List.{list_any, list_all}
use Rattle.std.proofs.lemmas.Bool.{and_parts, or_right, not-true, not-false, false_from_ne_true, true≢false}
use Rattle.std.proofs.lemmas.Bool.Decides.{nat_tests}
use Rattle.std.proofs.lemmas.List.{get_or_append_left, get_or_at, get_or-take, get_or-map, length-take-le, length_push, take-append-drop}
use Rattle.std.proofs.lemmas.List.Elements.{All-contains}
use Rattle.std.proofs.lemmas.Option.{get_or_from_slice_get, slice_get_within}
use Rattle.std.proofs.lemmas.List.Sums.{AllPass-from_list_all}
use mathlib.Core.Former.{Count}
use Rattle.p3_formula.specs.Conditions.{is_step_below}
use Rattle.p3_formula.specs.Folds.{fold_forms}
use Rattle.p3_formula.specs.Forms.{State, is_set, truth, truth_layer}
use Rattle.p3_formula.specs.Next.{after, is_added, is_deleted}
use Rattle.p3_formula.specs.declared.form.Change.{Change}
use Rattle.p3_formula.specs.declared.form.Form.{Form, Row_of-Form, end_of-Form, more_of-Form}
use Rattle.p3_formula.specs.declared.form.Form.TheVariants.{True, False, Atom, Not', And', Or'}
use Rattle.p3_formula.specs.declared.task.GroundStep.{GroundStep}
use Rattle.p3_formula.specs.declared.task.GroundTask.{GroundTask}
use Rattle.p3_formula.proofs.NextLaws.{is_set-after, is_set-beyond}
use Rattle.p3_reach.specs.May.{may, may_layer, may_hold, may_fail}
use Rattle.p3_reach.specs.Closed.{IsWithin, change_keeps, step_keeps, IsClosed, IsReachable, Initial, Further, IsUnmarked}
use Rattle.p3_reach.specs.Models.{IsModel, Says}
use Rattle.p3_reach.specs.declared.reach.Marks.{Marks}
use Rattle.p3_reach.specs.declared.rules.Theory.{Theory}
use Rattle.p3_reach.proofs.DerivedLaws.{is_set-within}
use Rattle.p3_reach.proofs.LeadLaws.{steps_read}

-- ---- the least closed set

within_cons : (bit other : Bool) (first second : State) → (bit ≡ true → other ≡ true) → IsWithin first second → IsWithin (bit ∷ first) (other ∷ second)
within_cons bit other first second here within zero has = here has
within_cons bit other first second here within (suc atom) has = within atom has

within_push : (first second : State) → length first ≡ length second → IsWithin first second → IsWithin (first ++ true ∷ []) (second ++ true ∷ [])
within_push [] [] same within = λ atom has. has
within_push [] (bit ∷ second) same within = absurd (omega (arith, same))
within_push (bit ∷ first) [] same within = absurd (omega (arith, same))
within_push (bit ∷ first) (other ∷ second) same within = within_cons bit other (first ++ true ∷ []) (second ++ true ∷ []) (within zero)
    (within_push first second (omega (arith, same)) (λ a h. within (suc a) h))

gives : (has other : Bool) → (not has || other) ≡ true → has ≡ true → other ≡ true
gives true other kept h = kept
gives false other kept h = absurd (cc)

module _ (G : GroundTask) (base theory : Theory) (held : State) (bits : length G.initial ≡ G.atoms) (below : list_all (is_step_below G.atoms) G.steps ≡ true)
    (facts : base.facts ≡ G.initial ++ true ∷ []) (rules : base.rules ≡ [])
    (said : Says (λ set. not (is_set set G.atoms) || list_all (step_keeps set) G.steps) base theory) (size : length held ≡ length theory.facts) where
  room : G.atoms ≤ length held
  room = let grows = said.grows in let first = ap length facts in let push = length_push G.initial true in omega (arith, bits, grows, first, push, size)

  pub closed_front : IsModel theory held → IsClosed G (take G.atoms held)
  closed_front model = record {
    size = length-take-le G.atoms held room;
    initial = λ atom has.
        let inside = is_set-within G.initial atom has in
        get_or-take G.atoms held atom false (omega (arith, inside, bits))
        ∙ earlier.has_facts atom (ap (λ list. is_set list atom) facts ∙ get_or_append_left G.initial (true ∷ []) false atom inside ∙ has);
    steps = sym (steps_read G.atoms G.atoms G.steps (omega arith) below (take G.atoms held) (drop G.atoms held) (omega (arith, length-take-le G.atoms held room)))
        ∙ ap (λ set. list_all (step_keeps set) G.steps) (take-append-drop G.atoms held)
        ∙ gives (is_set held G.atoms) (list_all (step_keeps held) G.steps) (said.says held model).1
        (earlier.has_facts G.atoms (ap (λ list. is_set list G.atoms) facts ∙ get_or_at G.initial true [] false G.atoms bits));
  }
    where
      earlier : IsModel base held
      earlier = (said.says held model).0

  pub least_front : ((other : State) → IsModel theory other → IsWithin held other) → (other : State) → IsClosed G other → IsWithin (take G.atoms held) other
  least_front least other closed atom has =
      let set : State = other ++ true ∷ [] in
      let long : length set ≡ length base.facts = length_push other true ∙ ap (λ n. n + 1) (closed.size ∙ sym bits) ∙ sym (length_push G.initial true) ∙ sym (ap length facts) in
      let model : IsModel base set = record {
        has_facts = subst (λ list. IsWithin list set) (sym facts) (within_push G.initial other (bits ∙ sym closed.size) closed.initial);
        keeps = ap (list_all _) rules;
      } in
      let kept : list_all (step_keeps set) G.steps ≡ true = steps_read G.atoms G.atoms G.steps (omega arith) below other (true ∷ []) (omega (arith, closed.size)) ∙ closed.steps in
      let grown = said.adds set long model (or_right (not (is_set set G.atoms)) (list_all (step_keeps set) G.steps) kept) in
      let inside : atom < G.atoms = let a = is_set-within (take G.atoms held) atom has in omega (arith, a, length-take-le G.atoms held room) in
      let here : is_set held atom ≡ true = sym (get_or-take G.atoms held atom false inside) ∙ has in
      let same = closed.size in
      sym (get_or_append_left other (true ∷ []) false atom (omega (arith, inside, same)))
      ∙ sym (get_or_append_left set grown.more false atom (let push = length_push other true in omega (arith, inside, same, push)))
      ∙ least (set ++ grown.more) grown.model atom here

-- ---- what holds may hold

and-to : (a b c d : Bool) → (a ≡ true → c ≡ true) → (b ≡ true → d ≡ true) → (a && b) ≡ true → (c && d) ≡ true
and-to true b c d f g h = ap (λ x. x && d) (f refl) ∙ g h
and-to false b c d f g h = absurd (cc)

or-to : (a b c d : Bool) → (a ≡ true → c ≡ true) → (b ≡ true → d ≡ true) → (a || b) ≡ true → (c || d) ≡ true
or-to true b c d f g h = ap (λ x. x || d) (f refl)
or-to false b true d f g h = refl
or-to false b false d f g h = g h

and-not : (a b c d : Bool) → (a ≡ false → c ≡ true) → (b ≡ false → d ≡ true) → (a && b) ≡ false → (c || d) ≡ true
and-not false b c d f g h = ap (λ x. x || d) (f refl)
and-not true b true d f g h = refl
and-not true b false d f g h = g h

or-not : (a b c d : Bool) → (a ≡ false → c ≡ true) → (b ≡ false → d ≡ true) → (a || b) ≡ false → (c && d) ≡ true
or-not false b c d f g h = ap (λ x. x && d) (f refl) ∙ g h
or-not true b c d f g h = absurd (cc)

pub has-of : (asked has : Bool) → (not asked || has) ≡ true → asked ≡ true → has ≡ true
has-of true has kept h = kept
has-of false has kept h = absurd (cc)

-- what holds may hold, and what fails may fail
module _ (state set : State) (within : IsWithin state set) where
  mutual
    unfolding truth may

    pub truth-may : (form : Form) → truth state form ≡ true → may_hold set form ≡ true
    truth-may True h = refl
    truth-may False h = h
    truth-may (Atom atom) h = within atom h
    truth-may (Not' shape (more_of-Form part rest)) h = false-may part (not-true (truth state part) h)
    truth-may (And' shape parts) h = all-true parts h
    truth-may (Or' shape parts) h = any-true parts h

    pub false-may : (form : Form) → truth state form ≡ false → may_fail set form ≡ true
    false-may True h = absurd (cc)
    false-may False h = refl
    false-may (Atom atom) h = refl
    false-may (Not' shape (more_of-Form part rest)) h = truth-may part (not-false (truth state part) h)
    false-may (And' shape parts) h = any-false parts h
    false-may (Or' shape parts) h = all-false parts h

    all-true : {n : Count} (parts : Row_of-Form n) → list_all (λ part. part) (fold_forms (truth_layer state) parts) ≡ true → list_all (λ (part : Bool × Bool). part.0) (fold_forms (may_layer set) parts) ≡ true
    all-true end_of-Form h = refl
    all-true (more_of-Form part rest) h = and-to _ _ _ _ (truth-may part) (all-true rest) h

    any-true : {n : Count} (parts : Row_of-Form n) → list_any (λ part. part) (fold_forms (truth_layer state) parts) ≡ true → list_any (λ (part : Bool × Bool). part.0) (fold_forms (may_layer set) parts) ≡ true
    any-true end_of-Form h = h
    any-true (more_of-Form part rest) h = or-to _ _ _ _ (truth-may part) (any-true rest) h

    any-false : {n : Count} (parts : Row_of-Form n) → list_all (λ part. part) (fold_forms (truth_layer state) parts) ≡ false → list_any (λ (part : Bool × Bool). part.1) (fold_forms (may_layer set) parts) ≡ true
    any-false end_of-Form h = absurd (cc)
    any-false (more_of-Form part rest) h = and-not _ _ _ _ (false-may part) (any-false rest) h

    all-false : {n : Count} (parts : Row_of-Form n) → list_any (λ part. part) (fold_forms (truth_layer state) parts) ≡ false → list_all (λ (part : Bool × Bool). part.1) (fold_forms (may_layer set) parts) ≡ true
    all-false end_of-Form h = refl
    all-false (more_of-Form part rest) h = or-not _ _ _ _ (false-may part) (all-false rest) h

  -- a change that is made adds what the set has
  pub added-within : (effects : List Change) (atom : ℕ) → list_all (change_keeps set) effects ≡ true → is_added state effects atom ≡ true → is_set set atom ≡ true
  added-within [] atom kept h = absurd (cc)
  added-within (change ∷ rest) atom kept h =
      let parts = and_parts (change_keeps set change) (list_all (change_keeps set) rest) kept in
      by (change.atom == atom) (change.add && truth state change.cond) refl refl parts h (λ more. added-within rest atom parts.1 more)
    where
      by : (named made : Bool) → (change.atom == atom) ≡ named → (change.add && truth state change.cond) ≡ made
          → (change_keeps set change ≡ true) × (list_all (change_keeps set) rest ≡ true) → is_added state (change ∷ rest) atom ≡ true → (is_added state rest atom ≡ true → is_set set atom ≡ true) → is_set set atom ≡ true
      by true true same made parts h again =
          let both = and_parts change.add (truth state change.cond) made in
          let may = ap (λ a. a && may_hold set change.cond) both.0 ∙ truth-may change.cond both.1 in
          let has = has-of (change.add && may_hold set change.cond) (is_set set change.atom) parts.0 may in
          let equal : change.atom ≡ atom = grind (arith, nat_tests) in
          sym (ap (is_set set) equal) ∙ has
      by true false same made parts h again = again (sym (ap (λ n. n && change.add && truth state change.cond || is_added state rest atom) same ∙ ap (λ m. m || is_added state rest atom) made) ∙ h)
      by false made' same made parts h again = again (sym (ap (λ n. n && change.add && truth state change.cond || is_added state rest atom) same) ∙ h)

  after-one : (added set' deleted has : Bool) → (added ≡ true → has ≡ true) → (set' ≡ true → has ≡ true) → (added || set' && not deleted) ≡ true → has ≡ true
  after-one true set' deleted has f g h = f refl
  after-one false true deleted has f g h = g refl
  after-one false false deleted has f g h = absurd (cc)

  -- a step that fits leads from a state within a closed set to one within it
  pub step-within : (step : GroundStep) → step_keeps set step ≡ true → truth state step.pre ≡ true → IsWithin (after state step.effects) set
  step-within step kept fits atom h = by (nat_lt atom (length state)) refl where
    by : (b : Bool) → nat_lt atom (length state) ≡ b → is_set set atom ≡ true
    by true inside =
        after-one (is_added state step.effects atom) (is_set state atom) (is_deleted state step.effects atom) (is_set set atom)
        (added-within step.effects atom (has-of _ _ kept (truth-may step.pre fits))) (within atom)
        (sym (is_set-after state step.effects atom (grind (arith, nat_tests))) ∙ h)
    by false beyond = within atom (sym (is_set-beyond state step.effects atom (grind (arith, nat_tests))) ∙ h)

-- every reachable state is within a closed set
pub reached : (G : GroundTask) (set : State) → IsClosed G set → (state : State) → IsReachable G state → IsWithin state set
reached G set closed state (Initial _ is) = λ atom has. closed.initial atom (sym (ap (λ s. is_set s atom) is) ∙ has)
reached G set closed state (Further before _ step reach known fits is) = subst (λ s. IsWithin s set) (sym is)
    (step-within before set (reached G set closed before reach) step
    (All-contains (λ s. step_keeps set s ≡ true) G.steps step (AllPass-from_list_all (step_keeps set) G.steps closed.steps) known) fits)

-- a step without a mark fits in none
pub unfit : (G : GroundTask) (marks : Marks) → IsClosed G marks.atoms → marks.steps ≡ map (λ (step : GroundStep). may_hold marks.atoms step.pre) G.steps
    → (state : State) (step : GroundStep) → IsReachable G state → IsUnmarked G marks step → truth state step.pre ≡ false
unfit G marks closed steps state step reach unmarked = false_from_ne_true (truth state step.pre) (λ holds. true≢false (sym (truth-may state marks.atoms (reached G marks.atoms closed state reach) step.pre holds) ∙ lacks))
  where
    here : get_or G.steps unmarked.place step ≡ step
    here = get_or_from_slice_get G.steps unmarked.place step step unmarked.here

    lacks : may_hold marks.atoms step.pre ≡ false
    lacks = ap (λ (s : GroundStep). may_hold marks.atoms s.pre) (sym here)
        ∙ sym (get_or-map (λ (s : GroundStep). may_hold marks.atoms s.pre) G.steps unmarked.place step true (slice_get_within G.steps unmarked.place step unmarked.here))
        ∙ sym (ap (λ list. get_or list unmarked.place true) steps) ∙ unmarked.unmarked
