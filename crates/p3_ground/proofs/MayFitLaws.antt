-- Without the steps that cannot fit over the least closed set, each step may fit over every closed set.
use Rattle.std.proofs.Common.{◌≡◌, ◌∙◌, ℕ, ◌<◌, Bool, true, false, not, ◌&&◌, ◌||◌, List, [], ◌∷◌, map, length, refl, sym, arith, cond}
use Rattle.std.specs.List.{list_all, range_with_len}
use Rattle.std.proofs.lemmas.Bool.{and_parts, and_from, true≢false}
use Rattle.std.proofs.lemmas.List.Elements.{filter_passes}
use Rattle.std.proofs.lemmas.List.FromFn.{length-map-range_with_len, get_or-map-range_with_len}
use Rattle.p3_formula.specs.Forms.{State, is_set}
use Rattle.p3_formula.specs.declared.form.Change.{Change}
use Rattle.p3_formula.specs.declared.task.GroundStep.{GroundStep}
use Rattle.p3_formula.specs.declared.task.GroundTask.{GroundTask}
use Rattle.p3_reach.specs.May.{may_hold}
use Rattle.p3_reach.specs.Closed.{IsWithin, IsClosed, IsInEachClosed, change_keeps, step_keeps}
use Rattle.p3_reach.proofs.DerivedLaws.{is_set-within}
use Rattle.p3_ground.specs.Pruned.{steps_over, pruned}
use Rattle.p3_ground.specs.Sparse.{MayFit}
use Rattle.p3_reach.proofs.MayGrows.{hold-grows}

-- not asked, or else it is so
asked-from : (asked is : Bool) → (asked ≡ true → is ≡ true) → (not asked || is) ≡ true
asked-from true is f = f refl
asked-from false is f = refl

is-asked : (asked is : Bool) → (not asked || is) ≡ true → asked ≡ true → is ≡ true
is-asked true is h e = h
is-asked false is h e = absurd (true≢false (sym e))

module _ (G : GroundTask) (least set : State) (closed : IsClosed G least) (also : IsClosed (pruned least G) set) where
  -- the atoms of both
  both : State
  both = map (λ atom. is_set least atom && is_set set atom) (range_with_len 0 G.atoms)

  both-is : (atom : ℕ) → atom < G.atoms → is_set both atom ≡ (is_set least atom && is_set set atom)
  unfolding both
  both-is atom lt = get_or-map-range_with_len (λ atom. is_set least atom && is_set set atom) 0 G.atoms atom atom false lt (omega arith)

  both-long : length both ≡ G.atoms
  unfolding both
  both-long = length-map-range_with_len (λ atom. is_set least atom && is_set set atom) 0 G.atoms

  in_both : (atom : ℕ) → is_set least atom ≡ true → is_set set atom ≡ true → is_set both atom ≡ true
  in_both atom a b = both-is atom (let lt = is_set-within least atom a in let l = closed.size in omega (arith, lt, l)) ∙ and_from _ _ a b

  parts_of : (atom : ℕ) → is_set both atom ≡ true → (is_set least atom ≡ true) × (is_set set atom ≡ true)
  parts_of atom h = and_parts _ _ (sym (both-is atom (let lt = is_set-within both atom h in let l = both-long in omega (arith, lt, l))) ∙ h)

  in_least : IsWithin both least
  in_least atom h = (parts_of atom h).0

  in_set : IsWithin both set
  in_set atom h = (parts_of atom h).1

  one_change : (change : Change) → change_keeps least change ≡ true → change_keeps set change ≡ true → change_keeps both change ≡ true
  one_change change first second = asked-from (change.add && may_hold both change.cond) (is_set both change.atom) (λ h.
      let parts = and_parts _ _ h in
      in_both change.atom
      (is-asked (change.add && may_hold least change.cond) (is_set least change.atom) first (and_from _ _ parts.0 (hold-grows both least in_least change.cond parts.1)))
      (is-asked (change.add && may_hold set change.cond) (is_set set change.atom) second (and_from _ _ parts.0 (hold-grows both set in_set change.cond parts.1))))

  all_changes : (changes : List Change) → list_all (change_keeps least) changes ≡ true → list_all (change_keeps set) changes ≡ true → list_all (change_keeps both) changes ≡ true
  all_changes [] first second = refl
  all_changes (change ∷ changes) first second =
      let a = and_parts _ _ first in
      let b = and_parts _ _ second in
      and_from _ _ (one_change change a.0 b.0) (all_changes changes a.1 b.1)

  one_step : (made : GroundStep) → step_keeps least made ≡ true → (may_hold least made.pre ≡ true → step_keeps set made ≡ true) → step_keeps both made ≡ true
  one_step made first second = asked-from (may_hold both made.pre) (list_all (change_keeps both) made.effects) (λ h.
      let may_first = hold-grows both least in_least made.pre h in
      all_changes made.effects (is-asked (may_hold least made.pre) _ first may_first) (is-asked (may_hold set made.pre) _ (second may_first) (hold-grows both set in_set made.pre h)))

  all_steps : (steps : List GroundStep) → list_all (step_keeps least) steps ≡ true → list_all (step_keeps set) (steps_over least steps) ≡ true → list_all (step_keeps both) steps ≡ true
  all_steps [] first second = refl
  all_steps (made ∷ steps) first second = by (may_hold least made.pre) refl second (all_steps steps a.1)
    where
      a : (step_keeps least made ≡ true) × (list_all (step_keeps least) steps ≡ true)
      a = and_parts _ _ first

      by : (t : Bool) → may_hold least made.pre ≡ t → list_all (step_keeps set) (cond t (made ∷ steps_over least steps) (steps_over least steps)) ≡ true
          → (list_all (step_keeps set) (steps_over least steps) ≡ true → list_all (step_keeps both) steps ≡ true) → list_all (step_keeps both) (made ∷ steps) ≡ true
      by true may second rest = let b = and_parts _ _ second in and_from _ _ (one_step made a.0 (λ h. b.0)) (rest b.1)
      by false never second rest = and_from _ _ (one_step made a.0 (λ h. absurd (true≢false (sym h ∙ never)))) (rest second)

  both_closed : IsClosed G both
  both_closed = record {
    size = both-long;
    initial = λ atom h. in_both atom (closed.initial atom h) (also.initial atom h);
    steps = all_steps G.steps closed.steps also.steps;
  }

  pub least_within : IsInEachClosed G least → IsWithin least set
  least_within in_each atom h = in_set atom (in_each both both_closed atom h)

pub may_fit : (G : GroundTask) (least : State) → IsClosed G least → IsInEachClosed G least → MayFit (pruned least G)
may_fit G least closed in_each set also k d lt =
    hold-grows least set (least_within G least set closed also in_each) _ (filter_passes (λ (made : GroundStep). may_hold least made.pre) G.steps k d lt)
