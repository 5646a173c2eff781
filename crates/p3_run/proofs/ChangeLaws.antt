-- What the changes find in the state before, and the operators that one change more touches.
use Rattle.std.proofs.Common.{◌≡◌, ◌∙◌, ℕ, ◌+◌, ◌<◌, List, [], ◌∷◌, ◌++◌, length, get_or, map, take, sym, ap}
use Rattle.std.specs.List.{flat_map}
use Rattle.std.proofs.lemmas.Grind.{flat_map-append}
use Rattle.std.proofs.lemmas.List.{append-nil, get_or-map, get_or-take, take_more}
use Rattle.std.proofs.lemmas.List.Sums.{fold-append}
use Rattle.p3_formula.specs.Forms.{State, is_set}
use Rattle.p3_formula.specs.declared.form.Change.{Change}
use Rattle.p3_formula.specs.declared.task.GroundTask.{GroundTask}
use Rattle.p3_run.specs.Changing.{found_in, touched_at, touched}
use Rattle.p3_run.specs.Groups.{Watch, renewed_at, renewed_all}
use Rattle.p3_run.specs.declared.changing.ChangeFound.{ChangeFound}
use Rattle.p3_run.specs.declared.readers.OperatorReader.{OperatorReader}

module _ (before : State) (effects : List Change) (place : ℕ) (within : place < length effects) (one : Change) where
  abbrev change : Change
  change = get_or effects place one

  pub found_at : (all : List ChangeFound) (none : ChangeFound) → take (length effects) all ≡ map (found_in before) effects → get_or all place none ≡ found_in before change
  found_at all none are =
      sym (get_or-take (length effects) all place none within)
      ∙ ap (λ list. get_or list place none) are
      ∙ get_or-map (found_in before) effects place one none within

  module _ (readers : List (List OperatorReader)) (state : State) where
    pub touched_more : touched readers before state (take (place + 1) effects) ≡ touched readers before state (take place effects) ++ touched_at readers state (is_set before change.atom) change.atom
    touched_more =
        let each = λ (c : Change). touched_at readers state (is_set before c.atom) c.atom in
        ap (flat_map each) (take_more effects place one within)
        ∙ flat_map-append each (take place effects) (change ∷ [])
        ∙ ap (λ rest. flat_map each (take place effects) ++ rest) (append-nil (each change))

    -- one change more is followed
    pub follow_more : (G : GroundTask) (old now : List Watch) (all : List ChangeFound) (none : ChangeFound) → take (length effects) all ≡ map (found_in before) effects
        → now ≡ renewed_all G state old (touched readers before state (take place effects))
        → renewed_all G state now (touched_at readers state (get_or all place none).set change.atom) ≡ renewed_all G state old (touched readers before state (take (place + 1) effects))
    follow_more G old now all none are so_far =
        (λ i. renewed_all G state (so_far i) (touched_at readers state (found_at all none are i).set change.atom))
        ∙ sym (fold-append (renewed_at G state) old (touched readers before state (take place effects)) (touched_at readers state (is_set before change.atom) change.atom))
        ∙ ap (renewed_all G state old) (sym touched_more)
