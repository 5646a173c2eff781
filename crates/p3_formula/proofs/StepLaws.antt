-- Changes that are made one by one, first the deletes and then the adds, make the state after them.
use Rattle.std.proofs.Common.{◌≡◌, ◌∙◌, ◌≢◌, ℕ, ◌<◌, ◌==◌, Bool, true, false, not, ◌&&◌, ◌||◌, cond, if◌then◌else◌, List, [], ◌∷◌, length, refl, sym, ap, arith, length-set}
use Rattle.std.specs.Prelude.{slice_set}
use Rattle.std.specs.List.{list_any}
use Rattle.std.proofs.lemmas.Bool.Decides.{nat_tests}
use Rattle.std.proofs.lemmas.List.{ext_get_or, get_or-set_same, get_or-set_other}
use Rattle.p3_formula.specs.Forms.{State, is_set, truth}
use Rattle.p3_formula.specs.Next.{is_added, is_deleted, after, is_made, changed_by, changed_all}
use Rattle.p3_formula.specs.declared.form.Change.{Change}
use Rattle.p3_formula.proofs.NextLaws.{length-after, is_set-after}

module _ (add : Bool) (state : State) where
  abbrev turns : Change → Bool
  turns change = if add then change.add else not change.add

  -- the change names the atom and is made
  abbrev names : ℕ → Change → Bool
  names atom change = (change.atom == atom) && turns change && truth state change.cond

  length-changed : (bits : State) (change : Change) → length (changed_by add state bits change) ≡ length bits
  length-changed bits change = by (is_made add state change) where
    by : (made : Bool) → length (if made then slice_set bits change.atom add else bits) ≡ length bits
    by true = length-set bits change.atom add
    by false = refl

  pub length-changed_all : (effects : List Change) (bits : State) → length (changed_all add state bits effects) ≡ length bits
  length-changed_all [] bits = refl
  length-changed_all (change ∷ effects) bits = length-changed_all effects (changed_by add state bits change) ∙ length-changed bits change

  -- one change minds its atom alone
  is_set-changed : (bits : State) (change : Change) (atom : ℕ) → atom < length bits → is_set (changed_by add state bits change) atom ≡ cond (names atom change) add (is_set bits atom)
  is_set-changed bits change atom within = by (turns change) (truth state change.cond) (change.atom == atom) refl where
    by : (turned holds same : Bool) → (change.atom == atom) ≡ same → is_set (if (turned && holds) then slice_set bits change.atom add else bits) atom ≡ cond (same && turned && holds) add (is_set bits atom)
    by true true true e =
        let here : change.atom ≡ atom = grind (arith, nat_tests) in
        ap (λ place. is_set (slice_set bits place add) atom) here ∙ get_or-set_same bits atom add false within
    by true true false e = let other : atom ≢ change.atom = grind (arith, nat_tests) in get_or-set_other bits change.atom atom add false other
    by true false true e = refl
    by true false false e = refl
    by false holds true e = refl
    by false holds false e = refl

  chosen : (first rest old : Bool) → cond rest add (cond first add old) ≡ cond (first || rest) add old
  chosen true true old = refl
  chosen true false old = refl
  chosen false rest old = refl

  pub is_set-changed_all : (effects : List Change) (bits : State) (atom : ℕ) → atom < length bits → is_set (changed_all add state bits effects) atom ≡ cond (list_any (names atom) effects) add (is_set bits atom)
  is_set-changed_all [] bits atom within = refl
  is_set-changed_all (change ∷ effects) bits atom within =
      let l = length-changed bits change in
      is_set-changed_all effects (changed_by add state bits change) atom (omega (arith, l, within))
      ∙ ap (cond (list_any (names atom) effects) add) (is_set-changed bits change atom within)
      ∙ chosen (names atom change) (list_any (names atom) effects) (is_set bits atom)

together : (added deleted old : Bool) → cond added true (cond deleted false old) ≡ (added || old && not deleted)
together true deleted old = refl
together false true true = refl
together false true false = refl
together false false true = refl
together false false false = refl

pub made_one_by_one : (state : State) (effects : List Change) → changed_all true state (changed_all false state state effects) effects ≡ after state effects
made_one_by_one state effects =
    let cleared = length-changed_all false state effects state in
    let all = length-changed_all true state effects (changed_all false state state effects) in
    let l = length-after state effects in
    ext_get_or false (changed_all true state (changed_all false state state effects) effects) (after state effects) (omega (arith, all, cleared, l))
    (λ atom within.
    let inside : atom < length state = omega (arith, within, all, cleared) in
    is_set-changed_all true state effects (changed_all false state state effects) atom (omega (arith, inside, cleared))
    ∙ ap (cond (is_added state effects atom) true) (is_set-changed_all false state effects state atom inside)
    ∙ together (is_added state effects atom) (is_deleted state effects atom) (is_set state atom)
    ∙ sym (is_set-after state effects atom inside))
