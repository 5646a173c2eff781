-- A form that is simplified where the values of some atoms are known holds in the same states in which these are so.
use Rattle.std.proofs.Common.{◌≡◌, ◌∙◌, ℕ, Bool, true, false, not, ◌&&◌, ◌||◌, if◌then◌else◌, List, [], ◌∷◌, ◌++◌, map, Option, None, Some, refl, sym, ap, append_assoc, true≢false}
use Rattle.std.specs.List.{flat_map, list_any, list_all}
use Rattle.std.proofs.Math.Bool.{not-not, and-true, or-false}
use Rattle.std.proofs.lemmas.Bool.{and_parts}
use Rattle.std.proofs.lemmas.List.{append-nil}
use Rattle.std.proofs.lemmas.List.Folds.{list_all-append, list_all-map, list_any-append}
use mathlib.Core.Former.{Count}
use Rattle.p3_formula.specs.Folds.{fold_forms}
use Rattle.p3_formula.specs.Forms.{State, is_set, truth, truth_layer}
use Rattle.p3_formula.specs.Literals.{literal, is_met, is_same, said_of}
use Rattle.p3_formula.specs.Simplified.{constant, is_value, joined}
use Rattle.p3_formula.specs.Settled.{Agrees, own_literal, says, repeats, repeats_one, clashes, clashes_one, pieces, closes, kept_once, gathered, settled_atom, settled, settled_layer}
use Rattle.p3_formula.specs.declared.form.Form.{Form, Row_of-Form, end_of-Form, more_of-Form, items-the_row-Form}
use Rattle.p3_formula.specs.declared.form.Form.TheVariants.{True, False, Atom, Not', And', Or'}
use Rattle.p3_formula.specs.declared.literals.Literal.{Literal}
use Rattle.p3_formula.proofs.FormLemmas.{row_forms, list_any-map}
use Rattle.p3_formula.proofs.TruthLaws.{among, negated_truth, joined_truth}
use Rattle.p3_formula.proofs.LiteralLaws.{neither, none-some, said_first, said_is_so}

-- ---- one step of gathering at a time

module _ (every : Bool) (P : List Form → List Form → Form → Type 0)
    (ends : (kept : List Form) → P kept [] (joined every kept))
    (settles : (kept : List Form) (part : Form) (rest : List Form) → closes every kept part ≡ true → P kept (part ∷ rest) (constant (not every)))
    (skips : (kept : List Form) (part : Form) (rest : List Form) (made : Form) → closes every kept part ≡ false → repeats kept part ≡ true → P kept rest made → P kept (part ∷ rest) made)
    (keeps : (kept : List Form) (part : Form) (rest : List Form) (made : Form) → closes every kept part ≡ false → P (kept ++ part ∷ []) rest made → P kept (part ∷ rest) made) where
  goes_on : (kept : List Form) (part : Form) (rest : List Form) → closes every kept part ≡ false
      → P kept rest (gathered every kept rest) → P (kept ++ part ∷ []) rest (gathered every (kept ++ part ∷ []) rest) → (b : Bool) → repeats kept part ≡ b
      → P kept (part ∷ rest) (gathered every (if b then kept else (kept ++ part ∷ [])) rest)
  goes_on kept part rest open_yet without with_it true again = skips kept part rest _ open_yet again without
  goes_on kept part rest open_yet without with_it false new = keeps kept part rest _ open_yet with_it

  one_step : (kept : List Form) (part : Form) (rest : List Form)
      → P kept rest (gathered every kept rest) → P (kept ++ part ∷ []) rest (gathered every (kept ++ part ∷ []) rest) → (b : Bool) → closes every kept part ≡ b
      → P kept (part ∷ rest) (if b then constant (not every) else gathered every (kept_once kept part) rest)
  one_step kept part rest without with_it true closed = settles kept part rest closed
  one_step kept part rest without with_it false open_yet = goes_on kept part rest open_yet without with_it (repeats kept part) refl

  pub by_steps : (kept rest : List Form) → P kept rest (gathered every kept rest)
  by_steps kept [] = ends kept
  by_steps kept (part ∷ rest) = one_step kept part rest (by_steps kept rest) (by_steps (kept ++ part ∷ []) rest) (closes every kept part) refl

-- ---- what literals among the parts tell

-- both are true or both are false
twice : (every bit : Bool) → is_same every bit ≡ is_same bit every
twice true true = refl
twice true false = refl
twice false true = refl
twice false false = refl

same-true : (one other : Bool) → is_same one other ≡ true → one ≡ other
same-true true other is = sym is
same-true false other is = sym (ap not is) ∙ not-not other

says-is : (said : Option Bool) (bit : Bool) → says said bit ≡ true → said ≡ Some bit
says-is None bit is = absurd (true≢false (sym is))
says-is (Some one) bit is = ap Some (same-true one bit is)

module _ (state : State) where
  -- a literal among parts that all hold is met, and among parts of which none holds it is not
  own_told : (every : Bool) (part : Form) (rest : List Literal) → truth state part ≡ every → (atom : ℕ) (bit : Bool) → said_of (own_literal part ++ rest) atom ≡ Some bit
      → (said_of rest atom ≡ Some bit → is_set state atom ≡ is_same every bit) → is_set state atom ≡ is_same every bit
  unfolding truth
  own_told every True rest is atom bit said later = later said
  own_told every False rest is atom bit said later = later said
  own_told every (Atom one) rest is atom bit said later = said_first rest (literal one true) atom bit _ said
      (λ here holds. sym (ap (is_set state) here) ∙ is ∙ twice true every ∙ ap (is_same every) holds) later
  own_told every (Not' shape (more_of-Form True more)) rest is atom bit said later = later said
  own_told every (Not' shape (more_of-Form False more)) rest is atom bit said later = later said
  own_told every (Not' shape (more_of-Form (Atom one) more)) rest is atom bit said later = said_first rest (literal one false) atom bit _ said
      (λ here holds. sym (ap (is_set state) here) ∙ sym (not-not (is_set state one)) ∙ ap not is ∙ twice false every ∙ ap (is_same every) holds) later
  own_told every (Not' shape (more_of-Form (Not' _ part) more)) rest is atom bit said later = later said
  own_told every (Not' shape (more_of-Form (And' _ parts) more)) rest is atom bit said later = later said
  own_told every (Not' shape (more_of-Form (Or' _ parts) more)) rest is atom bit said later = later said
  own_told every (And' shape parts) rest is atom bit said later = later said
  own_told every (Or' shape parts) rest is atom bit said later = later said

  first_of_all : (every : Bool) (part : Form) (kept : List Form) → among every (truth state) (part ∷ kept) ≡ every → (truth state part ≡ every) × (among every (truth state) kept ≡ every)
  first_of_all true part kept is = and_parts (truth state part) _ is
  first_of_all false part kept is = neither (truth state part) _ is

  told : (every : Bool) (kept : List Form) → among every (truth state) kept ≡ every → (atom : ℕ) (bit : Bool) → said_of (flat_map own_literal kept) atom ≡ Some bit → is_set state atom ≡ is_same every bit
  told every [] is atom bit said = absurd (none-some bit said)
  told every (part ∷ kept) is atom bit said =
      let both = first_of_all every part kept is in
      own_told every part (flat_map own_literal kept) both.0 atom bit said (λ later. told every kept both.1 atom bit later)

  -- the truth of a literal
  piece_truth : (every : Bool) (known : List Literal) (part : Form) (tells : (atom : ℕ) (bit : Bool) → said_of known atom ≡ Some bit → is_set state atom ≡ is_same every bit)
      → (repeats_one known (own_literal part) ≡ true → truth state part ≡ every) × (clashes_one known (own_literal part) ≡ true → truth state part ≡ not every)
  unfolding truth
  piece_truth every known True tells = (λ h. absurd (true≢false (sym h)), λ h. absurd (true≢false (sym h)))
  piece_truth every known False tells = (λ h. absurd (true≢false (sym h)), λ h. absurd (true≢false (sym h)))
  piece_truth every known (Atom atom) tells = (
    λ h. tells atom true (says-is _ true h) ∙ twice every true,
    λ h. tells atom false (says-is _ false h) ∙ twice every false,
  )
  piece_truth every known (Not' shape (more_of-Form True more)) tells = (λ h. absurd (true≢false (sym h)), λ h. absurd (true≢false (sym h)))
  piece_truth every known (Not' shape (more_of-Form False more)) tells = (λ h. absurd (true≢false (sym h)), λ h. absurd (true≢false (sym h)))
  piece_truth every known (Not' shape (more_of-Form (Atom atom) more)) tells = (
    λ h. ap not (tells atom false (says-is _ false h) ∙ twice every false) ∙ not-not every,
    λ h. ap not (tells atom true (says-is _ true h) ∙ twice every true),
  )
  piece_truth every known (Not' shape (more_of-Form (Not' _ part) more)) tells = (λ h. absurd (true≢false (sym h)), λ h. absurd (true≢false (sym h)))
  piece_truth every known (Not' shape (more_of-Form (And' _ parts) more)) tells = (λ h. absurd (true≢false (sym h)), λ h. absurd (true≢false (sym h)))
  piece_truth every known (Not' shape (more_of-Form (Or' _ parts) more)) tells = (λ h. absurd (true≢false (sym h)), λ h. absurd (true≢false (sym h)))
  piece_truth every known (And' shape parts) tells = (λ h. absurd (true≢false (sym h)), λ h. absurd (true≢false (sym h)))
  piece_truth every known (Or' shape parts) tells = (λ h. absurd (true≢false (sym h)), λ h. absurd (true≢false (sym h)))

  -- ---- among all parts

  among-append : (every : Bool) (xs ys : List Form) → (among every (truth state) xs ≡ not every → among every (truth state) (xs ++ ys) ≡ not every) × (among every (truth state) xs ≡ every → among every (truth state) (xs ++ ys) ≡ among every (truth state) ys)
  among-append true xs ys = (λ h. list_all-append (truth state) xs ys ∙ ap (λ b. b && list_all (truth state) ys) h, λ h. list_all-append (truth state) xs ys ∙ ap (λ b. b && list_all (truth state) ys) h)
  among-append false xs ys = (λ h. list_any-append (truth state) xs ys ∙ ap (λ b. b || list_any (truth state) ys) h, λ h. list_any-append (truth state) xs ys ∙ ap (λ b. b || list_any (truth state) ys) h)

  among-first : (every : Bool) (part : Form) (rest : List Form) → (truth state part ≡ not every → among every (truth state) (part ∷ rest) ≡ not every) × (truth state part ≡ every → among every (truth state) (part ∷ rest) ≡ among every (truth state) rest)
  among-first true part rest = (λ h. ap (λ b. b && list_all (truth state) rest) h, λ h. ap (λ b. b && list_all (truth state) rest) h)
  among-first false part rest = (λ h. ap (λ b. b || list_any (truth state) rest) h, λ h. ap (λ b. b || list_any (truth state) rest) h)

  one_or_other : (every b : Bool) (P : Type 0) → (b ≡ every → P) → (b ≡ not every → P) → P
  one_or_other true true P is other = is refl
  one_or_other true false P is other = other refl
  one_or_other false true P is other = other refl
  one_or_other false false P is other = is refl

  skipped : (every : Bool) (kept : List Form) (part : Form) (rest : List Form) → (among every (truth state) kept ≡ every → truth state part ≡ every)
      → among every (truth state) (kept ++ rest) ≡ among every (truth state) (kept ++ part ∷ rest)
  skipped every kept part rest known = one_or_other every (among every (truth state) kept) _
      (λ is. (among-append every kept rest).1 is ∙ sym ((among-first every part rest).1 (known is)) ∙ sym ((among-append every kept (part ∷ rest)).1 is))
      (λ other. (among-append every kept rest).0 other ∙ sym ((among-append every kept (part ∷ rest)).0 other))

  stopped : (every : Bool) (kept : List Form) (part : Form) (rest : List Form) → (among every (truth state) kept ≡ every → truth state part ≡ not every)
      → not every ≡ among every (truth state) (kept ++ part ∷ rest)
  stopped every kept part rest known = one_or_other every (among every (truth state) kept) _
      (λ is. sym ((among-append every kept (part ∷ rest)).1 is ∙ (among-first every part rest).0 (known is)))
      (λ other. sym ((among-append every kept (part ∷ rest)).0 other))

  pub value_truth : (value : Bool) (part : Form) → is_value value part ≡ true → truth state part ≡ value
  unfolding truth
  value_truth value True is = sym is
  value_truth value False is = sym (ap not is) ∙ not-not value
  value_truth value (Atom atom) is = absurd (true≢false (sym is))
  value_truth value (Not' shape part) is = absurd (true≢false (sym is))
  value_truth value (And' shape parts) is = absurd (true≢false (sym is))
  value_truth value (Or' shape parts) is = absurd (true≢false (sym is))

  constant_truth : (value : Bool) → truth state (constant value) ≡ value
  unfolding truth
  constant_truth true = refl
  constant_truth false = refl

  closing : (every : Bool) (kept : List Form) (part : Form) → closes every kept part ≡ true → among every (truth state) kept ≡ every → truth state part ≡ not every
  closing every kept part closed is = by (is_value (not every) part) refl closed where
    by : (b : Bool) → is_value (not every) part ≡ b → (b || clashes kept part) ≡ true → truth state part ≡ not every
    by true value h = value_truth (not every) part value
    by false other h = (piece_truth every (flat_map own_literal kept) part (told every kept is)).1 h

  gathered_truth : (every : Bool) (kept rest : List Form) → truth state (gathered every kept rest) ≡ among every (truth state) (kept ++ rest)
  gathered_truth every = by_steps every (λ kept rest made. truth state made ≡ among every (truth state) (kept ++ rest))
      (λ kept. joined_truth state every kept ∙ sym (ap (among every (truth state)) (append-nil kept)))
      (λ kept part rest closed. constant_truth (not every) ∙ stopped every kept part rest (closing every kept part closed))
      (λ kept part rest made open_yet again is. is ∙ skipped every kept part rest (λ all. (piece_truth every (flat_map own_literal kept) part (told every kept all)).0 again))
      (λ kept part rest made open_yet is. is ∙ ap (among every (truth state)) (append_assoc kept (part ∷ []) rest))

  -- ---- pieces of parts

  pieces_truth : (every : Bool) (part : Form) → among every (truth state) (pieces every part) ≡ truth state part
  unfolding truth
  pieces_truth true True = refl
  pieces_truth true False = refl
  pieces_truth true (Atom atom) = and-true (truth state (Atom atom))
  pieces_truth true (Not' shape part) = and-true (truth state (Not' shape part))
  pieces_truth true (And' shape parts) = sym (list_all-map (λ part. part) (truth state) (items-the_row-Form _ parts)) ∙ sym (ap (list_all (λ part. part)) (row_forms (truth_layer state) parts))
  pieces_truth true (Or' shape parts) = and-true (truth state (Or' shape parts))
  pieces_truth false True = refl
  pieces_truth false False = refl
  pieces_truth false (Atom atom) = or-false (truth state (Atom atom))
  pieces_truth false (Not' shape part) = or-false (truth state (Not' shape part))
  pieces_truth false (And' shape parts) = or-false (truth state (And' shape parts))
  pieces_truth false (Or' shape parts) = sym (list_any-map (λ part. part) (truth state) (items-the_row-Form _ parts)) ∙ sym (ap (list_any (λ part. part)) (row_forms (truth_layer state) parts))

  all_pieces : (every : Bool) (parts : List Form) → among every (truth state) (flat_map (pieces every) parts) ≡ among every (truth state) parts
  all_pieces true [] = refl
  all_pieces true (part ∷ parts) = list_all-append (truth state) (pieces true part) (flat_map (pieces true) parts) ∙ (λ i. pieces_truth true part i && all_pieces true parts i)
  all_pieces false [] = refl
  all_pieces false (part ∷ parts) = list_any-append (truth state) (pieces false part) (flat_map (pieces false) parts) ∙ (λ i. pieces_truth false part i || all_pieces false parts i)

  pub parts_truth : (every : Bool) (parts : List Form) → truth state (gathered every [] (flat_map (pieces every) parts)) ≡ among every (truth state) parts
  parts_truth every parts = gathered_truth every [] (flat_map (pieces every) parts) ∙ all_pieces every parts

  -- ---- the form

  module _ (known : ℕ → Option Bool) (agrees : Agrees known state) where
    atom_truth : (atom : ℕ) (said : Option Bool) → known atom ≡ said → truth state (settled_atom atom said) ≡ is_set state atom
    unfolding truth
    atom_truth atom None is = refl
    atom_truth atom (Some bit) is = constant_truth bit ∙ sym (agrees atom bit is)

    mutual
      unfolding truth settled

      settled_in : (form : Form) → truth state (settled known form) ≡ truth state form
      settled_in True = refl
      settled_in False = refl
      settled_in (Atom atom) = atom_truth atom (known atom) refl
      settled_in (Not' shape (more_of-Form part rest)) = negated_truth state (settled known part) ∙ ap not (settled_in part)
      settled_in (And' shape parts) =
          let made = fold_forms (settled_layer known) parts in
          parts_truth true made ∙ sym (list_all-map (λ part. part) (truth state) made) ∙ ap (list_all (λ part. part)) (all_settled parts)
      settled_in (Or' shape parts) =
          let made = fold_forms (settled_layer known) parts in
          parts_truth false made ∙ sym (list_any-map (λ part. part) (truth state) made) ∙ ap (list_any (λ part. part)) (all_settled parts)

      all_settled : {n : Count} (parts : Row_of-Form n) → map (truth state) (fold_forms (settled_layer known) parts) ≡ fold_forms (truth_layer state) parts
      all_settled end_of-Form = refl
      all_settled (more_of-Form part rest) = λ i. settled_in part i ∷ all_settled rest i

pub settled_truth : (known : ℕ → Option Bool) (form : Form) (state : State) → Agrees known state → truth state (settled known form) ≡ truth state form
settled_truth known form state agrees = settled_in state known agrees form

pub settled_met : (literals : List Literal) (form : Form) (state : State) → list_all (is_met state) literals ≡ true → truth state (settled (said_of literals) form) ≡ truth state form
settled_met literals form state met = settled_truth (said_of literals) form state (said_is_so state literals met)
