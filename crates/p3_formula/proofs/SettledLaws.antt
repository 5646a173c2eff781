-- A form that is simplified where the values of some atoms are known is tidy, has no other atoms and no more nodes; and its equations.
use Rattle.std.proofs.Common.{◌≡◌, ◌∙◌, ℕ, ◌+◌, ◌≤◌, Bool, true, false, not, ◌&&◌, ◌||◌, nat_le, List, [], ◌∷◌, ◌++◌, length, map, sum, sum_by, Option, None, Some, refl, sym, ap, arith, true≢false}
use Rattle.std.specs.List.{flat_map, list_all}
use Rattle.std.proofs.Math.Bool.{and-true}
use Rattle.std.proofs.lemmas.Bool.{and_parts, and_from}
use Rattle.std.proofs.lemmas.List.{append-nil}
use Rattle.std.proofs.lemmas.List.Folds.{list_all-append}
use Rattle.std.proofs.lemmas.List.Sums.{sum-map, sum_by-cons, sum_by-append}
use mathlib.Core.Former.{Count}
use denote.Hole.Carrier.{hidden}
use Rattle.p3_formula.specs.Folds.{fold_forms}
use Rattle.p3_formula.specs.Forms.{State, truth, has_atoms, within_layer, nodes, nodes_layer}
use Rattle.p3_formula.specs.Literals.{said_of}
use Rattle.p3_formula.specs.Tidy.{look, look_layer, is_tidy, is_tidy_part}
use Rattle.p3_formula.specs.Simplified.{constant, is_value, negated, spread}
use Rattle.p3_formula.specs.Settled.{own_literal, denied_literal, repeats_one, clashes_one, says, closes, clashes, spread_or, pieces, gathered, gathered_parts, settled_atom, settled, settled_layer}
use Rattle.p3_formula.specs.declared.form.Form.{Form, Row_of-Form, end_of-Form, more_of-Form, items-the_row-Form, items_hidden-the_row-Form-1}
use Rattle.p3_formula.specs.declared.form.Form.TheBlock.{hidden-the_row-Form-0}
use Rattle.p3_formula.specs.declared.form.Form.TheVariants.{True, False, Atom, Not, And, Or, Not', And', Or'}
use Rattle.p3_formula.specs.declared.literals.Literal.{Literal}
use Rattle.p3_formula.proofs.FormLemmas.{fold_parts, row_forms}
use Rattle.p3_formula.proofs.TidyLaws.{negated_tidy, joined_tidy}
use Rattle.p3_formula.proofs.AtomLaws.{negated_atoms, joined_atoms, negated_nodes, joined_nodes, more_nodes, skip_nodes}
use Rattle.p3_formula.proofs.LiteralLaws.{neither}
use Rattle.p3_formula.proofs.SettledTruth.{by_steps, parts_truth}

-- ---- one equation for each kind of form

module _ (known : ℕ → Option Bool) where
  pub settled-True : settled known True ≡ True
  unfolding settled
  settled-True = refl

  pub settled-False : settled known False ≡ False
  unfolding settled
  settled-False = refl

  pub settled-Atom : (atom : ℕ) → settled known (Atom atom) ≡ settled_atom atom (known atom)
  unfolding settled
  settled-Atom atom = refl

  pub settled-Not : (part : Form) → settled known (Not part) ≡ negated (settled known part)
  unfolding settled hidden-the_row-Form-0 hidden
  settled-Not part = refl

  pub settled-And : (parts : List Form) → settled known (And parts) ≡ gathered_parts true (map (settled known) parts)
  unfolding settled
  settled-And parts = ap (gathered_parts true) (fold_parts (settled_layer known) parts)

  pub settled-Or : (parts : List Form) → settled known (Or parts) ≡ gathered_parts false (map (settled known) parts)
  unfolding settled
  settled-Or parts = ap (gathered_parts false) (fold_parts (settled_layer known) parts)

pub ruleset settled_laws = (settled-True, settled-False, settled-Atom, settled-Not, settled-And, settled-Or)

pub spread_or-Or : (parts : List Form) → spread_or (Or parts) ≡ parts
spread_or-Or parts = items_hidden-the_row-Form-1 parts

pub ruleset spread_or_laws = (spread_or-Or)

pub own_literal-Not : (part : Form) → own_literal (Not part) ≡ denied_literal part
unfolding hidden-the_row-Form-0 hidden
own_literal-Not part = refl

pub ruleset own_laws = (own_literal-Not)

-- of a literal neither it nor its negation is said: nothing is said of its atom
none_said : (said : Option Bool) (bit : Bool) → says said bit ≡ false → says said (not bit) ≡ false → said ≡ None
none_said None bit is other = refl
none_said (Some true) true is other = absurd (true≢false is)
none_said (Some true) false is other = absurd (true≢false other)
none_said (Some false) true is other = absurd (true≢false other)
none_said (Some false) false is other = absurd (true≢false is)

pub new_atom : (seen : List Literal) (part : Form) (one : Literal) → own_literal part ≡ one ∷ [] → clashes_one seen (own_literal part) ≡ false → repeats_one seen (own_literal part) ≡ false → said_of seen one.atom ≡ None
new_atom seen part one is other new = none_said (said_of seen one.atom) one.holds (sym (ap (repeats_one seen) is) ∙ new) (sym (ap (clashes_one seen) is) ∙ other)

pub ruleset see_laws = (append-nil, new_atom)

-- ---- all of a list

all_flat : {A B : Type 0} (p : A → Bool) (q : B → Bool) (f : A → List B) (each : (x : A) → p x ≡ true → list_all q (f x) ≡ true) (xs : List A) → list_all p xs ≡ true → list_all q (flat_map f xs) ≡ true
all_flat p q f each [] all = refl
all_flat p q f each (x ∷ xs) all =
    list_all-append q (f x) (flat_map f xs) ∙ and_from (list_all q (f x)) _ (each x (and_parts (p x) _ all).0) (all_flat p q f each xs (and_parts (p x) _ all).1)

one_more : {A : Type 0} (p : A → Bool) (xs : List A) (x : A) → list_all p xs ≡ true → p x ≡ true → list_all p (xs ++ x ∷ []) ≡ true
one_more p xs x all passes = list_all-append p xs (x ∷ []) ∙ and_from (list_all p xs) _ all (and_from (p x) true passes refl)

-- ---- tidy

-- it may be a part of a tidy form, or settles the whole
abbrev fits_among : Bool → Form → Bool
fits_among every part = is_tidy_part part || is_value (not every) part

fits_so : (every : Bool) (part : Form) → is_tidy_part part ≡ true → fits_among every part ≡ true
fits_so every part fits = ap (λ b. b || is_value (not every) part) fits

alone : (every : Bool) (part : Form) → is_tidy_part part ≡ true → list_all (fits_among every) (part ∷ []) ≡ true
alone every part fits = and_from (fits_among every part) true (fits_so every part fits) refl

row_fits : (every : Bool) {n : Count} (parts : Row_of-Form n) → list_all (λ part. part.fits) (fold_forms look_layer parts) ≡ true → list_all (fits_among every) (items-the_row-Form n parts) ≡ true
unfolding look
row_fits every end_of-Form all = refl
row_fits every (more_of-Form part rest) all =
    and_from (fits_among every part) _ (fits_so every part (and_parts (look part).fits _ all).0) (row_fits every rest (and_parts (look part).fits _ all).1)

pieces_fit : (every : Bool) (part : Form) → is_tidy part ≡ true → list_all (fits_among every) (pieces every part) ≡ true
unfolding look
pieces_fit true True h = refl
pieces_fit true False h = refl
pieces_fit true (Atom atom) h = refl
pieces_fit true (Not' shape part) h = alone true (Not' shape part) h
pieces_fit true (And' shape parts) h = row_fits true parts (and_parts (nat_le 2 (length (fold_forms look_layer parts))) _ h).1
pieces_fit true (Or' shape parts) h = alone true (Or' shape parts) h
pieces_fit false True h = refl
pieces_fit false False h = refl
pieces_fit false (Atom atom) h = refl
pieces_fit false (Not' shape part) h = alone false (Not' shape part) h
pieces_fit false (And' shape parts) h = alone false (And' shape parts) h
pieces_fit false (Or' shape parts) h = row_fits false parts (and_parts (nat_le 2 (length (fold_forms look_layer parts))) _ h).1

constant_tidy : (value : Bool) → is_tidy (constant value) ≡ true
constant_tidy true = refl
constant_tidy false = refl

kept_fits : (every : Bool) (kept : List Form) (part : Form) → closes every kept part ≡ false → fits_among every part ≡ true → is_tidy_part part ≡ true
kept_fits every kept part open_yet fits = by (is_tidy_part part) (is_value (not every) part) fits (neither (is_value (not every) part) (clashes kept part) open_yet).0 where
  by : (a b : Bool) → (a || b) ≡ true → b ≡ false → a ≡ true
  by true b either differs = refl
  by false b either differs = sym differs ∙ either

gathered_tidy : (every : Bool) (kept rest : List Form) → list_all is_tidy_part kept ≡ true → list_all (fits_among every) rest ≡ true → is_tidy (gathered every kept rest) ≡ true
gathered_tidy every = by_steps every (λ kept rest made. list_all is_tidy_part kept ≡ true → list_all (fits_among every) rest ≡ true → is_tidy made ≡ true)
    (λ kept h k. joined_tidy every kept h)
    (λ kept part rest closed h k. constant_tidy (not every))
    (λ kept part rest made open_yet again is h k. is h (and_parts (fits_among every part) _ k).1)
    (λ kept part rest made open_yet is h k.
    let both = and_parts (fits_among every part) _ k in
    is (one_more is_tidy_part kept part h (kept_fits every kept part open_yet both.0)) both.1)

parts_tidy : (every : Bool) (parts : List Form) → list_all is_tidy parts ≡ true → is_tidy (gathered_parts every parts) ≡ true
parts_tidy every parts all = gathered_tidy every [] (flat_map (pieces every) parts) refl (all_flat is_tidy (fits_among every) (pieces every) (pieces_fit every) parts all)

module _ (known : ℕ → Option Bool) where
  atom_tidy : (atom : ℕ) (said : Option Bool) → is_tidy (settled_atom atom said) ≡ true
  unfolding look
  atom_tidy atom None = refl
  atom_tidy atom (Some bit) = constant_tidy bit

  mutual
    unfolding settled look

    pub settled_tidy : (form : Form) → is_tidy (settled known form) ≡ true
    settled_tidy True = refl
    settled_tidy False = refl
    settled_tidy (Atom atom) = atom_tidy atom (known atom)
    settled_tidy (Not' shape (more_of-Form part rest)) = negated_tidy (settled known part) (settled_tidy part)
    settled_tidy (And' shape parts) = parts_tidy true (fold_forms (settled_layer known) parts) (all_tidy parts)
    settled_tidy (Or' shape parts) = parts_tidy false (fold_forms (settled_layer known) parts) (all_tidy parts)

    all_tidy : {n : Count} (parts : Row_of-Form n) → list_all is_tidy (fold_forms (settled_layer known) parts) ≡ true
    all_tidy end_of-Form = refl
    all_tidy (more_of-Form part rest) = and_from (is_tidy (settled known part)) _ (settled_tidy part) (all_tidy rest)

-- ---- atoms

module _ (allowed : ℕ → Bool) where
  constant_atoms : (value : Bool) → has_atoms allowed (constant value) ≡ true
  unfolding has_atoms
  constant_atoms true = refl
  constant_atoms false = refl

  row_atoms : {n : Count} (parts : Row_of-Form n) → list_all (λ part. part) (fold_forms (within_layer allowed) parts) ≡ list_all (has_atoms allowed) (items-the_row-Form n parts)
  unfolding has_atoms
  row_atoms end_of-Form = refl
  row_atoms (more_of-Form part rest) = ap (λ b. has_atoms allowed part && b) (row_atoms rest)

  pieces_atoms : (every : Bool) (part : Form) → has_atoms allowed part ≡ true → list_all (has_atoms allowed) (pieces every part) ≡ true
  unfolding has_atoms
  pieces_atoms true True h = refl
  pieces_atoms true False h = refl
  pieces_atoms true (Atom atom) h = and-true (has_atoms allowed (Atom atom)) ∙ h
  pieces_atoms true (Not' shape part) h = and-true (has_atoms allowed (Not' shape part)) ∙ h
  pieces_atoms true (And' shape parts) h = sym (row_atoms parts) ∙ h
  pieces_atoms true (Or' shape parts) h = and-true (has_atoms allowed (Or' shape parts)) ∙ h
  pieces_atoms false True h = refl
  pieces_atoms false False h = refl
  pieces_atoms false (Atom atom) h = and-true (has_atoms allowed (Atom atom)) ∙ h
  pieces_atoms false (Not' shape part) h = and-true (has_atoms allowed (Not' shape part)) ∙ h
  pieces_atoms false (And' shape parts) h = and-true (has_atoms allowed (And' shape parts)) ∙ h
  pieces_atoms false (Or' shape parts) h = sym (row_atoms parts) ∙ h

  gathered_atoms : (every : Bool) (kept rest : List Form) → list_all (has_atoms allowed) kept ≡ true → list_all (has_atoms allowed) rest ≡ true → has_atoms allowed (gathered every kept rest) ≡ true
  gathered_atoms every = by_steps every (λ kept rest made. list_all (has_atoms allowed) kept ≡ true → list_all (has_atoms allowed) rest ≡ true → has_atoms allowed made ≡ true)
      (λ kept h k. joined_atoms allowed every kept ∙ h)
      (λ kept part rest closed h k. constant_atoms (not every))
      (λ kept part rest made open_yet again is h k. is h (and_parts (has_atoms allowed part) _ k).1)
      (λ kept part rest made open_yet is h k.
      let both = and_parts (has_atoms allowed part) _ k in
      is (one_more (has_atoms allowed) kept part h both.0) both.1)

  parts_atoms : (every : Bool) (parts : List Form) → list_all (has_atoms allowed) parts ≡ true → has_atoms allowed (gathered_parts every parts) ≡ true
  parts_atoms every parts all =
      gathered_atoms every [] (flat_map (pieces every) parts) refl (all_flat (has_atoms allowed) (has_atoms allowed) (pieces every) (pieces_atoms every) parts all)

  module _ (known : ℕ → Option Bool) where
    atom_atoms : (atom : ℕ) (said : Option Bool) → has_atoms allowed (Atom atom) ≡ true → has_atoms allowed (settled_atom atom said) ≡ true
    atom_atoms atom None h = h
    atom_atoms atom (Some bit) h = constant_atoms bit

    mutual
      unfolding settled has_atoms

      pub settled_atoms : (form : Form) → has_atoms allowed form ≡ true → has_atoms allowed (settled known form) ≡ true
      settled_atoms True h = refl
      settled_atoms False h = refl
      settled_atoms (Atom atom) h = atom_atoms atom (known atom) h
      settled_atoms (Not' shape (more_of-Form part rest)) h = negated_atoms allowed (settled known part) ∙ settled_atoms part h
      settled_atoms (And' shape parts) h = parts_atoms true (fold_forms (settled_layer known) parts) (all_atoms parts h)
      settled_atoms (Or' shape parts) h = parts_atoms false (fold_forms (settled_layer known) parts) (all_atoms parts h)

      all_atoms : {n : Count} (parts : Row_of-Form n) → list_all (λ part. part) (fold_forms (within_layer allowed) parts) ≡ true → list_all (has_atoms allowed) (fold_forms (settled_layer known) parts) ≡ true
      all_atoms end_of-Form h = refl
      all_atoms (more_of-Form part rest) h =
          and_from (has_atoms allowed (settled known part)) _
          (settled_atoms part (and_parts (has_atoms allowed part) _ h).0)
          (all_atoms rest (and_parts (has_atoms allowed part) _ h).1)

pub settled_atoms_of : (known : ℕ → Option Bool) (form : Form) (allowed : ℕ → Bool) → has_atoms allowed form ≡ true → has_atoms allowed (settled known form) ≡ true
settled_atoms_of known form allowed h = settled_atoms allowed known form h

-- ---- two forms, put together

pub both_spread : (first second : Form) → gathered true [] (spread first ++ spread second) ≡ gathered_parts true (first ∷ second ∷ [])
both_spread first second = ap (λ rest. gathered true [] (spread first ++ rest)) (sym (append-nil (spread second)))

pub ruleset both_laws = (both_spread)

pub both_truth : (state : State) (first second : Form) → truth state (gathered_parts true (first ∷ second ∷ [])) ≡ (truth state first && truth state second)
both_truth state first second = parts_truth state true (first ∷ second ∷ []) ∙ ap (λ b. truth state first && b) (and-true (truth state second))

pub both_tidy : (first second : Form) → is_tidy first ≡ true → is_tidy second ≡ true → is_tidy (gathered_parts true (first ∷ second ∷ [])) ≡ true
both_tidy first second one other = parts_tidy true (first ∷ second ∷ []) (and_from (is_tidy first) _ one (and_from (is_tidy second) true other refl))

pub both_atoms : (allowed : ℕ → Bool) (first second : Form) → has_atoms allowed first ≡ true → has_atoms allowed second ≡ true → has_atoms allowed (gathered_parts true (first ∷ second ∷ [])) ≡ true
both_atoms allowed first second one other = parts_atoms allowed true (first ∷ second ∷ []) (and_from (has_atoms allowed first) _ one (and_from (has_atoms allowed second) true other refl))

-- ---- nodes

constant_nodes : (value : Bool) (more : ℕ) → nodes (constant value) ≤ 1 + more
unfolding nodes
constant_nodes true more = omega arith
constant_nodes false more = omega arith

one_node : (part : Form) → sum_by nodes (part ∷ []) ≤ nodes part
one_node part = let h = sum_by-cons nodes part [] in omega arith

row_nodes : {n : Count} (parts : Row_of-Form n) → sum_by nodes (items-the_row-Form n parts) ≤ 1 + sum (fold_forms nodes_layer parts)
unfolding nodes
row_nodes {n} parts =
    let h = ap sum (row_forms nodes_layer parts) in
    let k = sum-map nodes (items-the_row-Form n parts) in
    omega arith

pieces_nodes : (every : Bool) (part : Form) → sum_by nodes (pieces every part) ≤ nodes part
unfolding nodes
pieces_nodes true True = omega arith
pieces_nodes true False = omega arith
pieces_nodes true (Atom atom) = omega arith
pieces_nodes true (Not' shape part) = one_node (Not' shape part)
pieces_nodes true (And' shape parts) = row_nodes parts
pieces_nodes true (Or' shape parts) = one_node (Or' shape parts)
pieces_nodes false True = omega arith
pieces_nodes false False = omega arith
pieces_nodes false (Atom atom) = omega arith
pieces_nodes false (Not' shape part) = one_node (Not' shape part)
pieces_nodes false (And' shape parts) = one_node (And' shape parts)
pieces_nodes false (Or' shape parts) = row_nodes parts

all_pieces : (every : Bool) (parts : List Form) → sum_by nodes (flat_map (pieces every) parts) ≤ sum_by nodes parts
all_pieces every [] = omega arith
all_pieces every (part ∷ parts) =
    let h = pieces_nodes every part in
    let k = all_pieces every parts in
    let p = sum_by-append nodes (pieces every part) (flat_map (pieces every) parts) in
    let q = sum_by-cons nodes part parts in
    omega arith

gathered_nodes : (every : Bool) (kept rest : List Form) → nodes (gathered every kept rest) ≤ 1 + (sum_by nodes kept + sum_by nodes rest)
gathered_nodes every = by_steps every (λ kept rest made. nodes made ≤ 1 + (sum_by nodes kept + sum_by nodes rest))
    (λ kept. let h = joined_nodes every kept in omega arith)
    (λ kept part rest closed. constant_nodes (not every) _)
    (λ kept part rest made open_yet again is. skip_nodes kept part rest _ is)
    (λ kept part rest made open_yet is. more_nodes kept part rest _ is)

parts_nodes : (every : Bool) (parts : List Form) → nodes (gathered_parts every parts) ≤ 1 + sum_by nodes parts
parts_nodes every parts =
    let h = gathered_nodes every [] (flat_map (pieces every) parts) in
    let k = all_pieces every parts in
    omega arith

module _ (known : ℕ → Option Bool) where
  atom_nodes : (atom : ℕ) (said : Option Bool) → nodes (settled_atom atom said) ≤ 1
  unfolding nodes
  atom_nodes atom None = omega arith
  atom_nodes atom (Some bit) = constant_nodes bit 0

  mutual
    unfolding nodes settled

    pub settled_nodes : (form : Form) → nodes (settled known form) ≤ nodes form
    settled_nodes True = omega arith
    settled_nodes False = omega arith
    settled_nodes (Atom atom) = atom_nodes atom (known atom)
    settled_nodes (Not' shape (more_of-Form part rest)) = let h = negated_nodes (settled known part) in let k = settled_nodes part in omega arith
    settled_nodes (And' shape parts) = let h = parts_nodes true (fold_forms (settled_layer known) parts) in let k = all_nodes parts in omega arith
    settled_nodes (Or' shape parts) = let h = parts_nodes false (fold_forms (settled_layer known) parts) in let k = all_nodes parts in omega arith

    all_nodes : {n : Count} (parts : Row_of-Form n) → sum_by nodes (fold_forms (settled_layer known) parts) ≤ sum (fold_forms nodes_layer parts)
    all_nodes end_of-Form = omega arith
    all_nodes (more_of-Form part rest) =
        let h = settled_nodes part in
        let k = all_nodes rest in
        let p = sum_by-cons nodes (settled known part) (fold_forms (settled_layer known) rest) in
        let q = sum_by-cons (λ n. n) (nodes part) (fold_forms nodes_layer rest) in
        omega arith
