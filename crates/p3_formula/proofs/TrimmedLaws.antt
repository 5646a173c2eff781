-- Trimmed changes make the same state where what is known is so.
use Rattle.std.proofs.Common.{◌≡◌, ◌∙◌, ℕ, ◌==◌, Bool, true, false, not, ◌&&◌, ◌||◌, if◌then◌else◌, List, [], ◌∷◌, ◌++◌, map, length, Option, None, Some, is_some, ◌≤◌, refl, sym, ap, append_assoc, arith}
use Rattle.std.specs.List.{flat_map, list_any, list_all, range_with_len}
use Rattle.std.proofs.Math.Bool.{and-true, and-false, or-false, or-true}
use Rattle.std.proofs.lemmas.Bool.{eqb-true, eq-eqb}
use Rattle.std.proofs.lemmas.Bool.{and_parts, and_from}
use Rattle.std.proofs.lemmas.List.{append-nil, length-append}
use Rattle.std.proofs.lemmas.List.Folds.{list_any-append, list_all-append}
use Rattle.p3_formula.specs.Forms.{State, is_set, truth, has_atoms}
use Rattle.p3_formula.specs.Tidy.{is_tidy}
use Rattle.p3_formula.specs.Literals.{is_met, literal, said_of, with_all, with_one}
use Rattle.p3_formula.specs.Next.{after, is_added, is_deleted, is_set_after}
use Rattle.p3_formula.specs.Settled.{Agrees, also}
use Rattle.p3_formula.specs.Simplified.{is_value}
use Rattle.p3_formula.specs.Trimmed.{clearings, granted, granted_to, is_cleared_by, settled_change, trimmed, trimmed_beside, trimmed_by, trimmed_change, unless_never}
use Rattle.p3_formula.specs.declared.form.Change.{Change}
use Rattle.p3_formula.specs.declared.literals.Literal.{Literal}
use Rattle.p3_formula.proofs.LiteralLaws.{some-is, said_is_so}
use Rattle.p3_formula.proofs.SettledTruth.{settled_truth, value_truth}
use Rattle.p3_formula.proofs.SettledLaws.{settled_tidy, settled_atoms_of}

module _ (state : State) (known : ℕ → Option Bool) (agrees : Agrees known state) where
  -- one literal more is so
  also_so : (one : Literal) → is_set state one.atom ≡ one.holds → Agrees (also (Some one) known) state
  also_so one is atom bit said = by (atom == one.atom) refl said where
    by : (b : Bool) → (atom == one.atom) ≡ b → (if b then Some one.holds else known atom) ≡ Some bit → is_set state atom ≡ bit
    by true same found = ap (is_set state) (eqb-true atom one.atom same) ∙ is ∙ some-is one.holds bit found
    by false other found = agrees atom bit found

  module _ (all : List Change) (atom : ℕ) where
    abbrev test : (Bool → Bool) → Change → Bool
    test pick change = (change.atom == atom) && pick change.add && truth state change.cond

    module _ (pick : Bool → Bool) (granted_so : (change : Change) → change.atom ≡ atom → pick change.add ≡ true → Agrees (also (granted all change) known) state) where
      -- the condition counts only where the change is of the atom and of the kind
      guarded_same : (a b c d : Bool) → (a ≡ true → b ≡ true → c ≡ d) → (a && b && c) ≡ (a && b && d)
      guarded_same true true c d same = same refl refl
      guarded_same true false c d same = refl
      guarded_same false b c d same = refl

      changed_same : (change : Change) → test pick (trimmed_change known all change) ≡ test pick change
      changed_same change = guarded_same (change.atom == atom) (pick change.add) _ _
          (λ same kind. settled_truth (also (granted all change) known) change.cond state (granted_so change (eqb-true change.atom atom same) kind))

      -- what is left out is not made
      kept_same : (change : Change) → list_any (test pick) (unless_never change) ≡ test pick change
      kept_same change = by (is_value false change.cond) refl where
        by : (b : Bool) → is_value false change.cond ≡ b → list_any (test pick) (if b then [] else (change ∷ [])) ≡ test pick change
        by true never = sym (ap (λ b. (change.atom == atom) && pick change.add && b) (value_truth state false change.cond never) ∙ and-false ((change.atom == atom) && pick change.add))
        by false some = or-false (test pick change)

      any_same : (effects : List Change) → list_any (test pick) (flat_map (λ change. unless_never (trimmed_change known all change)) effects) ≡ list_any (test pick) effects
      any_same [] = refl
      any_same (change ∷ effects) =
          list_any-append (test pick) (unless_never (trimmed_change known all change)) (flat_map (λ one. unless_never (trimmed_change known all one)) effects)
          ∙ (λ i. (kept_same (trimmed_change known all change) ∙ changed_same change) i || any_same effects i)

    -- ---- what a change takes for granted

    clearing : is_set state atom ≡ true → (change : Change) → change.atom ≡ atom → not change.add ≡ true → Agrees (also (granted all change) known) state
    clearing set change same kind = by change.add kind (is_cleared_by all change.atom) where
      by : (b : Bool) → not b ≡ true → (c : Bool) → Agrees (also (granted_to b c change.atom) known) state
      by true is c = absurd (cc)
      by false is c = also_so (literal change.atom true) (ap (is_set state) same ∙ set)

    setting : is_set state atom ≡ false → (change : Change) → change.atom ≡ atom → change.add ≡ true → Agrees (also (granted all change) known) state
    setting unset change same kind = by change.add kind (is_cleared_by all change.atom) where
      by : (b : Bool) → b ≡ true → (c : Bool) → Agrees (also (granted_to b c change.atom) known) state
      by true is true = agrees
      by true is false = also_so (literal change.atom false) (ap (is_set state) same ∙ unset)
      by false is c = absurd (cc)

    beside_clearing : is_cleared_by all atom ≡ true → (change : Change) → change.atom ≡ atom → change.add ≡ true → Agrees (also (granted all change) known) state
    beside_clearing cleared change same kind = by change.add kind (is_cleared_by all change.atom) (ap (is_cleared_by all) same ∙ cleared) where
      by : (b : Bool) → b ≡ true → (c : Bool) → c ≡ true → Agrees (also (granted_to b c change.atom) known) state
      by true is true one = agrees
      by true is false one = absurd (cc)
      by false is c one = absurd (cc)

    -- where no change may clear the atom, none does
    none_clears : (effects : List Change) → is_cleared_by effects atom ≡ false → list_any (test not) effects ≡ false
    none_clears [] none = refl
    none_clears (change ∷ effects) none = by ((change.atom == atom) && not change.add) refl none (none_clears effects) where
      by : (b : Bool) → ((change.atom == atom) && not change.add) ≡ b → (b || is_cleared_by effects atom) ≡ false → (is_cleared_by effects atom ≡ false → list_any (test not) effects ≡ false)
          → (((change.atom == atom) && not change.add && truth state change.cond) || list_any (test not) effects) ≡ false
      by true is h rest = absurd (cc)
      by false is h rest = ap (λ b. (b && truth state change.cond) || list_any (test not) effects) is ∙ rest h

    atom_same : is_set_after state (trimmed known all) atom ≡ is_set_after state all atom
    atom_same = by (is_set state atom) refl (is_cleared_by all atom) refl where
      by : (set : Bool) → is_set state atom ≡ set → (cleared : Bool) → is_cleared_by all atom ≡ cleared → is_set_after state (trimmed known all) atom ≡ is_set_after state all atom
      by true set true cleared = λ i. any_same (λ b. b) (beside_clearing cleared) all i || is_set state atom && not (any_same not (clearing set) all i)
      by true set false cleared =
          let none = none_clears all cleared in
          (λ i. is_added state (trimmed known all) atom || set i && not ((any_same not (clearing set) all ∙ none) i))
          ∙ or-true (is_added state (trimmed known all) atom)
          ∙ sym (or-true (is_added state all atom))
          ∙ (λ i. is_added state all atom || sym set i && not (sym none i))
      by false unset cleared is =
          (λ i. any_same (λ b. b) (setting unset) all i || unset i && not (is_deleted state (trimmed known all) atom))
          ∙ (λ i. is_added state all atom || sym unset i && not (is_deleted state all atom))

pub trimmed_after : (known : ℕ → Option Bool) (effects : List Change) (state : State) → Agrees known state → after state (trimmed known effects) ≡ after state effects
unfolding after
trimmed_after known effects state agrees = λ i. map (λ atom. atom_same state known agrees effects atom i) (range_with_len 0 (length state))

pub trimmed_met : (literals : List Literal) (effects : List Change) (state : State) → list_all (is_met state) literals ≡ true → after state (trimmed (said_of literals) effects) ≡ after state effects
trimmed_met literals effects state met = trimmed_after (said_of literals) effects state (said_is_so state literals met)

-- ---- what may be cleared, as literals

said_last : (literals : List Literal) (one : Literal) (atom : ℕ) → is_some (said_of (literals ++ one ∷ []) atom) ≡ (is_some (said_of literals atom) || (atom == one.atom))
said_last [] one atom = by (atom == one.atom) where
  by : (b : Bool) → is_some (if b then Some one.holds else None) ≡ b
  by true = refl
  by false = refl
said_last (first ∷ literals) one atom = by (atom == first.atom) (said_last literals one atom) where
  by : (b : Bool) → is_some (said_of (literals ++ one ∷ []) atom) ≡ (is_some (said_of literals atom) || (atom == one.atom))
      → is_some (if b then Some first.holds else said_of (literals ++ one ∷ []) atom) ≡ (is_some (if b then Some first.holds else said_of literals atom) || (atom == one.atom))
  by true rest = refl
  by false rest = rest

eq_other : (a b : ℕ) → (a == b) ≡ (b == a)
eq_other a b = by (a == b) refl (b == a) refl where
  by : (x : Bool) → (a == b) ≡ x → (y : Bool) → (b == a) ≡ y → x ≡ y
  by true l true r = refl
  by true l false r = sym (eq-eqb b a (sym (eqb-true a b l))) ∙ r
  by false l true r = sym l ∙ eq-eqb a b (sym (eqb-true b a r))
  by false l false r = refl

said_one : (literals : List Literal) (one : Literal) (atom : ℕ) → is_some (said_of (with_one literals one) atom) ≡ (is_some (said_of literals atom) || (one.atom == atom))
said_one literals one atom = by (is_some (said_of literals one.atom)) refl where
  by : (b : Bool) → is_some (said_of literals one.atom) ≡ b → is_some (said_of (if b then literals else (literals ++ one ∷ [])) atom) ≡ (is_some (said_of literals atom) || (one.atom == atom))
  by true there = there_by (one.atom == atom) refl where
    there_by : (b : Bool) → (one.atom == atom) ≡ b → is_some (said_of literals atom) ≡ (is_some (said_of literals atom) || b)
    there_by true same = sym (ap (λ a. is_some (said_of literals a)) (eqb-true one.atom atom same)) ∙ there ∙ sym (or-true (is_some (said_of literals atom)))
    there_by false other = sym (or-false (is_some (said_of literals atom)))
  by false new = said_last literals one atom ∙ ap (λ b. is_some (said_of literals atom) || b) (eq_other atom one.atom)

or_more : (a b c : Bool) → ((a || b) || c) ≡ (a || (b || c))
or_more true b c = refl
or_more false b c = refl

said_cleared : (literals : List Literal) (effects : List Change) (atom : ℕ) → is_some (said_of (with_all literals (clearings effects)) atom) ≡ (is_some (said_of literals atom) || is_cleared_by effects atom)
said_cleared literals [] atom = sym (or-false (is_some (said_of literals atom)))
said_cleared literals (change ∷ effects) atom = by change.add (said_cleared literals effects atom) (said_cleared (with_one literals (literal change.atom false)) effects atom) where
  by : (b : Bool) → is_some (said_of (with_all literals (clearings effects)) atom) ≡ (is_some (said_of literals atom) || is_cleared_by effects atom)
      → is_some (said_of (with_all (with_one literals (literal change.atom false)) (clearings effects)) atom) ≡ (is_some (said_of (with_one literals (literal change.atom false)) atom) || is_cleared_by effects atom)
      → is_some (said_of (with_all literals (if b then clearings effects else (literal change.atom false ∷ clearings effects))) atom) ≡ (is_some (said_of literals atom) || (((change.atom == atom) && not b) || is_cleared_by effects atom))
  by true without with_it = without ∙ ap (λ b. is_some (said_of literals atom) || (b || is_cleared_by effects atom)) (sym (and-false (change.atom == atom)))
  by false without with_it =
      with_it ∙ ap (λ b. b || is_cleared_by effects atom) (said_one literals (literal change.atom false) atom)
      ∙ or_more (is_some (said_of literals atom)) (change.atom == atom) (is_cleared_by effects atom)
      ∙ ap (λ b. is_some (said_of literals atom) || (b || is_cleared_by effects atom)) (sym (and-true (change.atom == atom)))

pub trimmed_is : (known : ℕ → Option Bool) (effects : List Change) → trimmed_beside known (with_all [] (clearings effects)) effects ≡ trimmed known effects
unfolding trimmed_beside
trimmed_is known effects = λ i. trimmed_by known (λ atom. said_cleared [] effects atom i) effects

pub one_trimmed : (known : ℕ → Option Bool) (literals : List Literal) (all new : List Change) (change : Change) (own : Option Literal) (rest : List Change)
    → new ≡ all ++ unless_never (settled_change known own change) → own ≡ granted_to change.add (is_some (said_of literals change.atom)) change.atom
    → new ++ trimmed_beside known literals rest ≡ all ++ trimmed_beside known literals (change ∷ rest)
unfolding trimmed_beside
one_trimmed known literals all new change own rest is grants =
    ap (λ list. list ++ trimmed_beside known literals rest) is
    ∙ append_assoc all (unless_never (settled_change known own change)) (trimmed_beside known literals rest)
    ∙ (λ i. all ++ (unless_never (settled_change known (grants i) change) ++ trimmed_beside known literals rest))

pub none_of : (effects : List Change) → length effects ≡ 0 → effects ≡ []
none_of [] e = refl
none_of (change ∷ effects) e = absurd (omega (arith, e))

pub none_left : (known : ℕ → Option Bool) (literals : List Literal) (all : List Change) → all ++ trimmed_beside known literals [] ≡ all
unfolding trimmed_beside
none_left known literals all = append-nil all

-- ---- the conditions, and how many there are

module _ (known : ℕ → Option Bool) (all : List Change) (p q : Change → Bool) (each : (change : Change) → p change ≡ true → q (trimmed_change known all change) ≡ true) where
  unless_all : (change : Change) → q change ≡ true → list_all q (unless_never change) ≡ true
  unless_all change passes = by (is_value false change.cond) where
    by : (b : Bool) → list_all q (if b then [] else (change ∷ [])) ≡ true
    by true = refl
    by false = and_from (q change) true passes refl

  all_trimmed : (effects : List Change) → list_all p effects ≡ true → list_all q (flat_map (λ change. unless_never (trimmed_change known all change)) effects) ≡ true
  all_trimmed [] h = refl
  all_trimmed (change ∷ effects) h =
      let both = and_parts (p change) _ h in
      list_all-append q (unless_never (trimmed_change known all change)) (flat_map (λ one. unless_never (trimmed_change known all one)) effects)
      ∙ and_from (list_all q (unless_never (trimmed_change known all change))) _ (unless_all (trimmed_change known all change) (each change both.0)) (all_trimmed effects both.1)

all_pass : (effects : List Change) → list_all (λ (change : Change). true) effects ≡ true
all_pass [] = refl
all_pass (change ∷ effects) = all_pass effects

pub trimmed_tidy : (known : ℕ → Option Bool) (effects : List Change) → list_all (λ (change : Change). is_tidy change.cond) (trimmed known effects) ≡ true
trimmed_tidy known effects = all_trimmed known effects (λ change. true) (λ change. is_tidy change.cond) (λ change passes. settled_tidy (also (granted effects change) known) change.cond) effects (all_pass effects)

pub trimmed_atoms : (known : ℕ → Option Bool) (effects : List Change) (allowed : ℕ → Bool) → list_all (λ (change : Change). allowed change.atom && has_atoms allowed change.cond) effects ≡ true
    → list_all (λ (change : Change). allowed change.atom && has_atoms allowed change.cond) (trimmed known effects) ≡ true
trimmed_atoms known effects allowed h =
    all_trimmed known effects (λ change. allowed change.atom && has_atoms allowed change.cond) (λ change. allowed change.atom && has_atoms allowed change.cond)
    (λ change passes.
    let both = and_parts (allowed change.atom) _ passes in
    and_from (allowed change.atom) _ both.0 (settled_atoms_of (also (granted effects change) known) change.cond allowed both.1))
    effects h

trimmed_fewer : (known : ℕ → Option Bool) (cleared : ℕ → Bool) (effects : List Change) → length (trimmed_by known cleared effects) ≤ length effects
trimmed_fewer known cleared [] = omega arith
trimmed_fewer known cleared (change ∷ effects) =
    let one = settled_change known (granted_to change.add (cleared change.atom) change.atom) change in
    let h = trimmed_fewer known cleared effects in
    let k = length-append (unless_never one) (trimmed_by known cleared effects) in
    let l = at_most_one one in
    omega arith where
      at_most_one : (change : Change) → length (unless_never change) ≤ 1
      at_most_one change = by (is_value false change.cond) where
        by : (b : Bool) → length (if b then [] else (change ∷ [])) ≤ 1
        by true = omega arith
        by false = omega arith

pub trimmed_no_more : (known : ℕ → Option Bool) (effects : List Change) → length (trimmed known effects) ≤ length effects
trimmed_no_more known effects = trimmed_fewer known (is_cleared_by effects) effects

pub trimmed_does : (literals cleared : List Literal) (effects items listed simple : List Change) → cleared ≡ with_all [] (clearings listed) → listed ≡ effects → items ≡ effects
    → simple ≡ trimmed_beside (said_of literals) cleared items → (state : State) → list_all (is_met state) literals ≡ true → after state simple ≡ after state effects
trimmed_does literals cleared effects items listed simple clears is_listed is_items is state met =
    ap (after state) (is ∙ (λ i. trimmed_beside (said_of literals) ((clears ∙ ap (λ list. with_all [] (clearings list)) is_listed) i) (is_items i)) ∙ trimmed_is (said_of literals) effects)
    ∙ trimmed_met literals effects state met
