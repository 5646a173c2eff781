-- The literals that a form fixes hold where it does.
use Rattle.std.proofs.Common.{◌≡◌, ◌∙◌, ℕ, ◌+◌, ◌<◌, ◌==◌, Bool, true, false, not, ◌&&◌, ◌||◌, if◌then◌else◌, List, [], ◌∷◌, ◌++◌, length, drop, get_or, map, Option, None, Some, is_some, cond, refl, sym, ap, append_assoc, true≢false}
use Rattle.std.specs.Prelude.{nat_eq}
use Rattle.std.specs.Map.{lookup}
use Rattle.std.specs.List.{flat_map, list_any, list_all}
use Rattle.std.proofs.Math.Bool.{not-not}
use Rattle.std.proofs.lemmas.Bool.{and_parts, and_from, eqb-true}
use Rattle.std.proofs.lemmas.List.{append-nil, drop_more}
use Rattle.std.proofs.lemmas.List.Folds.{list_all-append, flat_map-map}
use Rattle.indexmap.specs.IndexMap.{insert_entry}
use Rattle.indexmap.proofs.MapLemmas.{absent_from_lookup, insert_entry-absent}
use mathlib.Core.Former.{Count}
use denote.Hole.Carrier.{hidden}
use Rattle.p3_formula.specs.Folds.{fold_forms}
use Rattle.p3_formula.specs.Forms.{State, is_set, truth, truth_layer}
use Rattle.p3_formula.specs.Literals.{literal, is_same, is_met, fixed, fixed_layer, fixed_parts, literals_of, of_parts, said_of, with_all, with_one}
use Rattle.p3_formula.specs.declared.form.Form.{Form, Row_of-Form, end_of-Form, more_of-Form}
use Rattle.p3_formula.specs.declared.form.Form.TheBlock.{hidden-the_row-Form-0}
use Rattle.p3_formula.specs.declared.form.Form.TheVariants.{True, False, Atom, Not, And, Or, Not', And', Or'}
use Rattle.p3_formula.specs.declared.literals.Literal.{Literal}
use Rattle.p3_formula.proofs.FormLemmas.{fold_parts}

-- ---- one equation for each kind of form

pub fixed-True : (holds : Bool) → fixed True holds ≡ []
unfolding fixed
fixed-True holds = refl

pub fixed-False : (holds : Bool) → fixed False holds ≡ []
unfolding fixed
fixed-False holds = refl

pub fixed-Atom : (atom : ℕ) (holds : Bool) → fixed (Atom atom) holds ≡ literal atom holds ∷ []
unfolding fixed
fixed-Atom atom holds = refl

pub fixed-Not : (part : Form) (holds : Bool) → fixed (Not part) holds ≡ fixed part (not holds)
unfolding fixed hidden-the_row-Form-0 hidden
fixed-Not part holds = refl

mapped : (every holds : Bool) (parts : List Form) → of_parts every holds (map fixed parts) ≡ fixed_parts every holds parts
mapped every holds parts = ap (λ some. if is_same every holds then some else []) (flat_map-map (λ part. part every) fixed parts)

pub fixed-And : (parts : List Form) (holds : Bool) → fixed (And parts) holds ≡ fixed_parts true holds parts
unfolding fixed
fixed-And parts holds = ap (of_parts true holds) (fold_parts fixed_layer parts) ∙ mapped true holds parts

pub fixed-Or : (parts : List Form) (holds : Bool) → fixed (Or parts) holds ≡ fixed_parts false holds parts
unfolding fixed
fixed-Or parts holds = ap (of_parts false holds) (fold_parts fixed_layer parts) ∙ mapped false holds parts

pub ruleset fixed_laws = (append-nil, fixed-True, fixed-False, fixed-Atom, fixed-Not, fixed-And, fixed-Or)

-- where the truth of the whole is the other one, nothing is fixed; else what each part fixes
pub parts-other : (every holds : Bool) (parts : List Form) → (holds ≡ every → ⊥) → fixed_parts every holds parts ≡ []
parts-other true true parts differ = absurd (differ refl)
parts-other true false parts differ = refl
parts-other false true parts differ = refl
parts-other false false parts differ = absurd (differ refl)

pub parts-same : (every holds : Bool) (parts : List Form) → holds ≡ every → fixed_parts every holds parts ≡ flat_map (λ part. fixed part every) parts
parts-same true true parts same = refl
parts-same true false parts same = absurd (true≢false (sym same))
parts-same false true parts same = absurd (true≢false same)
parts-same false false parts same = refl

-- the literals of one list, and then those of another, are those of both
in_turn : (known literals more : List Literal) → with_all (with_all known literals) more ≡ with_all known (literals ++ more)
in_turn known [] more = refl
in_turn known (one ∷ literals) more = in_turn (with_one known one) literals more

-- what a part fixes, and then those behind it, is what those that are left fix
pub one_part_more : (every : Bool) (known now : List Literal) (parts : List Form) (i : ℕ) (part : Form) → i < length parts → part ≡ get_or parts i part
    → now ≡ with_all known (fixed part every)
    → with_all now (flat_map (λ part. fixed part every) (drop (i + 1) parts)) ≡ with_all known (flat_map (λ part. fixed part every) (drop i parts))
one_part_more every known now parts i part within at is =
    let rest = flat_map (λ part. fixed part every) (drop (i + 1) parts) in
    ap (λ all. with_all all rest) is ∙ in_turn known (fixed part every) rest
    ∙ ap (λ items. with_all known (flat_map (λ part. fixed part every) items)) (ap (λ x. x ∷ drop (i + 1) parts) at ∙ sym (drop_more parts i part within))

pub ruleset parts_laws = (parts-other, parts-same)

-- ---- what is fixed holds

pub neither : (a b : Bool) → (a || b) ≡ false → (a ≡ false) × (b ≡ false)
neither true b h = absurd (true≢false h)
neither false b h = (refl, h)

module _ (state : State) where
  met : (holds bit : Bool) → bit ≡ holds → is_same holds bit ≡ true
  met true bit is = is
  met false bit is = ap not is

  mutual
    unfolding truth fixed

    pub fixed_met : (form : Form) (holds : Bool) → truth state form ≡ holds → list_all (is_met state) (fixed form holds) ≡ true
    fixed_met True holds is = refl
    fixed_met False holds is = refl
    fixed_met (Atom atom) holds is = and_from (is_met state (literal atom holds)) true (met holds (is_set state atom) is) refl
    fixed_met (Not' shape (more_of-Form part rest)) holds is = fixed_met part (not holds) (sym (not-not (truth state part)) ∙ ap not is)
    fixed_met (And' shape parts) true is = all_met parts is
    fixed_met (And' shape parts) false is = refl
    fixed_met (Or' shape parts) true is = refl
    fixed_met (Or' shape parts) false is = none_met parts is

    all_met : {n : Count} (parts : Row_of-Form n) → list_all (λ part. part) (fold_forms (truth_layer state) parts) ≡ true → list_all (is_met state) (flat_map (λ part. part true) (fold_forms fixed_layer parts)) ≡ true
    all_met end_of-Form all = refl
    all_met (more_of-Form part rest) all =
        let both = and_parts (truth state part) _ all in
        list_all-append (is_met state) (fixed part true) (flat_map (λ one. one true) (fold_forms fixed_layer rest))
        ∙ and_from (list_all (is_met state) (fixed part true)) _ (fixed_met part true both.0) (all_met rest both.1)

    none_met : {n : Count} (parts : Row_of-Form n) → list_any (λ part. part) (fold_forms (truth_layer state) parts) ≡ false → list_all (is_met state) (flat_map (λ part. part false) (fold_forms fixed_layer parts)) ≡ true
    none_met end_of-Form none = refl
    none_met (more_of-Form part rest) none =
        let both = neither (truth state part) _ none in
        list_all-append (is_met state) (fixed part false) (flat_map (λ one. one false) (fold_forms fixed_layer rest))
        ∙ and_from (list_all (is_met state) (fixed part false)) _ (fixed_met part false both.0) (none_met rest both.1)

pub fixed_law : (form : Form) (state : State) → truth state form ≡ true → list_all (is_met state) (fixed form true) ≡ true
fixed_law form state is = fixed_met state form true is

-- ---- what literals say of an atom is so where they hold

is_same-true : (holds bit : Bool) → is_same holds bit ≡ true → bit ≡ holds
is_same-true true bit is = is
is_same-true false bit is = sym (not-not bit) ∙ ap not is

pub some-is : (a b : Bool) → Some a ≡ Some b → a ≡ b
some-is a b e = ap by e where
  by : Option Bool → Bool
  by None = a
  by (Some c) = c

pub none-some : (b : Bool) → None ≡ Some b → ⊥
none-some b e = true≢false (ap by e) where
  by : Option Bool → Bool
  by None = true
  by (Some c) = false

pub said_first : (literals : List Literal) (one : Literal) (atom : ℕ) (bit : Bool) (P : Type 0) → said_of (one ∷ literals) atom ≡ Some bit
    → ((one.atom ≡ atom) → one.holds ≡ bit → P) → (said_of literals atom ≡ Some bit → P) → P
said_first literals one atom bit P said here later = by (atom == one.atom) refl said where
  by : (b : Bool) → (atom == one.atom) ≡ b → (if b then Some one.holds else said_of literals atom) ≡ Some bit → P
  by true is found = here (sym (eqb-true atom one.atom is)) (some-is one.holds bit found)
  by false other found = later found

pub said_is_so : (state : State) (literals : List Literal) → list_all (is_met state) literals ≡ true → (atom : ℕ) (bit : Bool) → said_of literals atom ≡ Some bit → is_set state atom ≡ bit
said_is_so state [] all atom bit said = absurd (none-some bit said)
said_is_so state (one ∷ literals) all atom bit said =
    let both = and_parts (is_met state one) _ all in
    said_first literals one atom bit (is_set state atom ≡ bit) said
    (λ here is. sym (ap (is_set state) here) ∙ is_same-true one.holds _ both.0 ∙ is)
    (λ later. said_is_so state literals both.1 atom bit later)

-- ---- literals in a map

pub said_entry : (entries : List (ℕ × Bool)) (atom : ℕ) → said_of (literals_of entries) atom ≡ lookup (λ one. nat_eq atom one) entries
said_entry [] atom = refl
said_entry (entry ∷ entries) atom = by (nat_eq atom entry.0) (said_entry entries atom) where
  by : (b : Bool) → said_of (literals_of entries) atom ≡ lookup (λ one. nat_eq atom one) entries
      → (if b then Some entry.1 else said_of (literals_of entries) atom) ≡ cond b (Some entry.1) (lookup (λ one. nat_eq atom one) entries)
  by true rest = refl
  by false rest = rest

pub more_entries : (entries : List (ℕ × Bool)) (atom : ℕ) (holds : Bool) → literals_of (entries ++ (atom, holds) ∷ []) ≡ literals_of entries ++ literal atom holds ∷ []
more_entries [] atom holds = refl
more_entries (entry ∷ entries) atom holds = ap (λ rest. literal entry.0 entry.1 ∷ rest) (more_entries entries atom holds)

-- what holds of the literals holds of those of different atoms among them
module _ (test : Literal → Bool) where
  one_met : (literals : List Literal) (one : Literal) → list_all test literals ≡ true → test one ≡ true → list_all test (with_one literals one) ≡ true
  one_met literals one all passes = by (is_some (said_of literals one.atom)) where
    by : (b : Bool) → list_all test (if b then literals else (literals ++ one ∷ [])) ≡ true
    by true = all
    by false = list_all-append test literals (one ∷ []) ∙ and_from (list_all test literals) _ all (and_from (test one) true passes refl)

  pub all_met_once : (literals more : List Literal) → list_all test literals ≡ true → list_all test more ≡ true → list_all test (with_all literals more) ≡ true
  all_met_once literals [] all rest = all
  all_met_once literals (one ∷ more) all rest =
      let both = and_parts (test one) _ rest in all_met_once (with_one literals one) more (one_met literals one all both.0) both.1

pub known_law : (form : Form) (state : State) → truth state form ≡ true → list_all (is_met state) (with_all [] (fixed form true)) ≡ true
known_law form state is = all_met_once (is_met state) [] (fixed form true) refl (fixed_law form state is)

pub noted : (entries : List (ℕ × Bool)) (atom : ℕ) (holds : Bool) → said_of (literals_of entries) atom ≡ None → literals_of (insert_entry nat_eq entries atom holds) ≡ literals_of entries ++ literal atom holds ∷ []
noted entries atom holds new = ap literals_of (insert_entry-absent nat_eq atom holds entries (absent_from_lookup (nat_eq atom) entries (sym (said_entry entries atom) ∙ new))) ∙ more_entries entries atom holds

-- ---- literals one behind another, the last of them in a map

-- what is said first counts
pub said_behind : (literals more : List Literal) (atom : ℕ) (bit : Bool) → said_of literals atom ≡ Some bit → said_of (literals ++ more) atom ≡ Some bit
said_behind [] more atom bit said = absurd (none-some bit said)
said_behind (one ∷ literals) more atom bit said = by (atom == one.atom) said (said_behind literals more atom bit) where
  by : (b : Bool) → (if b then Some one.holds else said_of literals atom) ≡ Some bit → (said_of literals atom ≡ Some bit → said_of (literals ++ more) atom ≡ Some bit)
      → (if b then Some one.holds else said_of (literals ++ more) atom) ≡ Some bit
  by true here later = here
  by false there later = later there

pub said_only_behind : (literals more : List Literal) (atom : ℕ) → said_of literals atom ≡ None → said_of (literals ++ more) atom ≡ said_of more atom
said_only_behind [] more atom none = refl
said_only_behind (one ∷ literals) more atom none = by (atom == one.atom) none (said_only_behind literals more atom) where
  by : (b : Bool) → (if b then Some one.holds else said_of literals atom) ≡ None → (said_of literals atom ≡ None → said_of (literals ++ more) atom ≡ said_of more atom)
      → (if b then Some one.holds else said_of (literals ++ more) atom) ≡ said_of more atom
  by true said later = absurd (none-some one.holds (sym said))
  by false none later = later none

pub ruleset said_laws = (said_behind, said_only_behind)

pub none_behind : (literals more : List Literal) (atom : ℕ) → said_of (literals ++ more) atom ≡ None → said_of more atom ≡ None
none_behind [] more atom none = none
none_behind (one ∷ literals) more atom none = by (atom == one.atom) none (none_behind literals more atom) where
  by : (b : Bool) → (if b then Some one.holds else said_of (literals ++ more) atom) ≡ None → (said_of (literals ++ more) atom ≡ None → said_of more atom ≡ None) → said_of more atom ≡ None
  by true said later = absurd (none-some one.holds (sym said))
  by false rest later = later rest

pub noted_behind : (literals more further : List Literal) (one : Literal) → further ≡ more ++ one ∷ [] → literals ++ further ≡ (literals ++ more) ++ one ∷ []
noted_behind literals more further one is = ap (λ rest. literals ++ rest) is ∙ sym (append_assoc literals more (one ∷ []))

pub ruleset note_laws = (append-nil, none_behind, noted_behind)
