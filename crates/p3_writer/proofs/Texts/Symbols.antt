-- Names of predicates, as they are written: each is one word, and no form of a list begins with one.
use Rattle.std.proofs.Common.{◌≡◌, ◌∙◌, ℕ, Bool, true, false, ◌&&◌, not, List, [], ◌∷◌, map, length, nat_lt, refl, sym, ap, arith, zero, suc}
use Rattle.std.specs.Prelude.{◌==◌, codes, bytes_eq, slice_index_or}
use Rattle.std.specs.List.{list_all}
use Rattle.std.proofs.lemmas.Bool.{and_parts, not-true}
use Rattle.std.proofs.lemmas.Bool.Decides.{nat_tests}
use Rattle.std.proofs.lemmas.Slice.Eq.{bytes_eq-Decides}
use Rattle.p3_base.specs.Words.{Name, has_name, is_lowered, is_name, is_predicate_name, reserved_words, same_name}
use Rattle.p3_task.specs.Grammar.Effects.{effect_forms}
use Rattle.p3_task.specs.Grammar.Formulas.{formula_forms}
use Rattle.p3_task.specs.Grammar.Goals.{goal_forms}
use Rattle.p3_task.specs.Grammar.Halves.{init_forms}
use Rattle.p3_writer.proofs.Texts.Places.{heads_none}
use Rattle.p3_lexer.proofs.WordLemmas.{IsWord}

-- the name of a predicate, as one word
pub record Symbol : Type 0 where
  pub name : Name
  pub fits : IsWord name
  pub is_predicate : is_predicate_name name ≡ true

abbrev pub names_of : List Symbol → List Name
names_of symbols = map (λ (s : Symbol). s.name) symbols

-- ---- no form begins with the name of a predicate

module _ (s : Symbol) where
  named : (is_name s.name ≡ true) × (not (has_name reserved_words s.name) ≡ true)
  named = and_parts _ _ (and_parts _ _ s.is_predicate).0

  not_reserved : (word : Name) → has_name reserved_words word ≡ true → same_name word s.name ≡ false
  not_reserved word reserved = by (same_name word s.name) refl
    where
      by : (same : Bool) → same_name word s.name ≡ same → same ≡ false
      by false e = refl
      by true e =
          let is : word ≡ s.name = (bytes_eq-Decides word s.name).0 e in
          let apart : has_name reserved_words s.name ≡ false = not-true (has_name reserved_words s.name) named.1 in
          absurd (let bad : true ≡ false = sym reserved ∙ ap (has_name reserved_words) is ∙ apart in cc)

  no_sign : (name : Name) → is_name name ≡ true → same_name (codes "=") name ≡ false
  no_sign [] e = refl
  no_sign (byte ∷ bytes) e =
      let differ : (61 == byte) ≡ false = grind (arith, nat_tests, e) in
      ap (λ same. same && bytes_eq [] bytes) differ

  abbrev other : (word : Name) → has_name reserved_words word ≡ true → not (same_name word s.name) ≡ true
  other word reserved = λ i. not (not_reserved word reserved i)

  pub no_formula : heads_none s.name formula_forms ≡ true
  no_formula = λ i. other (codes "and") refl i && (other (codes "or") refl i && (other (codes "not") refl i && (other (codes "imply") refl i
      && (other (codes "exists") refl i && (other (codes "forall") refl i && (not (no_sign s.name named.0 i) && true))))))

  pub no_effect : heads_none s.name effect_forms ≡ true
  no_effect = λ i. other (codes "and") refl i && (other (codes "forall") refl i && (other (codes "when") refl i && (other (codes "not") refl i
      && (other (codes "increase") refl i && true))))

  pub no_goal : heads_none s.name goal_forms ≡ true
  no_goal = λ i. other (codes "and") refl i && (other (codes "forall") refl i && (other (codes "preference") refl i && true))

  pub no_entry : heads_none s.name init_forms ≡ true
  no_entry = λ i. other (codes "not") refl i && (not (no_sign s.name named.0 i) && true)

-- ---- the symbols of names

pub name_fits : (name : Name) → is_name name ≡ true → list_all is_lowered name ≡ true → IsWord name
name_fits [] is lowered = absurd (cc)
name_fits (byte ∷ bytes) is lowered = lowered

pub symbols_of : (names : List Name) → list_all is_predicate_name names ≡ true → list_all (list_all is_lowered) names ≡ true
    → (symbols : List Symbol) × (names_of symbols ≡ names)
symbols_of [] passes lowered = ([], refl)
symbols_of (name ∷ names) passes lowered =
    let first = and_parts (is_predicate_name name) (list_all is_predicate_name names) passes in
    let low = and_parts (list_all is_lowered name) (list_all (list_all is_lowered) names) lowered in
    let is : is_name name ≡ true = (and_parts _ _ (and_parts _ _ first.0).0).0 in
    let rest = symbols_of names first.1 low.1 in
    (record { name = name; fits = name_fits name is low.0; is_predicate = first.0 } ∷ rest.0, ap (λ names. name ∷ names) rest.1)

-- the symbol of an atom
pub record IsSymbol (name : Name) : Type 0 where
  pub symbol : Symbol
  pub named : symbol.name ≡ name

pub symbol_at : (symbols : List Symbol) (atom : ℕ) → nat_lt atom (length (names_of symbols)) ≡ true → IsSymbol (slice_index_or (names_of symbols) atom [])
symbol_at [] atom within = absurd (let bad : nat_lt atom 0 ≡ false = grind (arith, nat_tests) in let no : true ≡ false = sym within ∙ bad in cc)
symbol_at (s ∷ symbols) zero within = record { symbol = s; named = refl }
symbol_at (s ∷ symbols) (suc atom) within = symbol_at symbols atom (grind (arith, nat_tests, within))
