-- Changes that are simplified may happen, and no more of them have a condition.
use Rattle.std.proofs.Common.{◌≡◌, ◌∙◌, ℕ, ◌≤◌, Bool, true, false, not, cond, List, [], ◌∷◌, ◌++◌, Option, refl, sym, ap, subst, arith}
use Rattle.std.specs.Prelude.{count_by, if◌then◌else◌}
use Rattle.std.specs.List.{All, list_all}
use Rattle.std.proofs.lemmas.Bool.{and_parts, and_from}
use Rattle.std.proofs.lemmas.List.Elements.{All-cons, All-nil}
use Rattle.std.proofs.lemmas.List.Sums.{sum_by-cons}
use Rattle.p3_formula.specs.Settled.{also, settled}
use Rattle.p3_formula.specs.Simplified.{is_value}
use Rattle.p3_formula.specs.Tidy.{is_tidy}
use Rattle.p3_formula.specs.Trimmed.{granted_to, is_cleared_by, settled_change, trimmed, trimmed_by, unless_never}
use Rattle.p3_formula.specs.declared.form.Change.{Change}
use Rattle.p3_formula.specs.declared.form.Form.{Form}
use Rattle.p3_formula.proofs.SameLemmas.{true_is}
use Rattle.p3_formula.proofs.SettledLaws.{settled-True}
use Rattle.p3_compile.specs.Lean.{is_conditional}
use Rattle.p3_compile.specs.Updated.{AreSimpler, MayHappen}

-- ---- changes that happen always

pub certain_tidy : (changes : List Change) → list_all (λ (change : Change). is_value true change.cond) changes ≡ true → list_all (λ (change : Change). is_tidy change.cond) changes ≡ true
certain_tidy [] all = refl
certain_tidy (change ∷ changes) all =
    let parts = and_parts (is_value true change.cond) _ all in
    and_from (is_tidy change.cond) _ (ap is_tidy (sym (true_is change.cond parts.0))) (certain_tidy changes parts.1)

pub certain_possible : (changes : List Change) → list_all (λ (change : Change). is_value true change.cond) changes ≡ true → All MayHappen changes
certain_possible [] all = All-nil MayHappen
certain_possible (change ∷ changes) all =
    let parts = and_parts (is_value true change.cond) _ all in
    All-cons MayHappen change changes (ap (is_value false) (sym (true_is change.cond parts.0))) (certain_possible changes parts.1)

-- changes as they are
pub certain_simpler : (pre : Form) (changes : List Change) → AreSimpler pre changes changes
certain_simpler pre changes = record {
  does = λ state holds. refl;
  fewer = omega arith;
  conditional = omega arith;
  atoms = λ allowed within. within;
}

-- ---- trimmed changes

abbrev one : Bool → ℕ
one b = cond b 1 0

abbrev conditions : List Change → ℕ
conditions changes = count_by is_conditional changes

at_most_one : (b : Bool) → one b ≤ 1
at_most_one true = omega arith
at_most_one false = omega arith

-- what always holds stays so
stays_certain : (known : ℕ → Option Bool) (form : Form) → one (not (is_value true (settled known form))) ≤ one (not (is_value true form))
stays_certain known form = by (is_value true form) refl
  where
    by : (b : Bool) → is_value true form ≡ b → one (not (is_value true (settled known form))) ≤ one (not b)
    by true is = subst (λ simple. one (not (is_value true simple)) ≤ 0) (sym (ap (settled known) (sym (true_is form is)) ∙ settled-True known)) (omega arith)
    by false is = at_most_one (not (is_value true (settled known form)))

-- one change more, where it may happen
one_possible : (new : Change) (news : List Change) → All MayHappen news → All MayHappen (unless_never new ++ news)
one_possible new news rest = by (is_value false new.cond) refl
  where
    by : (never : Bool) → is_value false new.cond ≡ never → All MayHappen ((if never then [] else (new ∷ [])) ++ news)
    by true is = rest
    by false is = All-cons MayHappen new news is rest

possible_by : (known : ℕ → Option Bool) (cleared : ℕ → Bool) (changes : List Change) → All MayHappen (trimmed_by known cleared changes)
possible_by known cleared [] = All-nil MayHappen
possible_by known cleared (change ∷ changes) =
    one_possible (settled_change known (granted_to change.add (cleared change.atom) change.atom) change) (trimmed_by known cleared changes) (possible_by known cleared changes)

pub trimmed_possible : (known : ℕ → Option Bool) (changes new : List Change) → new ≡ trimmed known changes → All MayHappen new
trimmed_possible known changes new is = subst (All MayHappen) (sym is) (possible_by known (is_cleared_by changes) changes)

-- so are their conditions, one change after another
one_more : (new old : Change) (news olds : List Change) → one (is_conditional new) ≤ one (is_conditional old) → conditions news ≤ conditions olds → conditions (unless_never new ++ news) ≤ conditions (old ∷ olds)
one_more new old news olds first rest = by (is_value false new.cond)
  where
    by : (never : Bool) → conditions ((if never then [] else (new ∷ [])) ++ news) ≤ conditions (old ∷ olds)
    by true = let a = sum_by-cons (λ (change : Change). one (is_conditional change)) old olds in omega (arith, rest, a)
    by false =
        let a = sum_by-cons (λ (change : Change). one (is_conditional change)) old olds in
        let b = sum_by-cons (λ (change : Change). one (is_conditional change)) new news in
        omega (arith, first, rest, a, b)

conditions_by : (known : ℕ → Option Bool) (cleared : ℕ → Bool) (changes : List Change) → conditions (trimmed_by known cleared changes) ≤ conditions changes
conditions_by known cleared [] = omega arith
conditions_by known cleared (change ∷ changes) =
    let own = granted_to change.add (cleared change.atom) change.atom in
    one_more (settled_change known own change) change (trimmed_by known cleared changes) changes (stays_certain (also own known) change.cond) (conditions_by known cleared changes)

pub trimmed_conditions : (known : ℕ → Option Bool) (changes new : List Change) → new ≡ trimmed known changes → count_by is_conditional new ≤ count_by is_conditional changes
trimmed_conditions known changes new is = subst (λ list. count_by is_conditional list ≤ count_by is_conditional changes) (sym is) (conditions_by known (is_cleared_by changes) changes)
