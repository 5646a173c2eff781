-- A formula has a tree exactly where the table takes it.
use Rattle.std.proofs.Common.{◌≡◌, ◌∙◌, refl, sym, ap, ℕ, Bool, true, false, ◌&&◌, if◌then◌else◌, List, [], ◌∷◌, Option, Some, None}
use Rattle.std.specs.Prelude.{is_some}
use mathlib.Core.Former.{Count}
use Rattle.p3_task.specs.Names.{Name}
use Rattle.p3_base.specs.Words.{is_predicate_name}
use Rattle.p3_task.specs.Grammar.Words.{◌>>=◌, ListPart, raws, descend_parts, only, pair, each_at, all_trees, choose}
use Rattle.p3_task.specs.Grammar.Lists.{term_place, variables_place}
use Rattle.p3_task.specs.Grammar.Formulas.{Parts, formula_place, formula_in, formula_forms, equal_form, atom_form, atom_in, AtomText, quantified, trees_of}
use Rattle.p3_task.specs.declared.expression.Expression.{Expression, Group', Row_of-Expression, end_of-Expression, more_of-Expression}
use Rattle.p3_task.specs.declared.expression.Expression.TheVariants as expression
use Rattle.p3_task.specs.declared.formula.Formula.{Formula}
use Rattle.p3_task.specs.declared.formula.Formula.TheVariants as formula
use Rattle.p3_task.specs.declared.term.Term.{Term}
use Rattle.p3_task.specs.declared.term.Ref.{Ref}
use Rattle.p3_places.proofs.Runs.{run}
use Rattle.p3_places.specs.Places.{formula_head, formula_rests, many_of, terms, rest_if}
use Rattle.p3_places.proofs.Fits.{ends, run_parts, fits, fits_one, fits_two}
use Rattle.p3_places.specs.declared.state.Class.TheVariants as class
use Rattle.p3_places.specs.declared.state.Place.TheVariants as place
use Rattle.p3_places.specs.declared.state.Slot.{Slot}
use Rattle.p3_places.specs.declared.state.Slot.TheVariants as slot
use Rattle.p3_places.specs.declared.state.Rest.{Rest}
use Rattle.p3_places.specs.declared.state.State.TheVariants as state
use Rattle.p3_places.proofs.FitLemmas.{ends_one, ends_two, ends_many, choose_alike, some_bind, some_two, some_all, Agree, agree_all, raws_expressions, list_fits, term_fits, each_fits, variables_fit}

abbrev formula_slot : Slot
formula_slot = slot.List place.Formula

abbrev has : Option Formula → Bool
has o = is_some o

-- the parts behind a word have a tree as the rest of the table takes them
abbrev Same : {A : Type 0} → List Expression → Option A → Option Rest → Type 0
Same parts tree r = is_some tree ≡ ends (r >>= λ rest. run_parts (state.Rest rest) parts)

all_parts : {A : Type 0} (parts : List (ListPart (Option Formula))) → Agree has formula_slot parts → (f : List Formula → A) → is_some (all_trees (trees_of parts) >>= λ trees. Some (f trees)) ≡ ends (run_parts (state.Rest (many_of place.Formula)) (raws parts))
all_parts parts agree f =
    some_bind (all_trees (trees_of parts)) f ∙ some_all (trees_of parts) ∙ agree_all has formula_slot parts agree ∙ sym (ends_many formula_slot (raws parts))

one_part : {A : Type 0} (parts : List (ListPart (Option Formula))) → Agree has formula_slot parts → (f : Formula → A) → is_some (only (trees_of parts) >>= λ part. part >>= λ tree. Some (f tree)) ≡ fits_one (fits formula_slot) (raws parts)
one_part [] agree f = refl
one_part (part ∷ []) agree f = some_bind part.tree f ∙ agree.0
one_part (part ∷ other ∷ parts) agree f = refl

two_parts : {A : Type 0} (parts : List (ListPart (Option Formula))) → Agree has formula_slot parts → (f : Formula → Formula → A)
    → is_some (pair (trees_of parts) >>= λ both. both.0 >>= λ first. both.1 >>= λ second. Some (f first second)) ≡ fits_two (fits formula_slot) (fits formula_slot) (raws parts)
two_parts [] agree f = refl
two_parts (part ∷ []) agree f = refl
two_parts (part ∷ other ∷ []) agree f =
    some_two part.tree other.tree f ∙ ap (λ b. b && is_some other.tree) agree.0 ∙ ap (λ b. fits formula_slot part.raw && b) agree.1.0
two_parts (part ∷ other ∷ third ∷ parts) agree f = refl

quantified_parts : (parts : List (ListPart (Option Formula))) → Agree has formula_slot parts → is_some (quantified parts) ≡ fits_two (fits (slot.List place.Variables)) (fits formula_slot) (raws parts)
quantified_parts [] agree = refl
quantified_parts (part ∷ []) agree = refl
quantified_parts (part ∷ other ∷ []) agree =
    some_two (variables_place part.raw) other.tree (λ v b. (v, b)) ∙ ap (λ b. b && is_some other.tree) (variables_fit part.raw) ∙ ap (λ b. fits (slot.List place.Variables) part.raw && b) agree.1.0
quantified_parts (part ∷ other ∷ third ∷ parts) agree = refl

equal_parts : (parts : List (ListPart (Option Formula))) → is_some (equal_form parts) ≡ fits_two (fits (slot.Word class.Term)) (fits (slot.Word class.Term)) (raws parts)
equal_parts [] = refl
equal_parts (part ∷ []) = refl
equal_parts (part ∷ other ∷ []) =
    some_two (term_place part.raw) (term_place other.raw) (λ a b. formula.Equal a b) ∙ ap (λ b. b && is_some (term_place other.raw)) (term_fits part.raw) ∙ ap (λ b. fits (slot.Word class.Term) part.raw && b) (term_fits other.raw)
equal_parts (part ∷ other ∷ third ∷ parts) = refl

-- a predicate's name and terms
pub named : {A B C : Type 0} (b : Bool) (a : A) (args : Option B) (f : A → B → C) (parts : List Expression) → is_some args ≡ ends (run_parts (state.Rest terms) parts)
    → is_some ((if b then Some a else None) >>= λ pred. args >>= λ found. Some (f pred found)) ≡ ends (rest_if b terms >>= λ r. run_parts (state.Rest r) parts)
named true a args f parts same = some_bind args (f a) ∙ same
named false a args f parts same = refl

pub terms_fit : (parts : List Expression) → is_some (each_at term_place parts) ≡ ends (run_parts (state.Rest terms) parts)
terms_fit parts = each_fits term_place (slot.Word class.Term) term_fits parts ∙ sym (ends_many (slot.Word class.Term) parts)

formula_choice : (text : Name) (behind : List (ListPart (Option Formula))) → Agree has formula_slot behind
    → (other : Parts → Option Formula) → Same (raws behind) (other behind) (rest_if (is_predicate_name text) terms)
    → Same (raws behind) (choose text formula_forms other behind) (formula_head text)
formula_choice text behind agree other last =
    choose_alike (λ f r. Same (raws behind) (f behind) r) text formula_forms formula_rests other (rest_if (is_predicate_name text) terms)
    ((
      refl,
      all_parts behind agree formula.And,
      (
        refl,
        all_parts behind agree formula.Or,
        (
          refl,
          one_part behind agree formula.Not ∙ sym (ends_one formula_slot (raws behind)),
          (
            refl,
            two_parts behind agree formula.Imply ∙ sym (ends_two formula_slot formula_slot (raws behind)),
            (
              refl,
              some_bind (quantified behind) (λ found. formula.Exists found.0 found.1) ∙ quantified_parts behind agree ∙ sym (ends_two (slot.List place.Variables) formula_slot (raws behind)),
              (
                refl,
                some_bind (quantified behind) (λ found. formula.Forall found.0 found.1) ∙ quantified_parts behind agree ∙ sym (ends_two (slot.List place.Variables) formula_slot (raws behind)),
                (
                  refl,
                  equal_parts behind ∙ sym (ends_two (slot.Word class.Term) (slot.Word class.Term) (raws behind)),
                  tt,
                ),
              ),
            ),
          ),
        ),
      ),
    ))
    last

bind_rest : (r : Option Rest) (parts : List Expression) → ends (r >>= λ next. run_parts (state.Rest next) parts) ≡ ends ((r >>= λ next. Some (state.Rest next)) >>= λ s. run_parts s parts)
bind_rest None parts = refl
bind_rest (Some r) parts = refl

abbrev the_word : Name → ℕ → Ref
the_word text at = record { name = text; at = at }

abbrev the_atom : Ref → List Term → AtomText
the_atom pred args = record { pred = pred; args = args }

-- any other word is a predicate
atom_fits : (at : _) (text : Name) (tree : Option Formula) (behind : List (ListPart (Option Formula)))
    → Same (raws behind) (atom_form (record { raw = expression.Word at text; tree = tree } ∷ behind)) (rest_if (is_predicate_name text) terms)
atom_fits at text tree behind =
    some_bind (atom_in (expression.Word at text ∷ raws behind)) (λ atom. formula.Atom atom.pred atom.args)
    ∙ named (is_predicate_name text) (the_word text at) (each_at term_place (raws behind)) (λ pred args. the_atom pred args) (raws behind) (terms_fit (raws behind))

formula_first : (e : Expression) (tree : Option Formula) (behind : List (ListPart (Option Formula))) → Agree has formula_slot behind
    → is_some (formula_in (record { raw = e; tree = tree } ∷ behind)) ≡ ends (run_parts (state.Head place.Formula) (e ∷ raws behind))
unfolding run
formula_first (expression.Word at text) tree behind agree =
    formula_choice text behind agree (λ _. atom_form (record { raw = expression.Word at text; tree = tree } ∷ behind)) (atom_fits at text tree behind)
    ∙ bind_rest (formula_head text) (raws behind)
formula_first (Group' at shape row) tree behind agree = refl

formula_in_fits : (parts : List (ListPart (Option Formula))) → Agree has formula_slot parts → is_some (formula_in parts) ≡ ends (run_parts (state.Head place.Formula) (raws parts))
formula_in_fits [] agree = refl
formula_in_fits (part ∷ behind) agree = formula_first part.raw part.tree behind agree.1

mutual
  unfolding formula_place

  pub formula_fits : (e : Expression) → is_some (formula_place e) ≡ fits formula_slot e
  formula_fits (expression.Word at text) = refl
  formula_fits (Group' at shape row) =
      formula_in_fits (descend_parts (λ word. None) (λ list parts. formula_in parts) row) (formulas_fit row)
      ∙ ap (λ parts. ends (run_parts (state.Head place.Formula) parts)) (raws_expressions (λ word. None) (λ list parts. formula_in parts) row)
      ∙ sym (list_fits place.Formula row)

  formulas_fit : {n : Count} (row : Row_of-Expression n) → Agree has formula_slot (descend_parts (λ word. None) (λ list parts. formula_in parts) row)
  formulas_fit end_of-Expression = tt
  formulas_fit (more_of-Expression part rest) = (formula_fits part, formulas_fit rest)
