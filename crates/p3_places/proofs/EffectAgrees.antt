-- Effects have trees exactly where the table takes them.
use Rattle.std.proofs.Common.{◌≡◌, ◌∙◌, refl, sym, ap, Bool, true, false, not, ◌&&◌, if◌then◌else◌, List, [], ◌∷◌, map, Option, Some, None}
use Rattle.std.specs.Prelude.{is_some}
use Rattle.std.specs.List.{list_all}
use Rattle.std.specs.Option.{option_or}
use mathlib.Core.Former.{Count}
use Rattle.p3_base.specs.Words.{is_predicate_name, is_function_name}
use Rattle.p3_task.specs.Names.{Name, same_name, total_cost, is_empty}
use Rattle.p3_task.specs.Grammar.Words.{◌>>=◌, ListPart, raws, descend, descend_parts, expressions, only, pair, parts_place, is_decimal, is_word, each_at, all_trees}
use Rattle.p3_task.specs.Grammar.Lists.{term_place, variables_place}
use Rattle.p3_task.specs.Grammar.Formulas.{formula_place, atom_in, AtomText}
use Rattle.p3_task.specs.Grammar.Effects.{EffectAt, Parts, function_value_in, amount_place, total_cost_place, all_form, each_form, when_form, delete_form, increase_form, effect_forms, add_form, effect_in, effect_place, effect_or_empty_place}
use Rattle.p3_task.specs.declared.expression.Expression.{Expression, Group', Row_of-Expression, end_of-Expression, more_of-Expression}
use Rattle.p3_task.specs.declared.expression.Expression.TheVariants as expression
use Rattle.p3_task.specs.declared.effect.Amount.TheVariants as amount
use Rattle.p3_task.specs.declared.effect.Effect.{Effect}
use Rattle.p3_task.specs.declared.effect.Effect.TheVariants as effect
use Rattle.p3_task.specs.declared.effect.Numeral.{Numeral}
use Rattle.p3_task.specs.declared.term.Ref.{Ref}
use Rattle.p3_task.specs.declared.term.Term.{Term}
use Rattle.p3_places.proofs.Runs.{run}
use Rattle.p3_places.specs.Places.{amount_slot, increase_rest, effect_rests, effect_head, one_of, terms, rest_if}
use Rattle.p3_places.proofs.Fits.{ends, run_parts, fits, fits_two}
use Rattle.p3_places.specs.declared.state.Place.TheVariants as place
use Rattle.p3_places.specs.declared.state.Slot.{Slot}
use Rattle.p3_places.specs.declared.state.Slot.TheVariants as slot
use Rattle.p3_places.specs.declared.state.Rest.TheVariants as rest
use Rattle.p3_places.specs.declared.state.State.TheVariants as state
use Rattle.p3_places.proofs.FitLemmas.{if_is_some, nothing_more, ends_two, ends_many, choose_alike, some_bind, some_two, some_all, Agree, raws_expressions, list_fits, variables_fit}
use Rattle.p3_places.proofs.FormulaAgrees.{formula_fits, named, terms_fit}
use Rattle.p3_places.proofs.PlaceLemmas.{Same, bind_rest, the_word}
use Rattle.p3_places.proofs.HalfLemmas.{the_numeral, only_fits, two_fit}

-- ---- atoms, and values of functions

abbrev the_atom : Ref → List Term → AtomText
the_atom pred args = record { pred = pred; args = args }

-- behind a predicate's name
atom_behind : {A : Type 0} (f : AtomText → A) (at : _) (text : Name) (parts : List Expression)
    → Same parts (atom_in (expression.Word at text ∷ parts) >>= λ atom. Some (f atom)) (rest_if (is_predicate_name text) terms)
atom_behind f at text parts =
    some_bind (atom_in (expression.Word at text ∷ parts)) f
    ∙ named (is_predicate_name text) (the_word text at) (each_at term_place parts) (λ pred args. the_atom pred args) parts (terms_fit parts)

atom_parts : {A : Type 0} (f : AtomText → A) (parts : List Expression) → is_some (atom_in parts >>= λ atom. Some (f atom)) ≡ ends (run_parts (state.Head place.Atom) parts)
unfolding run
atom_parts f [] = refl
atom_parts f (Group' at shape row ∷ parts) = refl
atom_parts f (expression.Word at text ∷ parts) = atom_behind f at text parts ∙ bind_rest (rest_if (is_predicate_name text) terms) parts

atom_fits : {A : Type 0} (f : AtomText → A) (e : Expression) → is_some (parts_place e >>= λ parts. atom_in parts >>= λ atom. Some (f atom)) ≡ fits (slot.List place.Atom) e
atom_fits f (expression.Word at text) = refl
atom_fits f (Group' at shape row) = atom_parts f (expressions row) ∙ sym (list_fits place.Atom row)

abbrev nothing : (A : Type 0) → Option A
nothing A = None

none_by : {A : Type 0} (B : Type 0) (o : Option A) → is_some (o >>= λ a. nothing B) ≡ false
none_by B None = refl
none_by B (Some a) = refl

-- a function's name, if it is not the total cost
value_named : {A B : Type 0} (b : Bool) (word : Ref) (is_total : Ref → Bool) (args : Option A) (f : Ref → A → B) (parts : List Expression) → is_some args ≡ ends (run_parts (state.Rest terms) parts)
    → is_some ((if b then Some word else None) >>= λ function. args >>= λ found. if is_total function then None else Some (f function found))
    ≡ ends (rest_if (b && not (is_total word)) terms >>= λ r. run_parts (state.Rest r) parts)
value_named {B = B} true word is_total args f parts same = by (is_total word)
  where
    by : (total : Bool) → is_some (args >>= λ found. if total then None else Some (f word found)) ≡ ends (rest_if (not total) terms >>= λ r. run_parts (state.Rest r) parts)
    by true = none_by B args
    by false = some_bind args (f word) ∙ same
value_named false word is_total args f parts same = refl

value_parts : (parts : List Expression) → is_some (function_value_in parts) ≡ ends (run_parts (state.Head place.Atom) parts)
unfolding run
value_parts [] = refl
value_parts (Group' at shape row ∷ parts) = refl
value_parts (expression.Word at text ∷ parts) =
    value_named (is_function_name text) (the_word text at) (λ function. same_name function.name total_cost) (each_at term_place parts) (λ function args. amount.Value function args) parts (terms_fit parts)
    ∙ bind_rest (rest_if (is_predicate_name text) terms) parts

numeral_alone : (b : Bool) (word : Ref) (f : Ref → Numeral) → is_some (option_or (((if b then Some word else None) >>= λ w. Some (f w)) >>= λ numeral. Some (amount.Number numeral)) None) ≡ b
numeral_alone true word f = refl
numeral_alone false word f = refl

amount_fits : (e : Expression) → is_some (amount_place e) ≡ fits amount_slot e
amount_fits (expression.Word at text) = numeral_alone (is_decimal text) (the_word text at) the_numeral
amount_fits (Group' at shape row) = value_parts (expressions row) ∙ sym (list_fits place.Atom row)

-- ---- `(total-cost)`

alone : (b : Bool) → b ≡ ends (rest_if b rest.Nothing >>= λ r. Some (state.Rest r))
alone true = refl
alone false = refl

not_alone : (b : Bool) (part : Expression) (parts : List Expression) → false ≡ ends (rest_if b rest.Nothing >>= λ r. run_parts (state.Rest r) (part ∷ parts))
not_alone true part parts = sym (nothing_more part parts)
not_alone false part parts = refl

total_cost_parts : (parts : List Expression) → is_some (only parts >>= is_word total_cost) ≡ ends (run_parts (state.Head place.TotalCost) parts)
unfolding run
total_cost_parts [] = refl
total_cost_parts (Group' at shape row ∷ []) = refl
total_cost_parts (Group' at shape row ∷ part ∷ parts) = refl
total_cost_parts (expression.Word at text ∷ []) =
    if_is_some (same_name total_cost text) (the_word text at) ∙ alone (same_name total_cost text) ∙ bind_rest (rest_if (same_name total_cost text) rest.Nothing) []
total_cost_parts (expression.Word at text ∷ part ∷ parts) = not_alone (same_name total_cost text) part parts ∙ bind_rest (rest_if (same_name total_cost text) rest.Nothing) (part ∷ parts)

total_cost_fits : (e : Expression) → is_some (total_cost_place e) ≡ fits (slot.List place.TotalCost) e
total_cost_fits (expression.Word at text) = refl
total_cost_fits (Group' at shape row) = total_cost_parts (expressions row) ∙ sym (list_fits place.TotalCost row)

-- ---- the forms of effects

abbrev effect_slot : Bool → Slot
effect_slot free = slot.List (place.Effect free)

-- whether there is an effect where an increase may stand, or may not
abbrev has : Bool → EffectAt → Bool
has free found = is_some (found free)

trees_agree : (free : Bool) (parts : Parts) → Agree (has free) (effect_slot free) parts → list_all is_some (map (λ (part : ListPart EffectAt). part.tree free) parts) ≡ list_all (fits (effect_slot free)) (raws parts)
trees_agree free [] agree = refl
trees_agree free (part ∷ parts) agree =
    ap (λ b. b && list_all is_some (map (λ (part : ListPart EffectAt). part.tree free) parts)) agree.0 ∙ ap (λ b. fits (effect_slot free) part.raw && b) (trees_agree free parts agree.1)

all_fits : (free : Bool) (behind : Parts) → Agree (has free) (effect_slot free) behind → Same (raws behind) (all_form behind free) (Some (rest.Many (effect_slot free)))
all_fits free behind agree =
    some_bind (all_trees (map (λ (part : ListPart EffectAt). part.tree free) behind)) effect.All ∙ some_all (map (λ (part : ListPart EffectAt). part.tree free) behind)
    ∙ trees_agree free behind agree ∙ sym (ends_many (effect_slot free) (raws behind))

each_fits : (free : Bool) (behind : Parts) → Agree (has false) (effect_slot false) behind → Same (raws behind) (each_form behind free) (Some (rest.Two (slot.List place.Variables) (effect_slot false)))
each_fits free behind agree = by behind agree ∙ sym (ends_two (slot.List place.Variables) (effect_slot false) (raws behind))
  where
    by : (behind : Parts) → Agree (has false) (effect_slot false) behind → is_some (each_form behind free) ≡ fits_two (fits (slot.List place.Variables)) (fits (effect_slot false)) (raws behind)
    by [] agree = refl
    by (part ∷ []) agree = refl
    by (part ∷ other ∷ []) agree =
        some_two (variables_place part.raw) (other.tree false) effect.Each ∙ ap (λ b. b && is_some (other.tree false)) (variables_fit part.raw) ∙ ap (λ b. fits (slot.List place.Variables) part.raw && b) agree.1.0
    by (part ∷ other ∷ third ∷ parts) agree = refl

when_fits : (free : Bool) (behind : Parts) → Agree (has false) (effect_slot false) behind → Same (raws behind) (when_form behind free) (Some (rest.Two (slot.List place.Formula) (effect_slot false)))
when_fits free behind agree = by behind agree ∙ sym (ends_two (slot.List place.Formula) (effect_slot false) (raws behind))
  where
    by : (behind : Parts) → Agree (has false) (effect_slot false) behind → is_some (when_form behind free) ≡ fits_two (fits (slot.List place.Formula)) (fits (effect_slot false)) (raws behind)
    by [] agree = refl
    by (part ∷ []) agree = refl
    by (part ∷ other ∷ []) agree =
        some_two (formula_place part.raw) (other.tree false) effect.If ∙ ap (λ b. b && is_some (other.tree false)) (formula_fits part.raw) ∙ ap (λ b. fits (slot.List place.Formula) part.raw && b) agree.1.0
    by (part ∷ other ∷ third ∷ parts) agree = refl

delete_fits : (free : Bool) (behind : Parts) → Same (raws behind) (delete_form behind free) (Some (one_of place.Atom))
delete_fits free behind =
    only_fits (slot.List place.Atom) (λ e. parts_place e >>= λ parts. atom_in parts >>= λ atom. Some (effect.Del atom.pred atom.args)) (atom_fits (λ atom. effect.Del atom.pred atom.args)) (raws behind)

none_by_two : {A B : Type 0} (C : Type 0) (o : Option A) (u : Option B) → is_some (o >>= λ a. u >>= λ b. nothing C) ≡ false
none_by_two C None u = refl
none_by_two C (Some a) u = none_by C u

-- no increase
no_increase : {A B : Type 0} (both : Option (Expression × Expression)) (first : Expression → Option A) (second : Expression → Option B)
    → is_some (both >>= λ both. first both.0 >>= λ a. second both.1 >>= λ b. nothing Effect) ≡ false
no_increase None first second = refl
no_increase (Some both) first second = none_by_two Effect (first both.0) (second both.1)

increase_fits : (free : Bool) (behind : Parts) → Same (raws behind) (increase_form behind free) (increase_rest free)
increase_fits true behind = two_fit (slot.List place.TotalCost) amount_slot total_cost_place amount_place (λ word increase. effect.Cost word.at increase) total_cost_fits amount_fits (raws behind)
increase_fits false behind = no_increase (pair (raws behind)) total_cost_place amount_place

-- ---- effects

effect_first : (free : Bool) (first : Expression) (tree : EffectAt) (behind : Parts) → Agree (has free) (effect_slot free) behind → Agree (has false) (effect_slot false) behind
    → is_some (effect_in (record { raw = first; tree = tree } ∷ behind) free) ≡ ends (run_parts (state.Head (place.Effect free)) (first ∷ raws behind))
unfolding run
effect_first free (Group' at shape row) tree behind agree also = refl
effect_first free (expression.Word at text) tree behind agree also =
    choose_alike (λ f r. Same (raws behind) (f behind free) r) text effect_forms (effect_rests free) (λ _. add_form (record { raw = expression.Word at text; tree = tree } ∷ behind)) (rest_if (is_predicate_name text) terms)
    ((refl, all_fits free behind agree, (refl, each_fits free behind also, (refl, when_fits free behind also, (refl, delete_fits free behind, (refl, increase_fits free behind, tt))))))
    (atom_behind (λ atom. effect.Add atom.pred atom.args) at text (raws behind))
    ∙ bind_rest (effect_head free text) (raws behind)

effect_in_fits : (free : Bool) (parts : Parts) → Agree (has free) (effect_slot free) parts → Agree (has false) (effect_slot false) parts
    → is_some (effect_in parts free) ≡ ends (run_parts (state.Head (place.Effect free)) (raws parts))
effect_in_fits free [] agree also = refl
effect_in_fits free (part ∷ behind) agree also = effect_first free part.raw part.tree behind agree.1 also.1

abbrev no_word : Expression → EffectAt
no_word word free = None

abbrev in_parts : Expression → Parts → EffectAt
in_parts list parts = effect_in parts

mutual
  found_fits : (free : Bool) (e : Expression) → is_some (descend no_word in_parts e free) ≡ fits (effect_slot free) e
  found_fits free (expression.Word at text) = refl
  found_fits free (Group' at shape row) =
      effect_in_fits free (descend_parts no_word in_parts row) (all_found free row) (all_found false row)
      ∙ ap (λ parts. ends (run_parts (state.Head (place.Effect free)) parts)) (raws_expressions no_word in_parts row)
      ∙ sym (list_fits (place.Effect free) row)

  all_found : {n : Count} (free : Bool) (row : Row_of-Expression n) → Agree (has free) (effect_slot free) (descend_parts no_word in_parts row)
  all_found free end_of-Expression = tt
  all_found free (more_of-Expression part rest) = (found_fits free part, all_found free rest)

pub effect_fits : (e : Expression) → is_some (effect_place e) ≡ fits (effect_slot true) e
unfolding effect_place
effect_fits e = found_fits true e

effect_or_empty_parts : (parts : List Expression) (o : Option Effect) → is_some o ≡ ends (run_parts (state.Head (place.Effect true)) parts)
    → is_some (if is_empty parts then Some (effect.All []) else o) ≡ ends (run_parts (state.Head place.EffectOrEmpty) parts)
unfolding run
effect_or_empty_parts [] o same = refl
effect_or_empty_parts (expression.Word at text ∷ parts) o same = same
effect_or_empty_parts (Group' at shape row ∷ parts) o same = same

pub effect_or_empty_fits : (e : Expression) → is_some (effect_or_empty_place e) ≡ fits (slot.List place.EffectOrEmpty) e
effect_or_empty_fits (expression.Word at text) = refl
effect_or_empty_fits (Group' at shape row) =
    effect_or_empty_parts (expressions row) (effect_place (Group' at shape row)) (effect_fits (Group' at shape row) ∙ list_fits (place.Effect true) row) ∙ sym (list_fits place.EffectOrEmpty row)
