-- Goals and constraints have trees exactly where the table takes them.
use Rattle.std.proofs.Common.{◌≡◌, ◌∙◌, refl, sym, ap, Bool, true, false, ◌&&◌, if◌then◌else◌, List, [], ◌∷◌, Option, Some, None}
use Rattle.std.specs.Prelude.{is_some, codes}
use Rattle.p3_task.specs.Names.{Name, is_empty, same_name}
use Rattle.p3_task.specs.Grammar.Words.{◌>>=◌, ListPart, raws, parts_place, choose, expressions}
use Rattle.p3_task.specs.Grammar.Formulas.{formula_place}
use Rattle.p3_task.specs.Grammar.Goals.{goal_place, goal_in, goal_forms, plain_form, preferred, goal_or_empty_place}
use Rattle.p3_task.specs.Grammar.Constraints.{modal_place, modal_in, modal_forms, with_one, with_two, at_end_form, inner_place, inner_forms, constraint_in, constraint_place, constraint_or_empty_place, single_form, preference_form}
use Rattle.p3_task.specs.declared.expression.Expression.{Expression, Group'}
use Rattle.p3_task.specs.declared.expression.Expression.TheVariants as expression
use Rattle.p3_task.specs.declared.formula.Formula.{Formula}
use Rattle.p3_task.specs.declared.goal.PreGoal.{PreGoal}
use Rattle.p3_task.specs.declared.goal.PreGoal.TheVariants as goal
use Rattle.p3_task.specs.Modal.{Modal}
use Rattle.p3_base.specs.declared.operator.Operator.TheVariants as modal
use Rattle.p3_task.specs.declared.constraint.Constraint.{Constraint}
use Rattle.p3_task.specs.declared.constraint.Constraint.TheVariants as constraint
use Rattle.p3_places.proofs.Runs.{run}
use Rattle.p3_places.specs.Places.{formula_head, goal_head, goal_rests, modal_head, modal_rests, inner_head, inner_rests, constraint_head, constraint_rests, one_of, two_of}
use Rattle.p3_places.proofs.Fits.{ends, run_parts, fits, fits_one, fits_two}
use Rattle.p3_places.specs.declared.state.Class.TheVariants as class
use Rattle.p3_places.specs.declared.state.Place.TheVariants as place
use Rattle.p3_places.specs.declared.state.Slot.TheVariants as slot
use Rattle.p3_places.specs.declared.state.Rest.TheVariants as rest
use Rattle.p3_places.specs.declared.state.State.TheVariants as state
use Rattle.p3_places.proofs.FitLemmas.{ends_one, ends_two, choose_alike, some_bind, some_two, Agree, list_fits}
use Rattle.p3_places.proofs.FormulaAgrees.{formula_fits}
use Rattle.p3_places.proofs.PlaceLemmas.{has, Same, IsRow, Lists, descend_fits, bind_rest, all_parts, each_parts, named_parts, the_word}

-- ---- preconditions and goals

-- any other list is a formula
plain_fits : (e : Expression) (text : Name) (at : _) (behind : List Expression) → IsRow e (expression.Word at text ∷ behind) → Same behind (plain_form e) (formula_head text)
unfolding run
plain_fits e text at behind row =
    some_bind (formula_place e) (λ tree. goal.Plain tree) ∙ formula_fits e ∙ row.fit place.Formula ∙ sym (bind_rest (formula_head text) behind)

goal_first : (e first : Expression) (tree : Option PreGoal) (behind : List (ListPart (Option PreGoal))) → Agree has (slot.List place.PreGoal) behind → IsRow e (first ∷ raws behind)
    → is_some (goal_in e (record { raw = first; tree = tree } ∷ behind)) ≡ ends (run_parts (state.Head place.PreGoal) (first ∷ raws behind))
unfolding run
goal_first e (Group' at shape inner) tree behind agree row = refl
goal_first e (expression.Word at text) tree behind agree row =
    choose_alike (λ f r. Same (raws behind) (f (the_word text at) behind) r) text goal_forms goal_rests (λ head behind. plain_form e) (formula_head text)
    ((
      refl,
      all_parts (slot.List place.PreGoal) behind agree goal.Both,
      (
        refl,
        each_parts place.PreGoal behind agree goal.Each,
        (refl, some_bind (preferred formula_place (raws behind)) (λ found. goal.Soft (record { at = at; name = found.0; body = found.1 })) ∙ named_parts place.Formula formula_place formula_fits (raws behind), tt),
      ),
    ))
    (plain_fits e text at (raws behind) row)
    ∙ bind_rest (goal_head text) (raws behind)

goal_lists : Lists (slot.List place.PreGoal) place.PreGoal goal_in
goal_lists e [] agree row = refl
goal_lists e (part ∷ behind) agree row = goal_first e part.raw part.tree behind agree.1 row

pub goal_fits : (e : Expression) → is_some (goal_place e) ≡ fits (slot.List place.PreGoal) e
unfolding goal_place
goal_fits = descend_fits (slot.List place.PreGoal) place.PreGoal (λ word. None) goal_in refl (λ at text. refl) goal_lists

-- the place where `()` may stand
goal_or_empty_parts : (parts : List Expression) (o : Option PreGoal) → is_some o ≡ ends (run_parts (state.Head place.PreGoal) parts)
    → is_some (if is_empty parts then Some (goal.Both []) else o) ≡ ends (run_parts (state.Head place.PreGoalOrEmpty) parts)
unfolding run
goal_or_empty_parts [] o same = refl
goal_or_empty_parts (expression.Word at text ∷ parts) o same = same
goal_or_empty_parts (Group' at shape row ∷ parts) o same = same

pub goal_or_empty_fits : (e : Expression) → is_some (goal_or_empty_place e) ≡ fits (slot.List place.PreGoalOrEmpty) e
goal_or_empty_fits (expression.Word at text) = refl
goal_or_empty_fits (Group' at shape row) =
    goal_or_empty_parts (expressions row) (goal_place (Group' at shape row)) (goal_fits (Group' at shape row) ∙ list_fits place.PreGoal row) ∙ sym (list_fits place.PreGoalOrEmpty row)

-- ---- the operators

one_fits : (operator : Formula → Modal) (parts : List Expression) → is_some (with_one operator parts) ≡ ends (run_parts (state.Rest (one_of place.Formula)) parts)
one_fits operator parts = by parts ∙ sym (ends_one (slot.List place.Formula) parts)
  where
    by : (parts : List Expression) → is_some (with_one operator parts) ≡ fits_one (fits (slot.List place.Formula)) parts
    by [] = refl
    by (part ∷ []) = some_bind (formula_place part) operator ∙ formula_fits part
    by (part ∷ other ∷ parts) = refl

two_fits : (operator : Formula → Formula → Modal) (parts : List Expression) → is_some (with_two operator parts) ≡ ends (run_parts (state.Rest (two_of place.Formula)) parts)
two_fits operator parts = by parts ∙ sym (ends_two (slot.List place.Formula) (slot.List place.Formula) parts)
  where
    by : (parts : List Expression) → is_some (with_two operator parts) ≡ fits_two (fits (slot.List place.Formula)) (fits (slot.List place.Formula)) parts
    by [] = refl
    by (part ∷ []) = refl
    by (part ∷ other ∷ []) =
        some_two (formula_place part) (formula_place other) operator ∙ ap (λ b. b && is_some (formula_place other)) (formula_fits part) ∙ ap (λ b. fits (slot.List place.Formula) part && b) (formula_fits other)
    by (part ∷ other ∷ third ∷ parts) = refl

if_and : {A B : Type 0} (b : Bool) (a : A) (o : Option B) → is_some ((if b then Some a else None) >>= λ _. o) ≡ b && is_some o
if_and true a o = refl
if_and false a o = refl

at_end_fits : (parts : List Expression) → is_some (at_end_form parts) ≡ ends (run_parts (state.Rest (rest.Two (slot.Word class.End) (slot.List place.Formula))) parts)
at_end_fits parts = by parts ∙ sym (ends_two (slot.Word class.End) (slot.List place.Formula) parts)
  where
    by : (parts : List Expression) → is_some (at_end_form parts) ≡ fits_two (fits (slot.Word class.End)) (fits (slot.List place.Formula)) parts
    by [] = refl
    by (part ∷ []) = refl
    by (expression.Word at text ∷ other ∷ []) =
        if_and (same_name (codes "end") text) (the_word text at) (formula_place other >>= λ tree. Some (modal.AtEnd tree))
        ∙ ap (λ b. same_name (codes "end") text && b) (some_bind (formula_place other) modal.AtEnd ∙ formula_fits other)
    by (Group' at shape row ∷ other ∷ []) = refl
    by (part ∷ other ∷ third ∷ parts) = refl

modal_choice : (text : Name) (behind : List Expression) → Same behind (choose text modal_forms (λ behind. None) behind) (modal_head text)
modal_choice text behind =
    choose_alike (λ f r. Same behind (f behind) r) text modal_forms modal_rests (λ behind. None) None
    ((
      refl,
      at_end_fits behind,
      (
        refl,
        one_fits modal.Always behind,
        (
          refl,
          one_fits modal.Sometime behind,
          (
            refl,
            one_fits modal.AtMostOnce behind,
            (refl, two_fits modal.SometimeAfter behind, (refl, two_fits modal.SometimeBefore behind, tt)),
          ),
        ),
      ),
    ))
    refl

-- ---- constraints

-- the list of a constraint is an operator's
single_fits : (e : Expression) (text : Name) (at : _) (behind : List Expression) → parts_place e ≡ Some (expression.Word at text ∷ behind) → Same behind (single_form e) (modal_head text)
single_fits e text at behind is =
    some_bind (modal_place e) (λ operator. constraint.Single operator) ∙ ap (λ o. is_some (o >>= modal_in)) is ∙ modal_choice text behind

inner_first : (e first : Expression) (tree : Option Constraint) (behind : List (ListPart (Option Constraint))) → Agree has (slot.List place.Inner) behind → IsRow e (first ∷ raws behind)
    → is_some (constraint_in inner_forms e (record { raw = first; tree = tree } ∷ behind)) ≡ ends (run_parts (state.Head place.Inner) (first ∷ raws behind))
unfolding run
inner_first e (Group' at shape inner) tree behind agree row = refl
inner_first e (expression.Word at text) tree behind agree row =
    choose_alike (λ f r. Same (raws behind) (f (the_word text at) behind) r) text inner_forms inner_rests (λ head behind. single_form e) (modal_head text)
    ((refl, all_parts (slot.List place.Inner) behind agree constraint.Both, (refl, each_parts place.Inner behind agree constraint.Each, tt)))
    (single_fits e text at (raws behind) row.whole)
    ∙ bind_rest (inner_head text) (raws behind)

inner_lists : Lists (slot.List place.Inner) place.Inner (constraint_in inner_forms)
inner_lists e [] agree row = refl
inner_lists e (part ∷ behind) agree row = inner_first e part.raw part.tree behind agree.1 row

pub inner_fits : (e : Expression) → is_some (inner_place e) ≡ fits (slot.List place.Inner) e
unfolding inner_place
inner_fits = descend_fits (slot.List place.Inner) place.Inner (λ word. None) (constraint_in inner_forms) refl (λ at text. refl) inner_lists

constraint_first : (e first : Expression) (tree : Option Constraint) (behind : List (ListPart (Option Constraint))) → Agree has (slot.List place.Constraint) behind → IsRow e (first ∷ raws behind)
    → is_some (constraint_in ((codes "preference", preference_form) ∷ inner_forms) e (record { raw = first; tree = tree } ∷ behind)) ≡ ends (run_parts (state.Head place.Constraint) (first ∷ raws behind))
unfolding run
constraint_first e (Group' at shape inner) tree behind agree row = refl
constraint_first e (expression.Word at text) tree behind agree row =
    choose_alike (λ f r. Same (raws behind) (f (the_word text at) behind) r) text ((codes "preference", preference_form) ∷ inner_forms) constraint_rests (λ head behind. single_form e) (modal_head text)
    ((
      refl,
      some_bind (preferred inner_place (raws behind)) (λ found. constraint.Soft at found.0 found.1) ∙ named_parts place.Inner inner_place inner_fits (raws behind),
      (refl, all_parts (slot.List place.Constraint) behind agree constraint.Both, (refl, each_parts place.Constraint behind agree constraint.Each, tt)),
    ))
    (single_fits e text at (raws behind) row.whole)
    ∙ bind_rest (constraint_head text) (raws behind)

constraint_lists : Lists (slot.List place.Constraint) place.Constraint (constraint_in ((codes "preference", preference_form) ∷ inner_forms))
constraint_lists e [] agree row = refl
constraint_lists e (part ∷ behind) agree row = constraint_first e part.raw part.tree behind agree.1 row

pub constraint_fits : (e : Expression) → is_some (constraint_place e) ≡ fits (slot.List place.Constraint) e
unfolding constraint_place
constraint_fits = descend_fits (slot.List place.Constraint) place.Constraint (λ word. None) (constraint_in ((codes "preference", preference_form) ∷ inner_forms)) refl (λ at text. refl) constraint_lists

constraint_or_empty_parts : (parts : List Expression) (o : Option Constraint) → is_some o ≡ ends (run_parts (state.Head place.Constraint) parts)
    → is_some (if is_empty parts then Some (constraint.Both []) else o) ≡ ends (run_parts (state.Head place.ConstraintOrEmpty) parts)
unfolding run
constraint_or_empty_parts [] o same = refl
constraint_or_empty_parts (expression.Word at text ∷ parts) o same = same
constraint_or_empty_parts (Group' at shape row ∷ parts) o same = same

pub constraint_or_empty_fits : (e : Expression) → is_some (constraint_or_empty_place e) ≡ fits (slot.List place.ConstraintOrEmpty) e
constraint_or_empty_fits (expression.Word at text) = refl
constraint_or_empty_fits (Group' at shape row) =
    constraint_or_empty_parts (expressions row) (constraint_place (Group' at shape row)) (constraint_fits (Group' at shape row) ∙ list_fits place.Constraint row) ∙ sym (list_fits place.ConstraintOrEmpty row)
