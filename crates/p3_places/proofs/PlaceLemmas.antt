-- Places that go down a tree, and what is to come in their lists.
use Rattle.std.proofs.Common.{◌≡◌, ◌∙◌, refl, sym, ap, ℕ, Bool, true, false, ◌&&◌, if◌then◌else◌, List, [], ◌∷◌, map, Option, Some, None}
use Rattle.std.specs.Prelude.{is_some}
use mathlib.Core.Former.{Count}
use Rattle.p3_base.specs.Words.{is_name}
use Rattle.p3_task.specs.Names.{Name}
use Rattle.p3_task.specs.Grammar.Words.{◌>>=◌, ListPart, raws, descend, descend_parts, pair, parts_place, all_trees}
use Rattle.p3_task.specs.Grammar.Words.{Place as Reads}
use Rattle.p3_task.specs.Grammar.Lists.{variables_place}
use Rattle.p3_task.specs.Grammar.Goals.{preferred}
use Rattle.p3_task.specs.declared.expression.Expression.{Expression, Group', Row_of-Expression, end_of-Expression, more_of-Expression}
use Rattle.p3_task.specs.declared.expression.Expression.TheVariants as expression
use Rattle.p3_task.specs.declared.term.Typed.{Typed}
use Rattle.p3_task.specs.declared.term.Ref.{Ref}
use Rattle.p3_places.proofs.Runs.{run}
use Rattle.p3_places.specs.Places.{list_of, takes_word, in_list}
use Rattle.p3_places.specs.Places.{quantified as quantified_rest}
use Rattle.p3_places.proofs.Fits.{ends, run_parts, row_fits, fits, fits_one, fits_two}
use Rattle.p3_places.specs.declared.state.Place.{Place}
use Rattle.p3_places.specs.declared.state.Place.TheVariants as place
use Rattle.p3_places.specs.declared.state.Slot.{Slot}
use Rattle.p3_places.specs.declared.state.Slot.TheVariants as slot
use Rattle.p3_places.specs.declared.state.Rest.{Rest}
use Rattle.p3_places.specs.declared.state.Rest.TheVariants as rest
use Rattle.p3_places.specs.declared.state.State.TheVariants as state
use Rattle.p3_places.proofs.FitLemmas.{ends_one, ends_two, ends_many, some_bind, some_two, some_all, Agree, agree_all, raws_expressions, list_fits, variables_fit, and_false}

abbrev pub has : {T : Type 0} → Option T → Bool
has o = is_some o

abbrev pub Same : {A : Type 0} → List Expression → Option A → Option Rest → Type 0
Same parts tree r = is_some tree ≡ ends (r >>= λ rest. run_parts (state.Rest rest) parts)

-- the expression is a list of these parts
pub record IsRow (e : Expression) (parts : List Expression) : Type 0 where
  pub fit : (q : Place) → fits (slot.List q) e ≡ ends (run_parts (state.Head q) parts)
  pub whole : parts_place e ≡ Some parts

abbrev pub Lists : {T : Type 0} → Slot → Place → (Expression → List (ListPart (Option T)) → Option T) → Type 0
Lists {T = T} s p list_in = (e : Expression) (parts : List (ListPart (Option T))) → Agree has s parts → IsRow e (raws parts) → is_some (list_in e parts) ≡ ends (run_parts (state.Head p) (raws parts))

mutual
  pub descend_fits : {T : Type 0} (s : Slot) (p : Place) (word : Expression → Option T) (list_in : Expression → List (ListPart (Option T)) → Option T) → list_of s ≡ Some p
      → ((at : _) (text : Name) → is_some (word (expression.Word at text)) ≡ takes_word s text) → Lists s p list_in → (e : Expression) → is_some (descend word list_in e) ≡ fits s e
  descend_fits s p word list_in is words lists (expression.Word at text) = words at text
  descend_fits s p word list_in is words lists (Group' at shape row) =
      lists (Group' at shape row) (descend_parts word list_in row) (descend_agree s p word list_in is words lists row)
      (record { fit = λ q. list_fits q row ∙ ap (λ parts. ends (run_parts (state.Head q) parts)) (sym (raws_expressions word list_in row)); whole = ap (λ parts. Some parts) (sym (raws_expressions word list_in row)) })
      ∙ ap (λ parts. ends (run_parts (state.Head p) parts)) (raws_expressions word list_in row)
      ∙ sym (list_fits p row) ∙ ap (λ found. row_fits found row) (sym is)

  pub descend_agree : {T : Type 0} {n : Count} (s : Slot) (p : Place) (word : Expression → Option T) (list_in : Expression → List (ListPart (Option T)) → Option T) → list_of s ≡ Some p
      → ((at : _) (text : Name) → is_some (word (expression.Word at text)) ≡ takes_word s text) → Lists s p list_in → (row : Row_of-Expression n) → Agree has s (descend_parts word list_in row)
  descend_agree s p word list_in is words lists end_of-Expression = tt
  descend_agree s p word list_in is words lists (more_of-Expression part rest) = (descend_fits s p word list_in is words lists part, descend_agree s p word list_in is words lists rest)

pub bind_rest : (r : Option Rest) (parts : List Expression) → ends (r >>= λ next. run_parts (state.Rest next) parts) ≡ ends (in_list r >>= λ s. run_parts s parts)
bind_rest None parts = refl
bind_rest (Some r) parts = refl

-- ---- parts behind a word

pub all_parts : {T A : Type 0} (s : Slot) (parts : List (ListPart (Option T))) → Agree has s parts → (f : List T → A)
    → is_some (all_trees (map (λ (part : ListPart (Option T)). part.tree) parts) >>= λ trees. Some (f trees)) ≡ ends (run_parts (state.Rest (rest.Many s)) (raws parts))
all_parts s parts agree f =
    some_bind (all_trees (map (λ part. part.tree) parts)) f ∙ some_all (map (λ part. part.tree) parts) ∙ agree_all has s parts agree ∙ sym (ends_many s (raws parts))

pub each_parts : {T A : Type 0} (p : Place) (parts : List (ListPart (Option T))) → Agree has (slot.List p) parts → (f : List Typed → T → A)
    → is_some (pair parts >>= λ both. variables_place both.0.raw >>= λ variables. both.1.tree >>= λ body. Some (f variables body)) ≡ ends (run_parts (state.Rest (quantified_rest p)) (raws parts))
each_parts {T = T} p parts agree f = by parts agree ∙ sym (ends_two (slot.List place.Variables) (slot.List p) (raws parts))
  where
    by : (parts : List (ListPart (Option T))) → Agree has (slot.List p) parts
        → is_some (pair parts >>= λ both. variables_place both.0.raw >>= λ variables. both.1.tree >>= λ body. Some (f variables body)) ≡ fits_two (fits (slot.List place.Variables)) (fits (slot.List p)) (raws parts)
    by [] agree = refl
    by (part ∷ []) agree = refl
    by (part ∷ other ∷ []) agree =
        some_two (variables_place part.raw) other.tree f ∙ ap (λ b. b && is_some other.tree) (variables_fit part.raw) ∙ ap (λ b. fits (slot.List place.Variables) part.raw && b) agree.1.0
    by (part ∷ other ∷ third ∷ parts) agree = refl

-- ---- a name, or none, before a list

if_named : (b : Bool) (s : Slot) (parts : List Expression)
    → ends (((if b then Some (rest.One s) else None) >>= λ next. Some (state.Rest next)) >>= λ next. run_parts next parts) ≡ b && fits_one (fits s) parts
if_named true s parts = ends_one s parts
if_named false s parts = refl

some_if : {A B C : Type 0} (b : Bool) (a : A) (o : Option B) (f : A → B → C) (fit : Bool) → is_some o ≡ fit → is_some ((if b then Some a else None) >>= λ name. o >>= λ tree. Some (f name tree)) ≡ b && fit
some_if true a o f fit same = some_bind o (f a) ∙ same
some_if false a o f fit same = refl

abbrev pub the_word : Name → ℕ → Ref
the_word text at = record { name = text; at = at }

abbrev the_pair : {T : Type 0} → Option Ref → T → Option Ref × T
the_pair name tree = (name, tree)

pub named_parts : {T : Type 0} (p : Place) (place : Reads T) → ((e : Expression) → is_some (place e) ≡ fits (slot.List p) e) → (parts : List Expression)
    → is_some (preferred place parts) ≡ ends (run_parts (state.Rest (rest.Named p)) parts)
unfolding run
named_parts p place same [] = refl
named_parts p place same (expression.Word at text ∷ []) =
    some_bind (place (expression.Word at text)) (λ tree. the_pair None tree) ∙ same (expression.Word at text) ∙ sym (and_false (is_name text)) ∙ sym (if_named (is_name text) (slot.List p) [])
named_parts p place same (Group' at shape row ∷ []) =
    some_bind (place (Group' at shape row)) (λ tree. the_pair None tree) ∙ same (Group' at shape row) ∙ sym (ends_one (slot.List p) (Group' at shape row ∷ []))
named_parts p place same (expression.Word at text ∷ body ∷ []) =
    some_if (is_name text) (the_word text at) (place body) (λ name tree. the_pair (Some name) tree) (fits (slot.List p) body) (same body) ∙ sym (if_named (is_name text) (slot.List p) (body ∷ []))
named_parts p place same (Group' at shape row ∷ body ∷ []) = sym (ends_one (slot.List p) (Group' at shape row ∷ body ∷ []))
named_parts p place same (expression.Word at text ∷ body ∷ other ∷ parts) = sym (and_false (is_name text)) ∙ sym (if_named (is_name text) (slot.List p) (body ∷ other ∷ parts))
named_parts p place same (Group' at shape row ∷ body ∷ other ∷ parts) = sym (ends_one (slot.List p) (Group' at shape row ∷ body ∷ other ∷ parts))
