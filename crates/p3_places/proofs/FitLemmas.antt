-- Elements of lists, one after another.
use Rattle.std.proofs.Common.{◌≡◌, ◌∙◌, refl, sym, ap, subst, ℕ, Bool, true, false, ◌&&◌, ◌||◌, if◌then◌else◌, List, [], ◌∷◌, ◌++◌, map, Option, Some, None}
use Rattle.std.specs.Prelude.{is_some, not, codes, fold}
use Rattle.p3_base.specs.Words.{is_name, is_variable}
use Rattle.p3_task.specs.Grammar.Lists.{term_place, type_place, either_in, Scan, scanned, all_scanned, grouped, with_type, with_item, is_dash, typed_item, variables_place}
use Rattle.p3_task.specs.declared.term.Term.TheVariants.{Var, Const}
use Rattle.p3_places.specs.declared.state.Items.{Items}
use Rattle.p3_places.specs.declared.state.Items.TheVariants as items
use Rattle.p3_places.specs.declared.state.Progress.{Progress}
use Rattle.p3_places.specs.declared.state.Progress.TheVariants as progress
use Rattle.std.specs.List.{list_all}
use Rattle.std.specs.Option.{option_or}
use Rattle.p3_task.specs.declared.term.Ref.{Ref}
use Rattle.std.specs.Bool.{one_answer}
use Rattle.std.proofs.lemmas.Slice.Eq.{bytes_eq-Decides}
use mathlib.Core.Former.{Count}
use Rattle.p3_task.specs.Names.{Name, same_name, is_empty}
use Rattle.p3_task.specs.Grammar.Words.{◌>>=◌, Place as Reads, choose, expressions, all_trees, each_at, ListPart, raws, descend_parts, name_place, variable_place}
use Rattle.p3_task.specs.declared.expression.Expression.{Expression, Group', Row_of-Expression, end_of-Expression, more_of-Expression}
use Rattle.p3_task.specs.declared.expression.Expression.TheVariants as expression
use Rattle.p3_places.proofs.Runs.{run, run_row}
use Rattle.p3_places.specs.Places.{grammar_table, on_word, on_open, after, is_final, list_of, takes_word, item_slot, type_slot, may_end}
use Rattle.p3_places.proofs.Fits.{ends, run_parts, row_fits, fits, fits_one, fits_two}
use Rattle.p3_places.specs.declared.state.Class.TheVariants as class
use Rattle.p3_places.specs.declared.state.Place.{Place}
use Rattle.p3_places.specs.declared.state.Place.TheVariants as place
use Rattle.p3_places.specs.declared.state.Slot.{Slot}
use Rattle.p3_places.specs.declared.state.Slot.TheVariants as slot
use Rattle.p3_places.specs.declared.state.Rest.{Rest}
use Rattle.p3_places.specs.declared.state.Rest.TheVariants as rest
use Rattle.p3_places.specs.declared.state.State.{State}
use Rattle.p3_places.specs.declared.state.State.TheVariants as state
use Rattle.p3_places.proofs.MachineLemmas.{bind_same}

pub run_row_parts : {n : Count} (from : State) (row : Row_of-Expression n) → run_row grammar_table from row ≡ run_parts from (expressions row)
unfolding run
run_row_parts from end_of-Expression = refl
run_row_parts from (more_of-Expression part rest) =
    bind_same (run grammar_table from part) (λ next. run_row grammar_table next rest) (λ next. run_parts next (expressions rest)) (λ next. run_row_parts next rest)

-- ---- a state that waits for an element, and the state behind it

pub record Awaits (from : State) (s : Slot) (to : State) : Type 0 where
  pub word : (text : Name) → on_word from text ≡ (if takes_word s text then Some to else None)
  pub list : on_open from ≡ list_of s >>= λ p. Some (state.Head p)
  pub then_to : (last : State) → after from last ≡ to

group_fits : {n : Count} (from to : State) (found : Option Place) (row : Row_of-Expression n) → ((last : State) → after from last ≡ to)
    → ((found >>= λ p. Some (state.Head p)) >>= λ first. run_row grammar_table first row >>= λ last. if is_final last then Some (after from last) else None)
    ≡ (if row_fits found row then Some to else None)
group_fits from to None row then_to = refl
group_fits from to (Some p) row then_to = by (run_row grammar_table (state.Head p) row)
  where
    by : (found : Option State) → (found >>= λ last. if is_final last then Some (after from last) else None) ≡ (if ends found then Some to else None)
    by None = refl
    by (Some last) = ap (λ x. if is_final last then Some x else None) (then_to last)

pub run_fits : (from to : State) (s : Slot) → Awaits from s to → (e : Expression) → run grammar_table from e ≡ (if fits s e then Some to else None)
unfolding run
run_fits from to s awaits (expression.Word at text) = awaits.word text
run_fits from to s awaits (Group' at shape parts) =
    ap (λ o. o >>= λ first. run_row grammar_table first parts >>= λ last. if is_final last then Some (after from last) else None) awaits.list
    ∙ group_fits from to (list_of s) parts awaits.then_to

pub wrapped : (b : Bool) (r : Rest) → ((if b then Some r else None) >>= λ next. Some (state.Rest next)) ≡ (if b then Some (state.Rest r) else None)
wrapped true r = refl
wrapped false r = refl

pub one_awaits : (s : Slot) → Awaits (state.Rest (rest.One s)) s (state.Rest rest.Nothing)
one_awaits s = record { word = λ text. wrapped (takes_word s text) rest.Nothing; list = refl; then_to = λ last. refl }

pub two_awaits : (s later : Slot) → Awaits (state.Rest (rest.Two s later)) s (state.Rest (rest.One later))
two_awaits s later = record { word = λ text. wrapped (takes_word s text) (rest.One later); list = refl; then_to = λ last. refl }

pub many_awaits : (s : Slot) → Awaits (state.Rest (rest.Many s)) s (state.Rest (rest.Many s))
many_awaits s = record { word = λ text. wrapped (takes_word s text) (rest.Many s); list = refl; then_to = λ last. refl }

pub some_awaits : (s : Slot) → Awaits (state.Rest (rest.Some s)) s (state.Rest (rest.Many s))
some_awaits s = record { word = λ text. wrapped (takes_word s text) (rest.Many s); list = refl; then_to = λ last. refl }

-- ---- whole rests

pub if_ends : (b : Bool) (next : State) (parts : List Expression) → ends ((if b then Some next else None) >>= λ s. run_parts s parts) ≡ b && ends (run_parts next parts)
if_ends true next parts = refl
if_ends false next parts = refl

-- one more part
pub ends_more : (from to : State) (s : Slot) → Awaits from s to → (part : Expression) (parts : List Expression) → ends (run_parts from (part ∷ parts)) ≡ fits s part && ends (run_parts to parts)
ends_more from to s awaits part parts = ap (λ o. ends (o >>= λ n. run_parts n parts)) (run_fits from to s awaits part) ∙ if_ends (fits s part) to parts

-- nothing may come
pub nothing_more : (part : Expression) (parts : List Expression) → ends (run_parts (state.Rest rest.Nothing) (part ∷ parts)) ≡ false
unfolding run
nothing_more (expression.Word at text) parts = refl
nothing_more (Group' at shape row) parts = refl

pub and_false : (b : Bool) → (b && false) ≡ false
and_false true = refl
and_false false = refl

pub and_true : (b : Bool) → (b && true) ≡ b
and_true true = refl
and_true false = refl

pub ends_one : (s : Slot) (parts : List Expression) → ends (run_parts (state.Rest (rest.One s)) parts) ≡ fits_one (fits s) parts
ends_one s [] = refl
ends_one s (part ∷ []) = ends_more (state.Rest (rest.One s)) (state.Rest rest.Nothing) s (one_awaits s) part [] ∙ and_true (fits s part)
ends_one s (part ∷ other ∷ parts) =
    ends_more (state.Rest (rest.One s)) (state.Rest rest.Nothing) s (one_awaits s) part (other ∷ parts) ∙ ap (λ b. fits s part && b) (nothing_more other parts) ∙ and_false (fits s part)

pub ends_two : (s later : Slot) (parts : List Expression) → ends (run_parts (state.Rest (rest.Two s later)) parts) ≡ fits_two (fits s) (fits later) parts
ends_two s later [] = refl
ends_two s later (part ∷ parts) = ends_more (state.Rest (rest.Two s later)) (state.Rest (rest.One later)) s (two_awaits s later) part parts ∙ ap (λ b. fits s part && b) (ends_one later parts) ∙ by parts
  where
    by : (parts : List Expression) → (fits s part && fits_one (fits later) parts) ≡ fits_two (fits s) (fits later) (part ∷ parts)
    by [] = and_false (fits s part)
    by (x ∷ []) = refl
    by (x ∷ y ∷ others) = and_false (fits s part)

pub ends_many : (s : Slot) (parts : List Expression) → ends (run_parts (state.Rest (rest.Many s)) parts) ≡ list_all (fits s) parts
ends_many s [] = refl
ends_many s (part ∷ parts) = ends_more (state.Rest (rest.Many s)) (state.Rest (rest.Many s)) s (many_awaits s) part parts ∙ ap (λ b. fits s part && b) (ends_many s parts)

-- ---- choices by a word

abbrev pub Alike : {F G : Type 0} (R : F → G → Type 0) → List (Name × F) → List (Name × G) → Type 0
Alike R [] [] = Unit {0}
Alike R (f ∷ fs) (g ∷ gs) = (f.0 ≡ g.0) × R f.1 g.1 × Alike R fs gs
Alike R _ _ = ⊥

chosen : {F G : Type 0} (R : F → G → Type 0) (b : Bool) (f other : F) (g last : G) → R f g → R other last → R (if b then f else other) (if b then g else last)
chosen R true f other g last first later = first
chosen R false f other g last first later = later

pub choose_alike : {F G : Type 0} (R : F → G → Type 0) (text : Name) (fs : List (Name × F)) (gs : List (Name × G)) (f : F) (g : G)
    → Alike R fs gs → R f g → R (choose text fs f) (choose text gs g)
choose_alike R text [] [] f g alike last = last
choose_alike R text [] (y ∷ gs) f g alike last = elim alike [ ]
choose_alike R text (x ∷ fs) [] f g alike last = elim alike [ ]
choose_alike R text (x ∷ fs) (y ∷ gs) f g alike last =
    subst (λ key. R (if same_name x.0 text then x.1 else choose text fs f) (if same_name key text then y.1 else choose text gs g)) alike.0
    (chosen R (same_name x.0 text) x.1 (choose text fs f) y.1 (choose text gs g) alike.1 (choose_alike R text fs gs f g alike.2 last))

-- ---- what has a tree

pub some_bind : {A B : Type 0} (o : Option A) (f : A → B) → is_some (o >>= λ a. Some (f a)) ≡ is_some o
some_bind None f = refl
some_bind (Some a) f = refl

pub some_two : {A B C : Type 0} (o : Option A) (u : Option B) (f : A → B → C) → is_some (o >>= λ a. u >>= λ b. Some (f a b)) ≡ (is_some o && is_some u)
some_two None u f = refl
some_two (Some a) None f = refl
some_two (Some a) (Some b) f = refl

pub some_all : {A : Type 0} (trees : List (Option A)) → is_some (all_trees trees) ≡ list_all is_some trees
some_all [] = refl
some_all (tree ∷ trees) = some_two tree (all_trees trees) (λ a b. a ∷ b) ∙ ap (λ b. is_some tree && b) (some_all trees)

-- each part has a tree exactly where it fits
abbrev pub Agree : {A : Type 0} (has : A → Bool) (s : Slot) → List (ListPart A) → Type 0
Agree has s [] = Unit {0}
Agree has s (part ∷ parts) = (has part.tree ≡ fits s part.raw) × Agree has s parts

pub agree_all : {A : Type 0} (has : A → Bool) (s : Slot) (parts : List (ListPart A)) → Agree has s parts → list_all has (map (λ part. part.tree) parts) ≡ list_all (fits s) (raws parts)
agree_all has s [] agree = refl
agree_all has s (part ∷ parts) agree = ap (λ b. b && list_all has (map (λ part. part.tree) parts)) agree.0 ∙ ap (λ b. fits s part.raw && b) (agree_all has s parts agree.1)

pub raws_expressions : {A : Type 0} {n : Count} (word : Expression → A) (list : Expression → List (ListPart A) → A) (row : Row_of-Expression n) → raws (descend_parts word list row) ≡ expressions row
raws_expressions word list end_of-Expression = refl
raws_expressions word list (more_of-Expression part rest) = ap (λ l. part ∷ l) (raws_expressions word list rest)

-- a list is taken where its row is
pub list_fits : {n : Count} (p : Place) (row : Row_of-Expression n) → row_fits (Some p) row ≡ ends (run_parts (state.Head p) (expressions row))
list_fits p row = ap ends (run_row_parts (state.Head p) row)

pub some_awaits_ends : (s : Slot) (part : Expression) (parts : List Expression) → ends (run_parts (state.Rest (rest.Some s)) (part ∷ parts)) ≡ fits s part && list_all (fits s) parts
some_awaits_ends s part parts = ends_more (state.Rest (rest.Some s)) (state.Rest (rest.Many s)) s (some_awaits s) part parts ∙ ap (λ b. fits s part && b) (ends_many s parts)

-- words

pub if_is_some : {A : Type 0} (b : Bool) (a : A) → is_some (if b then Some a else None) ≡ b
if_is_some true a = refl
if_is_some false a = refl

if_or : {A B : Type 0} (b c : Bool) (a : A) (f g : A → B) → is_some (option_or ((if b then Some a else None) >>= λ x. Some (f x)) ((if c then Some a else None) >>= λ x. Some (g x))) ≡ (b || c)
if_or true c a f g = refl
if_or false true a f g = refl
if_or false false a f g = refl

pub name_fits : (e : Expression) → is_some (name_place e) ≡ fits (slot.Word class.Name) e
name_fits (expression.Word at text) = if_is_some (is_name text) (record { name = text; at = at })
name_fits (Group' at shape parts) = refl

pub variable_fits : (e : Expression) → is_some (variable_place e) ≡ fits (slot.Word class.Variable) e
variable_fits (expression.Word at text) = if_is_some (is_variable text) (record { name = text; at = at })
variable_fits (Group' at shape parts) = refl

pub term_fits : (e : Expression) → is_some (term_place e) ≡ fits (slot.Word class.Term) e
term_fits (expression.Word at text) = if_or (is_name text) (is_variable text) (record { name = text; at = at }) Const Var
term_fits (Group' at shape parts) = refl

pub each_fits : {A : Type 0} (place : Expression → Option A) (s : Slot) → ((e : Expression) → is_some (place e) ≡ fits s e) → (parts : List Expression) → is_some (each_at place parts) ≡ list_all (fits s) parts
each_fits place s same [] = refl
each_fits place s same (part ∷ parts) =
    some_two (place part) (each_at place parts) (λ a b. a ∷ b) ∙ ap (λ b. b && is_some (each_at place parts)) (same part) ∙ ap (λ b. fits s part && b) (each_fits place s same parts)

-- ---- types

if_alone : {A B : Type 0} (b : Bool) (a : A) (f : A → B) → is_some (option_or ((if b then Some a else None) >>= λ x. Some (f x)) None) ≡ b
if_alone true a f = refl
if_alone false a f = refl

if_not_empty : (b : Bool) (parts : List Expression)
    → is_some (if b && not (is_empty parts) then each_at name_place parts else None)
    ≡ ends ((if b then Some (state.Rest (rest.Some (slot.Word class.Name))) else None) >>= λ s. run_parts s parts)
if_not_empty false parts = refl
if_not_empty true [] = refl
if_not_empty true (part ∷ parts) =
    each_fits name_place (slot.Word class.Name) name_fits (part ∷ parts) ∙ sym (some_awaits_ends (slot.Word class.Name) part parts)

same_name_sym : (a b : Name) → same_name a b ≡ same_name b a
same_name_sym a b = one_answer {P = a ≡ b} (same_name a b) (same_name b a) (bytes_eq-Decides a b) ((λ yes. sym ((bytes_eq-Decides b a).0 yes)), (λ same. (bytes_eq-Decides b a).1 (sym same)))

either_fits : (parts : List Expression) → is_some (either_in parts) ≡ ends (run_parts (state.Head place.Either) parts)
unfolding run
either_fits [] = refl
either_fits (Group' at shape row ∷ parts) = refl
either_fits (expression.Word at text ∷ parts) = ap (λ b. is_some (if b && not (is_empty parts) then each_at name_place parts else None)) (same_name_sym text (codes "either")) ∙ if_not_empty (same_name (codes "either") text) parts

pub type_fits : (e : Expression) → is_some (type_place e) ≡ fits (slot.Either class.Name place.Either) e
type_fits (expression.Word at text) = if_alone (is_name text) (record { name = text; at = at }) (λ name. name ∷ [])
type_fits (Group' at shape row) = either_fits (expressions row) ∙ sym (list_fits place.Either row)

-- ---- items with types

-- what is to come behind the items so far
abbrev progress_by : Bool → Bool → Progress
progress_by true b = progress.Type
progress_by false true = progress.Start
progress_by false false = progress.Waiting

abbrev progress_of : {A B : Type 0} → Scan A B → Progress
progress_of scan = progress_by scan.is_type_next (is_empty scan.waiting)

fold_none : {A B : Type 0} (item : Reads A) (type : Reads B) (parts : List Expression) → fold (scanned item type) None parts ≡ None
fold_none item type [] = refl
fold_none item type (part ∷ parts) = fold_none item type parts

-- how a list of items goes on
abbrev Goes : {A B : Type 0} (item : Reads A) (type : Reads B) (i : Items) (parts : List Expression) → Option (Scan A B) → Option State → Type 0
Goes item type i parts scan from = is_some (fold (scanned item type) scan parts >>= all_scanned) ≡ ends (from >>= λ s. run_parts s parts)

abbrev to_come : Items → Progress → State
to_come i p = state.Rest (rest.Typed i p)

not_empty_behind : {A : Type 0} (front : List A) (a : A) → is_empty (front ++ a ∷ []) ≡ false
not_empty_behind [] a = refl
not_empty_behind (x ∷ front) a = refl

goes_with_type : {A B : Type 0} (item : Reads A) (type : Reads B) (i : Items) (scan : Scan A B) (parts : List Expression) (found : Option B) (b : Bool) → is_some found ≡ b
    → ((scan : Scan A B) → Goes item type i parts (Some scan) (Some (to_come i (progress_of scan))))
    → Goes item type i parts (found >>= λ t. Some (with_type scan t)) (if b then Some (to_come i progress.Start) else None)
goes_with_type item type i scan parts None true is later = absurd cc
goes_with_type item type i scan parts None false is later = ap (λ o. is_some (o >>= all_scanned)) (fold_none item type parts)
goes_with_type item type i scan parts (Some t) true is later = later (with_type scan t)
goes_with_type item type i scan parts (Some t) false is later = absurd cc

goes_with_item : {A B : Type 0} (item : Reads A) (type : Reads B) (i : Items) (scan : Scan A B) (parts : List Expression) (found : Option A) (b : Bool) → is_some found ≡ b
    → ((scan : Scan A B) → Goes item type i parts (Some scan) (Some (to_come i (progress_of scan))))
    → Goes item type i parts (found >>= λ t. Some (with_item scan t)) (if b then Some (to_come i progress.Waiting) else None)
goes_with_item item type i scan parts None true is later = absurd cc
goes_with_item item type i scan parts None false is later = ap (λ o. is_some (o >>= all_scanned)) (fold_none item type parts)
goes_with_item item type i scan parts (Some t) true is later =
    later (with_item scan t) ∙ ap (λ b. ends (run_parts (to_come i (progress_by false b)) parts)) (not_empty_behind scan.waiting t)
goes_with_item item type i scan parts (Some t) false is later = absurd cc

-- the items and the types are those of a kind of list
pub record AreItems {A B : Type 0} (item : Reads A) (type : Reads B) (i : Items) : Type 0 where
  pub item_fits : (e : Expression) → is_some (item e) ≡ fits (item_slot i) e
  pub type_fits : (e : Expression) → is_some (type e) ≡ fits (type_slot i) e

start_awaits : (i : Items) → Awaits (to_come i progress.Start) (item_slot i) (to_come i progress.Waiting)
start_awaits i = record { word = λ text. wrapped (takes_word (item_slot i) text) (rest.Typed i progress.Waiting); list = refl; then_to = λ last. refl }

type_awaits : (i : Items) → Awaits (to_come i progress.Type) (type_slot i) (to_come i progress.Start)
type_awaits i = record { word = λ text. wrapped (takes_word (type_slot i) text) (rest.Typed i progress.Start); list = refl; then_to = λ last. refl }

abbrev the_word : Name → ℕ → Ref
the_word text at = record { name = text; at = at }

-- behind items a `-` may stand
dash_or : (i : Items) (e : Expression) → run grammar_table (to_come i progress.Waiting) e
    ≡ (if is_dash e then Some (to_come i progress.Type) else (if fits (item_slot i) e then Some (to_come i progress.Waiting) else None))
unfolding run
dash_or i (expression.Word at text) = by (same_name (codes "-") text)
  where
    by : (dash : Bool) → ((if dash then Some (rest.Typed i progress.Type) else (if takes_word (item_slot i) text then Some (rest.Typed i progress.Waiting) else None)) >>= λ next. Some (state.Rest next))
        ≡ (if is_some (if dash then Some (the_word text at) else None) then Some (to_come i progress.Type) else (if takes_word (item_slot i) text then Some (to_come i progress.Waiting) else None))
    by true = refl
    by false = wrapped (takes_word (item_slot i) text) (rest.Typed i progress.Waiting)
dash_or i (Group' at shape row) = group_fits (to_come i progress.Waiting) (to_come i progress.Waiting) (list_of (item_slot i)) row (λ last. refl)

goes_dash : {A B : Type 0} (item : Reads A) (type : Reads B) (i : Items) → AreItems item type i → (scan : Scan A B) (e : Expression) (parts : List Expression) (dash : Bool)
    → is_empty scan.waiting ≡ false
    → ((scan : Scan A B) → Goes item type i parts (Some scan) (Some (to_come i (progress_of scan))))
    → Goes item type i parts (if dash && true then Some (record scan { is_type_next = true }) else (item e >>= λ found. Some (with_item scan found)))
    (if dash then Some (to_come i progress.Type) else (if fits (item_slot i) e then Some (to_come i progress.Waiting) else None))
goes_dash item type i are scan e parts true some later = later (record scan { is_type_next = true })
goes_dash item type i are scan e parts false some later = goes_with_item item type i scan parts (item e) (fits (item_slot i) e) (are.item_fits e) later

and_not_true : (b : Bool) → (b && not true) ≡ false
and_not_true true = refl
and_not_true false = refl

goes_on : {A B : Type 0} (item : Reads A) (type : Reads B) (i : Items) → AreItems item type i → (scan : Scan A B) (e : Expression) (parts : List Expression) (next empty : Bool)
    → scan.is_type_next ≡ next → is_empty scan.waiting ≡ empty
    → ((scan : Scan A B) → Goes item type i parts (Some scan) (Some (to_come i (progress_of scan))))
    → Goes item type i parts
    (if next then (type e >>= λ found. Some (with_type scan found)) else (if is_dash e && not empty then Some (record scan { is_type_next = true }) else (item e >>= λ found. Some (with_item scan found))))
    (run grammar_table (to_come i (progress_by next empty)) e)
goes_on item type i are scan e parts true empty is waits later =
    goes_with_type item type i scan parts (type e) (fits (type_slot i) e) (are.type_fits e) later
    ∙ ap (λ o. ends (o >>= λ s. run_parts s parts)) (sym (run_fits (to_come i progress.Type) (to_come i progress.Start) (type_slot i) (type_awaits i) e))
goes_on item type i are scan e parts false true is waits later =
    ap (λ b. is_some (fold (scanned item type) (if b then Some (record scan { is_type_next = true }) else (item e >>= λ found. Some (with_item scan found))) parts >>= all_scanned)) (and_not_true (is_dash e))
    ∙ goes_with_item item type i scan parts (item e) (fits (item_slot i) e) (are.item_fits e) later
    ∙ ap (λ o. ends (o >>= λ s. run_parts s parts)) (sym (run_fits (to_come i progress.Start) (to_come i progress.Waiting) (item_slot i) (start_awaits i) e))
goes_on item type i are scan e parts false false is waits later =
    goes_dash item type i are scan e parts (is_dash e) waits later
    ∙ ap (λ o. ends (o >>= λ s. run_parts s parts)) (sym (dash_or i e))

scanned_end : {A B : Type 0} (i : Items) (next empty : Bool) (items : List (A × Option B)) → is_some (if next then None else Some items) ≡ may_end (rest.Typed i (progress_by next empty))
scanned_end i true empty items = refl
scanned_end i false true items = refl
scanned_end i false false items = refl

pub items_go : {A B : Type 0} (item : Reads A) (type : Reads B) (i : Items) → AreItems item type i → (parts : List Expression) (scan : Scan A B)
    → Goes item type i parts (Some scan) (Some (to_come i (progress_of scan)))
items_go item type i are [] scan = scanned_end i scan.is_type_next (is_empty scan.waiting) (scan.typed ++ map (λ item. (item, None)) scan.waiting)
items_go item type i are (e ∷ parts) scan = goes_on item type i are scan e parts scan.is_type_next (is_empty scan.waiting) refl refl (items_go item type i are parts)

pub variables_are : AreItems variable_place type_place items.Variables
variables_are = record { item_fits = variable_fits; type_fits = type_fits }

-- a list of variables has no word of its own at its head
variables_head : (parts : List Expression) → ends (run_parts (to_come items.Variables progress.Start) parts) ≡ ends (run_parts (state.Head place.Variables) parts)
unfolding run
variables_head [] = refl
variables_head (expression.Word at text ∷ parts) = refl
variables_head (Group' at shape row ∷ parts) = refl

pub variables_fit : (e : Expression) → is_some (variables_place e) ≡ fits (slot.List place.Variables) e
variables_fit (expression.Word at text) = refl
variables_fit (Group' at shape row) =
    some_bind (grouped variable_place type_place (expressions row)) (map typed_item)
    ∙ items_go variable_place type_place items.Variables variables_are (expressions row) (record { typed = []; waiting = []; is_type_next = false })
    ∙ variables_head (expressions row) ∙ sym (list_fits place.Variables row)
