-- Items with types, before a place makes anything of them.
use Rattle.std.specs.Prelude.{◌≡◌, ℕ, ◌+◌, List, [], ◌∷◌, ◌++◌, map, take, length, Option, Some, None}
use Rattle.p3_task.specs.Grammar.Words.{◌>>=◌, Place, all_trees}
use Rattle.p3_task.specs.Grammar.Lists.{grouped, typed_item}
use Rattle.p3_task.specs.declared.expression.Expression.{Expression}
use Rattle.p3_task.specs.declared.term.Ref.{Ref}
use Rattle.p3_task.specs.declared.term.Typed.{Typed}
use Rattle.p3_outline.specs.declared.view.View.{View}
use Rattle.p3_syntax.specs.declared.tree.groups.Groups.{Groups}
use Rattle.p3_syntax.specs.declared.tree.groups.TypedItem.{TypedItem}
use Rattle.p3_outline.specs.Nodes.{expression_of, expressions_of}

-- an item, and its type where it has one
abbrev pub Item : Type 0
Item = Expression × Option Expression

abbrev pub kind_of : Option View → Option Expression
kind_of None = None
kind_of (Some view) = Some (expression_of view)

abbrev pub the_item : TypedItem → Item
the_item item = (expression_of item.item, kind_of item.kind)

-- the first item, which has the type of those left in its group
abbrev pub the_first : View × Groups → Item
the_first first = (expression_of first.0, kind_of first.1.kind)

abbrev pub all_grouped : List Expression → Option (List Item)
all_grouped = grouped Some Some

abbrev pub item_before : Item → Option (List Item) → Option (List Item)
item_before item later = later >>= λ items. Some (item ∷ items)

-- the items of one type, and those behind them
abbrev pub with_later : Option Expression → List Expression → Option (List Item) → Option (List Item)
with_later kind list later = later >>= λ items. Some (map (λ e. (e, kind)) list ++ items)

abbrev pub groups_left : Groups → Option (List Item)
groups_left groups = with_later (kind_of groups.kind) (take groups.count (expressions_of groups.left)) (all_grouped (expressions_of groups.behind))

-- how many items and nodes are left at most
abbrev pub groups_size : Groups → ℕ
groups_size groups = groups.count + length groups.behind.nodes.now

-- ---- what is answered of the items

abbrev pub GivesFirst : Option (View × Groups) → Option (List Item) → Type 0
GivesFirst None items = items ≡ Some []
GivesFirst (Some first) items = items ≡ item_before (the_first first) (groups_left first.1)

abbrev pub GivesNext : Option TypedItem → Option (List Item) → Groups → Type 0
GivesNext None items later = items ≡ Some []
GivesNext (Some item) items later = items ≡ item_before (the_item item) (groups_left later)

-- ---- what places make of an item and its type

abbrev pub kind_at : {B : Type 0} → Place B → Option Expression → Option (Option B)
kind_at place None = Some None
kind_at place (Some e) = place e >>= λ kind. Some (Some kind)

abbrev pub item_at : {A B : Type 0} → Place A → Place B → Item → Option (A × Option B)
item_at item kind typed = do
  found ← item typed.0
  type ← kind_at kind typed.1
  Some (found, type)

-- what a place makes of each item
abbrev pub each_item : {C : Type 0} → (Item → Option C) → Option (List Item) → Option (List C)
each_item place items = items >>= λ list. all_trees (map place list)

abbrev pub typed_at : Place Ref → Place (List Ref) → Item → Option Typed
typed_at item kind typed = item_at item kind typed >>= λ found. Some (typed_item found)
