-- Nodes of a text, built token by token.
use Rattle.std.specs.Prelude.{ℕ, ◌-◌, nat_lt, Bool, not, ◌&&◌, List, [], ◌∷◌, ◌++◌, length, reverse, set, if◌then◌else◌, Option, Some, None}
use Rattle.p3_task.specs.Names.{is_empty}
use Rattle.p3_task.specs.Tokens.{Token, Open, Close, Word}
use Rattle.p3_outline.specs.declared.view.Node.{Node}
use Rattle.p3_outline.specs.declared.view.Node.TheVariants as node
use Rattle.p3_outline.specs.declared.build.OpenList.{OpenList}
use Rattle.p3_outline.specs.declared.build.Building.{Building}

-- the nodes so far, and the lists that are open, the innermost first
pub record Built : Type 0 where
  pub nodes : List Node
  pub open_lists : List OpenList

abbrev pub the_built : Building → Built
the_built building = record { nodes = building.nodes.items; open_lists = reverse building.open.items }

abbrev pub nothing_built : Built
nothing_built = record { nodes = []; open_lists = [] }

-- what is built behind a token that may come next
abbrev pub only_if : Bool → Built → Option Built
only_if goes built = if goes then Some built else None

-- one expression is whole
abbrev pub is_done : Built → Bool
is_done built = is_empty built.open_lists && not (is_empty built.nodes)

abbrev pub opened : ℕ → ℕ → Built → Option Built
opened limit at built =
    if nat_lt (length built.open_lists) limit
    then Some (record { nodes = built.nodes ++ node.List at 0 ∷ []; open_lists = record { index = length built.nodes; at = at } ∷ built.open_lists })
    else None

abbrev pub closed_by : List Node → List OpenList → Option Built
closed_by nodes [] = None
closed_by nodes (innermost ∷ others) = Some (record { nodes = set nodes innermost.index (node.List innermost.at (length nodes - innermost.index - 1)); open_lists = others })

abbrev pub closed : Built → Option Built
closed built = closed_by built.nodes built.open_lists

abbrev pub with_word : ℕ → ℕ → Built → Built
with_word at len built = record { nodes = built.nodes ++ node.Word at len ∷ []; open_lists = built.open_lists }

abbrev pub added : ℕ → Built → Token → Option Built
added limit built (Open at) = opened limit at built
added limit built (Close at) = closed built
added limit built (Word at text) = Some (with_word at (length text) built)

-- nothing follows the whole expression
abbrev pub with_token : ℕ → Built → Token → Option Built
with_token limit built token = if is_done built then None else added limit built token

abbrev pub end_added : Built → Option Built
end_added built = if is_done built then None else closed built

abbrev pub word_added : ℕ → ℕ → Built → Option Built
word_added at len built = if is_done built then None else Some (with_word at len built)
