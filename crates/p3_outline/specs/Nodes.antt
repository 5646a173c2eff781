-- What nodes of an outline stand for.
use Rattle.std.specs.Prelude.{◌≡◌, ℕ, zero, suc, List, [], ◌∷◌, take, drop, length}
use Rattle.std.specs.Str.{str_to_ascii_lowercase}
use Rattle.p3_task.specs.Grammar.Words.{expressions}
use Rattle.p3_task.specs.declared.expression.Expression.{Expression, Group'}
use Rattle.p3_task.specs.declared.expression.Expression.TheVariants as expression
use Rattle.p3_outline.specs.declared.view.Outline.{Outline}
use Rattle.p3_outline.specs.declared.view.Node.{Node}
use Rattle.p3_outline.specs.declared.view.Node.TheVariants as node
use Rattle.p3_outline.specs.declared.view.View.{View}
use Rattle.p3_outline.specs.declared.view.Parts.{Parts}

-- the bytes of a word, and their lowered ones
abbrev pub slice_of : List ℕ → ℕ → ℕ → List ℕ
slice_of text at len = take len (drop at text)

abbrev pub word_of : List ℕ → ℕ → ℕ → Expression
word_of text at len = expression.Word at (str_to_ascii_lowercase (slice_of text at len))

-- A list is followed by the nodes below it. The depth of lists is at most the first number.
unfoldable pub decoded : ℕ → List ℕ → List Node → List Expression
decoded zero text nodes = []
decoded (suc fuel) text [] = []
decoded (suc fuel) text (node.Word at len ∷ nodes) = word_of text at len ∷ decoded fuel text nodes
decoded (suc fuel) text (node.List at below ∷ nodes) = expression.Group at (decoded fuel text (take below nodes)) ∷ decoded fuel text (drop below nodes)

-- the expressions that nodes stand for
abbrev pub expressions_in : List ℕ → List Node → List Expression
expressions_in text nodes = decoded (length nodes) text nodes

abbrev pub expressions_of : Parts → List Expression
expressions_of parts = expressions_in parts.text.now parts.nodes.now

-- a node and those below it
abbrev pub expression_in : List ℕ → Node → List Node → Expression
expression_in text (node.Word at len) below = word_of text at len
expression_in text (node.List at count) below = expression.Group at (expressions_in text below)

abbrev pub expression_of : View → Expression
expression_of view = expression_in view.text.now view.node view.below.now

abbrev pub below_of : Node → ℕ
below_of (node.Word at len) = 0
below_of (node.List at below) = below

-- the first expression of the nodes, of which an outline has one
abbrev pub first_of : List Expression → Expression
first_of [] = expression.Group 0 []
first_of (e ∷ es) = e

abbrev pub root_of : Outline → Expression
root_of outline = first_of (expressions_in outline.text.now outline.nodes.items)

abbrev pub offset_of : Expression → ℕ
offset_of (expression.Word at text) = at
offset_of (Group' at shape parts) = at

-- the elements of a list; a word has none
abbrev pub elements : Expression → List Expression
elements (expression.Word at text) = []
elements (Group' at shape parts) = expressions parts

-- the expression is the word of these bytes, or a list
abbrev pub IsWordOf : Expression → List ℕ → Type 0
IsWordOf e bytes = e ≡ expression.Word (offset_of e) (str_to_ascii_lowercase bytes)

abbrev pub IsList : Expression → Type 0
IsList e = e ≡ expression.Group (offset_of e) (elements e)
