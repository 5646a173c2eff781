-- The forms of numbered nodes, whose parts stand before them.
use Rattle.std.specs.Prelude.{◌≡◌, ◌≢◌, ℕ, ◌<◌, ◌≤◌, List, [], ◌∷◌, ◌++◌, length, map, fold, slice_get, slice_index_or, Some, take, All}
use Rattle.p3_formula.specs.declared.form.Form.{Form}
use Rattle.p3_formula.specs.declared.form.Form.TheVariants as form
use Rattle.p3_formula.specs.declared.node.Node.{Node}
use Rattle.p3_formula.specs.declared.node.Node.TheVariants.{True, False, Atom, Not, And, Or}

-- ---- the form that a number stands for

-- the form of a node, given those of its parts
abbrev pub node_form : (ℕ → Form) → Node → Form
node_form part True = form.True
node_form part False = form.False
node_form part (Atom atom) = form.Atom atom
node_form part (Not number) = form.Not (part number)
node_form part (And numbers) = form.And (map part numbers)
node_form part (Or numbers) = form.Or (map part numbers)

abbrev pub form_at : List Form → ℕ → Form
form_at forms number = slice_index_or forms number form.False

abbrev pub with_next : List Form → Node → List Form
with_next forms node = forms ++ node_form (form_at forms) node ∷ []

-- the form of each node in turn, from those before it
unfoldable pub forms : List Node → List Form
forms nodes = fold with_next [] nodes

abbrev pub form_of : List Node → ℕ → Form
form_of nodes number = form_at (forms nodes) number

-- ---- tables

-- the node stands under the number
abbrev pub HasNumber : List Node → Node → ℕ → Type 0
HasNumber nodes node number = slice_get nodes number ≡ Some node

-- its numbers are below the count
abbrev pub IsNodeBelow : ℕ → Node → Type 0
IsNodeBelow count True = Unit {0}
IsNodeBelow count False = Unit {0}
IsNodeBelow count (Atom atom) = Unit {0}
IsNodeBelow count (Not number) = number < count
IsNodeBelow count (And numbers) = All (λ number. number < count) numbers
IsNodeBelow count (Or numbers) = All (λ number. number < count) numbers

-- each node's numbers are smaller than its own
pub record ArePlaced (nodes : List Node) : Type 0 where
  pub below : (number : ℕ) (node : Node) → HasNumber nodes node number → IsNodeBelow number node

-- no node stands twice
pub record AreDistinct (nodes : List Node) : Type 0 where
  pub one_number : (first second : ℕ) (node : Node) → HasNumber nodes node first → HasNumber nodes node second → first ≡ second

-- ---- growing

-- nodes keep their numbers
pub record Grows (old new : List Node) : Type 0 where
  pub longer : length old ≤ length new
  pub kept : take (length old) new ≡ old

-- a node that is there has its number, and nothing changes
abbrev pub FindsNode : List Node → List Node → Node → ℕ → Type 0
FindsNode old new node number = (there : ℕ) → HasNumber old node there → (number ≡ there) × (new ≡ old)

-- a new one goes last
abbrev pub PutsLast : List Node → List Node → Node → ℕ → Type 0
PutsLast old new node number = ((there : ℕ) → slice_get old there ≢ Some node) → (number ≡ length old) × (new ≡ old ++ node ∷ [])
