-- Texts of formulas.
use Rattle.std.specs.Prelude.{List, [], ◌∷◌, map, codes, Option, Some, None}
use Rattle.p3_task.specs.Names.{Name}
use Rattle.p3_task.specs.Grammar.Words.{◌>>=◌, Place, ListPart, descend, raws, all_trees, each_at, only, pair, predicate_place, headed, choose}
use Rattle.p3_task.specs.Grammar.Lists.{term_place, variables_place}
use Rattle.p3_task.specs.declared.expression.Expression.{Expression}
use Rattle.p3_task.specs.declared.term.Ref.{Ref}
use Rattle.p3_task.specs.declared.term.Term.{Term}
use Rattle.p3_task.specs.declared.term.Typed.{Typed}
use Rattle.p3_task.specs.declared.formula.Formula.{Formula}
use Rattle.p3_task.specs.declared.formula.Formula.TheVariants as formula

abbrev pub Parts : Type 0
Parts = List (ListPart (Option Formula))

-- `(` name term* `)` with a name that is not reserved
pub record AtomText : Type 0 where
  pub pred : Ref
  pub args : List Term

abbrev pub atom_in : List Expression → Option AtomText
atom_in [] = None
atom_in (first ∷ behind) = do
  pred ← predicate_place first
  args ← each_at term_place behind
  Some (record { pred = pred; args = args })

abbrev pub trees_of : Parts → List (Option Formula)
trees_of parts = map (λ part. part.tree) parts

-- `(and` formula* `)`
abbrev pub and_form : Parts → Option Formula
and_form behind = all_trees (trees_of behind) >>= λ parts. Some (formula.And parts)

-- `(or` formula* `)`
abbrev pub or_form : Parts → Option Formula
or_form behind = all_trees (trees_of behind) >>= λ parts. Some (formula.Or parts)

-- `(not` formula `)`
abbrev pub not_form : Parts → Option Formula
not_form behind = only (trees_of behind) >>= λ part. part >>= λ tree. Some (formula.Not tree)

-- `(imply` formula formula `)`
abbrev pub imply_form : Parts → Option Formula
imply_form behind = do
  both ← pair (trees_of behind)
  first ← both.0
  second ← both.1
  Some (formula.Imply first second)

-- `(` variable-list `)` formula
abbrev pub quantified : Parts → Option (List Typed × Formula)
quantified behind = do
  both ← pair behind
  variables ← variables_place both.0.raw
  body ← both.1.tree
  Some (variables, body)

-- `(exists (` variable-list `)` formula `)`
abbrev pub exists_form : Parts → Option Formula
exists_form behind = quantified behind >>= λ found. Some (formula.Exists found.0 found.1)

-- `(forall (` variable-list `)` formula `)`
abbrev pub forall_form : Parts → Option Formula
forall_form behind = quantified behind >>= λ found. Some (formula.Forall found.0 found.1)

-- `(=` term term `)`
abbrev pub equal_form : Parts → Option Formula
equal_form behind = do
  both ← pair (raws behind)
  left ← term_place both.0
  right ← term_place both.1
  Some (formula.Equal left right)

abbrev pub formula_forms : List (Name × (Parts → Option Formula))
formula_forms = (codes "and", and_form) ∷ (codes "or", or_form) ∷ (codes "not", not_form) ∷ (codes "imply", imply_form) ∷ (codes "exists", exists_form) ∷ (codes "forall", forall_form) ∷ (codes "=", equal_form) ∷ []

-- any other list: `(` name term* `)`
abbrev pub atom_form : Parts → Option Formula
atom_form parts = atom_in (raws parts) >>= λ atom. Some (formula.Atom atom.pred atom.args)

abbrev pub formula_in : Parts → Option Formula
formula_in parts = headed (λ (part : ListPart (Option Formula)). part.raw) parts >>= λ list. choose list.0.name formula_forms (λ behind. atom_form parts) list.1

-- formula: one of these forms, or an atom
unfoldable pub formula_place : Place Formula
formula_place = descend (λ word. None) (λ list parts. formula_in parts)
