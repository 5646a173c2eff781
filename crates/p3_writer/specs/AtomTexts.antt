-- The texts of atoms in one row, and where each of them begins.
use Rattle.std.specs.Prelude.{◌≡◌, ℕ, ◌+◌, List, [], ◌∷◌, ◌++◌, codes, length}
use Rattle.p3_base.specs.Words.{Name}
use Rattle.p3_formula.specs.declared.form.Change.{Change}
use Rattle.p3_writer.specs.Layout.{atom_text, changes_text, cost_text, headers_text}

-- where each of the texts begins that stand one behind the other from a place on, and where the last one ends
abbrev pub starts_from : ℕ → List Name → List ℕ
starts_from at [] = at ∷ []
starts_from at (name ∷ names) = at ∷ starts_from (at + length (32 ∷ atom_text name)) names

pub record IsPool (names : List Name) (text starts : List ℕ) : Type 0 where
  pub laid : text ≡ headers_text names
  pub begun : starts ≡ starts_from 0 names

-- what stands before the precondition of an action and the space before it
abbrev pub action_start : Name → List ℕ
action_start name = codes "(:action " ++ name ++ codes " :parameters ()\n :precondition"

-- what stands behind it
abbrev pub action_end : List Name → List Change → ℕ → List ℕ
action_end names changes cost = codes "\n :effect (and" ++ changes_text names changes ++ cost_text cost ++ codes "))\n"
