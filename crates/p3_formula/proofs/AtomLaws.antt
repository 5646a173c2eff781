-- Atoms and size of negated and joined forms.
use Rattle.std.proofs.Common.{◌≡◌, ℕ, ◌+◌, ◌≤◌, Bool, true, false, List, [], ◌∷◌, ◌++◌, sum_by, refl, sym, arith}
use Rattle.std.specs.List.{list_all}
use Rattle.std.proofs.Math.Bool.{and-true}
use Rattle.std.proofs.lemmas.List.Sums.{sum_by-cons, sum_by_push}
use Rattle.p3_formula.specs.Forms.{has_atoms, nodes}
use Rattle.p3_formula.specs.Simplified.{negated, joined}
use Rattle.p3_formula.specs.declared.form.Form.{Form, more_of-Form}
use Rattle.p3_formula.specs.declared.form.Form.TheVariants.{True, False, Atom, Not', And', Or'}
use Rattle.p3_formula.proofs.FormLemmas.{has_atoms-Not, has_atoms-And, has_atoms-Or, nodes-Not, nodes-And, nodes-Or}

module _ (allowed : ℕ → Bool) where
  pub negated_atoms : (form : Form) → has_atoms allowed (negated form) ≡ has_atoms allowed form
  unfolding has_atoms
  negated_atoms True = refl
  negated_atoms False = refl
  negated_atoms (Atom atom) = has_atoms-Not allowed (Atom atom)
  negated_atoms (Not' shape (more_of-Form part rest)) = refl
  negated_atoms (And' shape parts) = has_atoms-Not allowed (And' shape parts)
  negated_atoms (Or' shape parts) = has_atoms-Not allowed (Or' shape parts)

  pub joined_atoms : (every : Bool) (parts : List Form) → has_atoms allowed (joined every parts) ≡ list_all (has_atoms allowed) parts
  unfolding has_atoms
  joined_atoms true [] = refl
  joined_atoms false [] = refl
  joined_atoms every (part ∷ []) = sym (and-true (has_atoms allowed part))
  joined_atoms true (part ∷ other ∷ parts) = has_atoms-And allowed (part ∷ other ∷ parts)
  joined_atoms false (part ∷ other ∷ parts) = has_atoms-Or allowed (part ∷ other ∷ parts)

pub negated_nodes : (form : Form) → nodes (negated form) ≤ 1 + nodes form
unfolding nodes
negated_nodes True = omega arith
negated_nodes False = omega arith
negated_nodes (Atom atom) = let h = nodes-Not (Atom atom) in omega arith
negated_nodes (Not' shape (more_of-Form part rest)) = omega arith
negated_nodes (And' shape parts) = let h = nodes-Not (And' shape parts) in omega arith
negated_nodes (Or' shape parts) = let h = nodes-Not (Or' shape parts) in omega arith

pub joined_nodes : (every : Bool) (parts : List Form) → nodes (joined every parts) ≤ 1 + sum_by nodes parts
unfolding nodes
joined_nodes true [] = omega arith
joined_nodes false [] = omega arith
joined_nodes every (part ∷ []) = omega arith
joined_nodes true (part ∷ other ∷ parts) = let h = nodes-And (part ∷ other ∷ parts) in omega arith
joined_nodes false (part ∷ other ∷ parts) = let h = nodes-Or (part ∷ other ∷ parts) in omega arith

-- one more part is kept, or skipped
pub more_nodes : (kept : List Form) (part : Form) (rest : List Form) (total : ℕ)
    → total ≤ 1 + (sum_by nodes (kept ++ part ∷ []) + sum_by nodes rest) → total ≤ 1 + (sum_by nodes kept + sum_by nodes (part ∷ rest))
more_nodes kept part rest total h = let p = sum_by_push nodes kept part in let q = sum_by-cons nodes part rest in omega arith

pub skip_nodes : (kept : List Form) (part : Form) (rest : List Form) (total : ℕ)
    → total ≤ 1 + (sum_by nodes kept + sum_by nodes rest) → total ≤ 1 + (sum_by nodes kept + sum_by nodes (part ∷ rest))
skip_nodes kept part rest total h = let q = sum_by-cons nodes part rest in omega arith
