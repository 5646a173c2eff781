-- A domain of which some actions are written.
use Rattle.std.specs.Prelude.{◌≡◌, ℕ, List, ◌++◌, IsTrue}
use Rattle.std.specs.List.{list_all}
use Rattle.p3_base.specs.Words.{Name}
use Rattle.p3_formula.specs.declared.target.Target.{Target}
use Rattle.p3_formula.specs.declared.target.TargetAction.{TargetAction}
use Rattle.p3_writer.specs.Layout.{actions_text, domain_head, is_small}

-- the names of its predicates, and its text so far
pub record BegunDomain : Type 0 where
  pub names : List Name
  pub text : List ℕ

-- before the first action
abbrev pub first_text : List Name → BegunDomain
first_text names = record { names = names; text = domain_head names }

-- these actions are written behind those before
abbrev pub with_actions : BegunDomain → List TargetAction → BegunDomain
with_actions begun actions = record { names = begun.names; text = begun.text ++ actions_text begun.names actions }

-- all actions of the target are written
pub record HasAllActions (X : Target) (begun : BegunDomain) : Type 0 where
  pub is : begun ≡ with_actions (first_text X.predicates) X.actions
  pub small : IsTrue (list_all is_small X.actions)
