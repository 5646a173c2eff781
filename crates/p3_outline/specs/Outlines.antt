-- What an outline is.
use Rattle.std.specs.Prelude.{◌≡◌, ℕ, List, Some, None}
use Rattle.p3_base.specs.declared.refusal.Role.{Role}
use Rattle.p3_task.specs.Sides.{level_limit}
use Rattle.p3_task.specs.Expressions.{expression_of_text}
use Rattle.p3_places.specs.Searches.{side_of, Finds}
use Rattle.p3_outline.specs.Balances.{outline_refusal}
use Rattle.p3_outline.specs.Nodes.{root_of}
use Rattle.p3_outline.specs.Numbers.{number_refusal}
use Rattle.p3_outline.specs.declared.view.Outline.{Outline}

-- the nodes stand for the one expression of the text, which they borrow, and its first number too long and its first fault are known
pub record IsOutline (role : Role) (text : List ℕ) (outline : Outline) : Type 0 where
  pub source : outline.text.now ≡ text
  pub balanced : outline_refusal role text ≡ None
  pub whole : expression_of_text (level_limit (side_of role)) text ≡ Some (root_of outline)
  pub numbers : outline.number ≡ number_refusal role text
  pub faults : Finds role text outline.fault
