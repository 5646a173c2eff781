-- What following the rules has found so far.
use Rattle.std.specs.Prelude.{◌≡◌, ℕ, ◌-◌, ◌≤◌, Bool, true, false, not, ◌&&◌, ◌||◌, List, [], ◌++◌, length, take, slice_index_or, slice_set, replicate, All, Contains}
use Rattle.std.specs.List.{list_all}
use Rattle.p3_formula.specs.Forms.{State, is_set}
use Rattle.p3_reach.specs.Closed.{IsWithin}
use Rattle.p3_reach.specs.Models.{IsModel}
use Rattle.p3_reach.specs.Rules.{keeps_rule}
use Rattle.p3_reach.specs.declared.model.Derived.{Derived}
use Rattle.p3_reach.specs.declared.rules.Rule.{Rule}
use Rattle.p3_reach.specs.declared.rules.Theory.{Theory}

-- what was found stands in the order, and nothing else does
pub record IsListed (found : Derived) : Type 0 where
  pub stands : (proposition : ℕ) → is_set found.held proposition ≡ true → Contains found.order proposition
  pub holds : All (λ proposition. is_set found.held proposition ≡ true) found.order

-- the second list begins with the first
pub record Continues (old new : List ℕ) : Type 0 where
  pub more : List ℕ
  pub is : new ≡ old ++ more

-- the proposition is found too
pub record Adds (proposition : ℕ) (old new : Derived) : Type 0 where
  pub sets : new.held ≡ slice_set old.held proposition true
  pub order : Continues old.order new.order
  pub listed : IsListed new

-- where the old set has both premises, the new one has the conclusion
abbrev pub fires : State → State → Rule → Bool
fires old new rule = not (is_set old rule.first && is_set old rule.second) || is_set new rule.gives

-- the conclusions of those rules are found whose premises were, and nothing that a set which keeps the rules lacks
pub record Follows (rules : List Rule) (old new : Derived) : Type 0 where
  pub size : length new.held ≡ length old.held
  pub grows : IsWithin old.held new.held
  pub order : Continues old.order new.order
  pub listed : IsListed new
  pub all_fire : list_all (fires old.held new.held) rules ≡ true
  pub least : (set : State) → list_all (keeps_rule set) rules ≡ true → IsWithin old.held set → IsWithin new.held set

-- the rules in the file of the proposition
abbrev pub file_of : List (List Rule) → ℕ → List Rule
file_of files proposition = slice_index_or files proposition []

-- each rule stands in the files of its premises, and the files have no others
pub record AreFiled (rules : List Rule) (files : List (List Rule)) : Type 0 where
  pub at_first : (rule : Rule) → Contains rules rule → Contains (file_of files rule.first) rule
  pub at_second : (rule : Rule) → Contains rules rule → Contains (file_of files rule.second) rule
  pub among : (proposition : ℕ) → All (Contains rules) (file_of files proposition)

-- the propositions in the first places of the order were followed, and all that was found is in each model
pub record IsFollowed (theory : Theory) (count : ℕ) (found : Derived) : Type 0 where
  pub size : length found.held ≡ length theory.facts
  pub has_facts : IsWithin theory.facts found.held
  pub least : (set : State) → IsModel theory set → IsWithin found.held set
  pub listed : IsListed found
  pub reached : count ≤ length found.order
  pub done : (rule : Rule) → Contains theory.rules rule → Contains (take count found.order) rule.first → Contains (take count found.order) rule.second → is_set found.held rule.gives ≡ true

-- the facts before a place are found, and nothing else is
pub record IsFactsUpTo (count : ℕ) (facts : State) (found : Derived) : Type 0 where
  pub held : found.held ≡ take count facts ++ replicate (length facts - count) false
  pub listed : IsListed found
