-- How an action is split: the places of its changes' conditions, the choices of which of them hold, and what happens in each.
use Rattle.std.specs.Prelude.{◌≡◌, ◌⊎◌, ℕ, zero, suc, ◌==◌, Bool, true, false, not, ◌&&◌, cond, if◌then◌else◌, List, [], ◌∷◌, ◌++◌, length, map, slice_get, slice_index_or, Option, Some, None, IsTrue}
use Rattle.std.specs.List.{AllZip, filter, flat_map, list_all, list_any}
use denote.Ref.{Bor}
use Rattle.p3_formula.specs.Forms.{HasAtomsOf, IsOpposite, State, truth, has_atoms}
use Rattle.p3_formula.specs.Tidy.{is_tidy}
use Rattle.p3_formula.specs.declared.form.Change.{Change}
use Rattle.p3_formula.specs.declared.form.Form.{Form}
use Rattle.p3_formula.specs.declared.form.Form.TheVariants.{True}
use Rattle.p3_formula.specs.declared.target.TargetAction.{TargetAction}
use Rattle.p3_flat.specs.declared.choices.Choice.{Choice}
use Rattle.p3_flat.specs.declared.literals.Literal.{Literal}
use Rattle.p3_flat.specs.declared.placing.Placed.{Placed}
use Rattle.p3_flat.specs.declared.placing.Placing.{Placing}
use Rattle.p3_flat.specs.Conditions.{are_too_many, conditions, has_form, is_too_wide}
use Rattle.p3_flat.specs.Copies.{AreCopiesOf, Pattern, copy_named}

-- ---- places

-- the condition stands there among the forms, or is True and stands nowhere
abbrev pub HasPlace : List Form → Form → Option ℕ → Type 0
HasPlace forms form None = form ≡ True
HasPlace forms form (Some place) = slice_get forms place ≡ Some form

-- the form is among the others where a place is found, and stands there
abbrev pub FindsForm : List Form → Form → Option ℕ → Type 0
FindsForm forms form None = has_form forms form ≡ false
FindsForm forms form (Some place) = (has_form forms form ≡ true) × (slice_get forms place ≡ Some form)

pub record IsPlaced (forms : List Form) (change : Change) (made : Placed) : Type 0 where
  pub atom : made.atom ≡ change.atom
  pub add : made.add ≡ change.add
  pub place : HasPlace forms change.cond made.place

pub record ArePlacedIn (effects : List Change) (placing : Placing) : Type 0 where
  pub forms : placing.conditions ≡ conditions effects
  pub changes : AllZip (IsPlaced placing.conditions) effects placing.changes

-- there are too many conditions, or each change has its place
abbrev pub IsPlacing : List Change → Option Placing → Type 0
IsPlacing effects None = are_too_many effects ≡ true
IsPlacing effects (Some placing) = (are_too_many effects ≡ false) × ArePlacedIn effects placing

-- ---- what happens

-- the condition of that place holds
abbrev pub holds_in : Pattern → Option ℕ → Bool
holds_in pattern None = true
holds_in pattern (Some place) = slice_index_or pattern place false

-- some change sets the atom
abbrev pub is_added_in : Pattern → List Placed → ℕ → Bool
is_added_in pattern changes atom = list_any (λ (change : Placed). (change.atom == atom) && change.add && holds_in pattern change.place) changes

-- the change happens, and does not clear what another one sets
abbrev pub is_kept : Pattern → (ℕ → Bool) → Placed → Bool
is_kept pattern added change = holds_in pattern change.place && not (not change.add && added change.atom)

abbrev pub always : Placed → Change
always change = record { cond = True; atom = change.atom; add = change.add }

-- the changes that happen
abbrev pub settled_by : Pattern → (ℕ → Bool) → List Placed → List Change
settled_by pattern added changes = map always (filter (is_kept pattern added) changes)

abbrev pub settled : Pattern → List Placed → List Change
settled pattern changes = settled_by pattern (is_added_in pattern changes) changes

-- ---- literals

-- the second form holds where the condition does not, and reads no other atoms
pub record IsLiteral (literal : Literal) : Type 0 where
  pub opposite : IsOpposite literal.fails literal.holds
  pub atoms : HasAtomsOf literal.fails literal.holds

abbrev pub conditions_in : List Literal → List Form
conditions_in literals = map (λ (literal : Literal). literal.holds) literals

-- ---- choices

abbrev pub forms_in : List (Bor Form) → List Form
forms_in forms = map (λ (form : Bor Form). form.now) forms

-- what the choice needs holds
abbrev pub is_met : State → Choice → Bool
is_met state choice = list_all (truth state) (forms_in choice.parts)

abbrev pub patterns_of : List Choice → List Pattern
patterns_of choices = map (λ (choice : Choice). choice.pattern) choices

-- the patterns of the choices that are met
abbrev pub shown : State → List Choice → List Pattern
shown state choices = patterns_of (filter (is_met state) choices)

abbrev pub has_choice_atoms : (ℕ → Bool) → Choice → Bool
has_choice_atoms allowed choice = list_all (has_atoms allowed) (forms_in choice.parts)

abbrev pub listed : Option Choice → List Choice
listed None = []
listed (Some choice) = choice ∷ []

-- one entry more, each way
abbrev pub both_ways : Pattern → List Pattern
both_ways front = (front ++ false ∷ []) ∷ (front ++ true ∷ []) ∷ []

-- all patterns of so many entries
abbrev pub patterns : ℕ → List Pattern
patterns zero = [] ∷ []
patterns (suc count) = flat_map both_ways (patterns count)

-- some of the patterns, in their order
abbrev pub IsPartOf : List Pattern → List Pattern → Type 0
IsPartOf those [] = those ≡ []
IsPartOf those (one ∷ all) = IsPartOf those all ⊎ ((rest : List Pattern) × (those ≡ one ∷ rest) × IsPartOf rest all)

-- the choice with one part more, for a condition that holds or does not; there is none only where the part holds in no state in which the action fits
pub record IsHalf (pre : Form) (choice : Choice) (form : Form) (holds : Bool) (half : Option Choice) : Type 0 where
  pub shows : (state : State) → truth state pre ≡ true → shown state (listed half) ≡ cond (is_met state choice && truth state form) ((choice.pattern ++ holds ∷ []) ∷ []) []
  pub part : IsPartOf (patterns_of (listed half)) ((choice.pattern ++ holds ∷ []) ∷ [])
  pub atoms : (allowed : ℕ → Bool) → has_choice_atoms allowed choice ≡ true → has_atoms allowed form ≡ true → list_all (has_choice_atoms allowed) (listed half) ≡ true

-- the choices with one condition more
pub record AreHalves (pre condition : Form) (old new : List Choice) : Type 0 where
  pub shows : (state : State) → truth state pre ≡ true → shown state new ≡ map (λ pattern. pattern ++ truth state condition ∷ []) (shown state old)
  pub part : IsPartOf (patterns_of new) (flat_map both_ways (patterns_of old))
  pub atoms : (allowed : ℕ → Bool) → list_all (has_choice_atoms allowed) old ≡ true → has_atoms allowed condition ≡ true → list_all (has_choice_atoms allowed) new ≡ true

-- where the action fits, exactly one choice is met, that of the conditions that hold
pub record AreChoices (pre : Form) (forms : List Form) (choices : List Choice) : Type 0 where
  pub shows : (state : State) → truth state pre ≡ true → shown state choices ≡ map (truth state) forms ∷ []
  pub part : IsPartOf (patterns_of choices) (patterns (length forms))
  pub atoms : (allowed : ℕ → Bool) → list_all (has_atoms allowed) forms ≡ true → list_all (has_choice_atoms allowed) choices ≡ true

-- ---- copies

-- a tidy form that holds where the first one and all the parts do, and has no other atoms
pub record IsConjunction (pre : Form) (parts : List Form) (form : Form) : Type 0 where
  pub holds : (state : State) → truth state form ≡ (truth state pre && list_all (truth state) parts)
  pub tidy : IsTrue (is_tidy form)
  pub atoms : (allowed : ℕ → Bool) → has_atoms allowed pre ≡ true → list_all (has_atoms allowed) parts ≡ true → has_atoms allowed form ≡ true

-- the copy for a choice
pub record IsCopy (action : TargetAction) (changes : List Placed) (choice : Choice) (copy : TargetAction) : Type 0 where
  pub name : copy.name ≡ copy_named action.name choice.pattern
  pub pre : IsConjunction action.pre (forms_in choice.parts) copy.pre
  pub effects : copy.effects ≡ settled choice.pattern changes
  pub cost : copy.cost ≡ action.cost

abbrev pub AreCopies : TargetAction → List Placed → List Choice → List TargetAction → Type 0
AreCopies action changes choices copies = AllZip (IsCopy action changes) choices copies

-- the action has too many conditions, or these are its copies
abbrev pub AreCopiesIf : TargetAction → Option (List TargetAction) → Type 0
AreCopiesIf action None = is_too_wide action ≡ true
AreCopiesIf action (Some copies) = (is_too_wide action ≡ false) × AreCopiesOf action copies

-- ---- exclusion

-- where the forms hold, another one does not
abbrev pub AreAgainst : List Form → Form → Type 0
AreAgainst forms other = (state : State) → list_all (truth state) forms ≡ true → truth state other ≡ false

abbrev pub IsAgainst : Form → Form → Type 0
IsAgainst form other = (state : State) → truth state form ≡ true → truth state other ≡ false

-- where the first form and all the parts hold, another one does not
abbrev pub IsExcluded : Form → List Form → Form → Type 0
IsExcluded pre parts other = (state : State) → truth state pre ≡ true → list_all (truth state) parts ≡ true → truth state other ≡ false

-- ---- sets of atoms

abbrev pub has_atom : List ℕ → ℕ → Bool
has_atom atoms atom = list_any (λ other. atom == other) atoms

abbrev pub with_atom : List ℕ → ℕ → List ℕ
with_atom atoms atom = if has_atom atoms atom then atoms else (atoms ++ atom ∷ [])
