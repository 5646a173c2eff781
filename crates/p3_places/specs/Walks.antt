-- What a walk over a text has come to, and what it finds.
use Rattle.std.specs.Prelude.{◌≡◌, ℕ, Bool, if◌then◌else◌, List, [], ◌∷◌, reverse, Option, Some, None}
use Rattle.std.specs.Option.{option_map, option_or}
use Rattle.p3_base.specs.declared.refusal.Code.TheVariants.{Malformed}
use Rattle.p3_base.specs.declared.refusal.Refusal.{Refusal}
use Rattle.p3_base.specs.declared.refusal.Role.{Role}
use Rattle.p3_base.specs.declared.refusal.Role.TheVariants as role
use Rattle.p3_task.specs.Tokens.{Token, Tokens, before, tokens_of}
use Rattle.p3_task.specs.Refusals.Places.{refusal_at_token}
use Rattle.p3_places.specs.Machine.{first_fault}
use Rattle.p3_places.specs.Places.{grammar_table, start}
use Rattle.p3_places.specs.declared.state.Place.{Place}
use Rattle.p3_places.specs.declared.state.Place.TheVariants as place
use Rattle.p3_places.specs.declared.state.State.{State}
use Rattle.p3_places.specs.declared.walk.FaultSearch.{FaultSearch}
use Rattle.p3_places.specs.declared.walk.PlacesWalk.{PlacesWalk}

-- the lists that are open, the innermost of which stands last in the code
abbrev pub the_stack : PlacesWalk → List State
the_stack walk = reverse walk.open.items

-- what is reached, where it may be
abbrev pub only_if : {A : Type 0} → Bool → A → Option A
only_if goes reached = if goes then Some reached else None

-- the first token that may not stand where it does, among those that are left
abbrev pub fault_among : Role → List State → Tokens → Option Refusal
fault_among role stack left = option_map (refusal_at_token Malformed role) (first_fault grammar_table stack left.tokens)

abbrev pub fault_of : Role → Place → List ℕ → Option Refusal
fault_of role p text = fault_among role (start p ∷ []) (tokens_of text)

-- where the whole text of a file stands
abbrev pub place_of : Role → Place
place_of role.Domain = place.Domain
place_of role.WrittenDomain = place.Domain
place_of role.Problem = place.Problem
place_of role.WrittenProblem = place.Problem
place_of role.Plan = place.Problem

-- ---- a search for the first fault

-- the first fault of a text, of which these tokens are left
abbrev pub fault_left : Role → FaultSearch → Tokens → Option Refusal
fault_left role search left = option_or search.found (fault_among role (the_stack search.walk) left)

-- before its tokens it is that of the text, whatever the text
abbrev pub Begins : Role → FaultSearch → Type 0
Begins role search = (text : List ℕ) → fault_left role search (tokens_of text) ≡ fault_of role (place_of role) text

-- behind one token more it is the same, whatever is left
abbrev pub Passes : Role → FaultSearch → Token → FaultSearch → Type 0
Passes role old token new = (later : Tokens) → fault_left role old (before token later) ≡ fault_left role new later
