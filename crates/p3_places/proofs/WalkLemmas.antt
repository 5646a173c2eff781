-- A walk over a text, token by token.
use Rattle.std.proofs.Common.{◌≡◌, ◌∙◌, refl, sym, ap, Bool, true, false, List, [], Option, Some, None}
use Rattle.std.specs.Option.{option_map, option_or}
use Rattle.p3_base.specs.declared.refusal.Code.TheVariants.{Malformed}
use Rattle.p3_base.specs.declared.refusal.Refusal.{Refusal}
use Rattle.p3_base.specs.declared.refusal.Role.{Role}
use Rattle.p3_task.specs.Tokens.{Token, Tokens, before}
use Rattle.p3_task.specs.PlanTexts.{mark_of}
use Rattle.p3_task.specs.Refusals.Places.{refusal_at_token}
use Rattle.p3_places.specs.Machine.{first_fault, step, or_at}
use Rattle.p3_places.specs.Places.{grammar_table}
use Rattle.p3_places.specs.Walks.{the_stack, only_if, fault_among, fault_left, Passes}
use Rattle.p3_places.specs.declared.state.State.{State}
use Rattle.p3_places.specs.declared.walk.FaultSearch.{FaultSearch}
use Rattle.p3_places.specs.declared.walk.PlacesWalk.{PlacesWalk}

module _ (role : Role) (stack : List State) (token : Token) (later : Tokens) (goes : Bool) (walk : PlacesWalk) (is : only_if goes (the_stack walk) ≡ step grammar_table stack (mark_of token)) where
  abbrev next_by : Option (List State) → Option Refusal
  next_by reached = option_map (refusal_at_token Malformed role) (or_at token (λ s. first_fault grammar_table s later.tokens) reached)

  stepped : (b : Bool) → goes ≡ b → step grammar_table stack (mark_of token) ≡ only_if b (the_stack walk)
  stepped b on = sym is ∙ ap (λ g. only_if g (the_stack walk)) on

  -- one token more
  pub walk_more : goes ≡ true → fault_among role stack (before token later) ≡ fault_among role (the_stack walk) later
  unfolding first_fault
  walk_more on = ap next_by (stepped true on)

  -- the token may not stand here
  pub walk_stops : goes ≡ false → fault_among role stack (before token later) ≡ Some (refusal_at_token Malformed role token)
  unfolding first_fault
  walk_stops off = ap next_by (stepped false off)

-- ---- a search for the first fault

abbrev none_left : Tokens
none_left = record { tokens = []; foreign = None }

found_by : (role : Role) (stack : List State) (found : Option Refusal) → option_or found (fault_among role stack none_left) ≡ found
unfolding first_fault
found_by role stack None = refl
found_by role stack (Some refusal) = refl

-- where no token is left, it was found
pub all_passed : (role : Role) (search : FaultSearch) → fault_left role search (record { tokens = []; foreign = None }) ≡ search.found
all_passed role search = found_by role (the_stack search.walk) search.found

-- a token more, of a search that found none before
module _ (role : Role) (old new : FaultSearch) (token : Token) where
  module _ (none : old.found ≡ None) (goes : Bool) (is : only_if goes (the_stack new.walk) ≡ step grammar_table (the_stack old.walk) (mark_of token)) where
    pub goes_on : goes ≡ true → new.found ≡ old.found → Passes role old token new
    goes_on on same later =
        ap (λ found. option_or found (fault_among role (the_stack old.walk) (before token later))) none
        ∙ walk_more role (the_stack old.walk) token later goes new.walk is on
        ∙ sym (ap (λ found. option_or found (fault_among role (the_stack new.walk) later)) (same ∙ none))

    pub stops : goes ≡ false → new.found ≡ Some (refusal_at_token Malformed role token) → Passes role old token new
    stops off found later =
        ap (λ found. option_or found (fault_among role (the_stack old.walk) (before token later))) none
        ∙ walk_stops role (the_stack old.walk) token later goes new.walk is off
        ∙ sym (ap (λ found. option_or found (fault_among role (the_stack new.walk) later)) found)
