-- The parts of an action, one after another.
use Rattle.std.proofs.Common.{◌≡◌, ◌∙◌, refl, ap, ℕ, Bool, true, false, ◌&&◌, if◌then◌else◌, List, [], ◌∷◌, Option, Some, None}
use Rattle.std.specs.Prelude.{codes}
use Rattle.p3_task.specs.Names.{Name, same_name}
use Rattle.p3_task.specs.Grammar.Words.{◌>>=◌}
use Rattle.p3_task.specs.Grammar.Halves.{Section, sections_named, keyword_parts, action_keywords}
use Rattle.p3_task.specs.declared.expression.Expression.{Expression, Group'}
use Rattle.p3_task.specs.declared.expression.Expression.TheVariants as expression
use Rattle.p3_places.proofs.Runs.{run}
use Rattle.p3_places.specs.Places.{part_word, part_once, part_forms}
use Rattle.p3_places.proofs.Fits.{ends, run_parts, fits}
use Rattle.p3_places.proofs.SectionFits.{are_known}
use Rattle.p3_places.proofs.DomainFits.{body_at, parameters, preconditions, effects, all_parts_allowed, parts_fit}
use Rattle.p3_places.specs.declared.state.Place.{Place}
use Rattle.p3_places.specs.declared.state.Place.TheVariants as place
use Rattle.p3_places.specs.declared.state.Slot.TheVariants as slot
use Rattle.p3_places.specs.declared.state.PartsSeen.{PartsSeen}
use Rattle.p3_places.specs.declared.state.State.{State}
use Rattle.p3_places.specs.declared.state.State.TheVariants as state
use Rattle.p3_places.proofs.FitLemmas.{ends_more}
use Rattle.p3_places.proofs.Complete.{part_awaits}
use Rattle.p3_places.proofs.SectionLemmas.{keyed, keyed_last, the_section, decide_all, unknown, once_false, free_none}

-- a keyword and its body
leads_on : Expression → List Expression → Option State → Bool
leads_on first later found = ends (found >>= λ s. run_parts s (first ∷ later))

once_leads : (was : Bool) (seen : PartsSeen) (p : Place) (first : Expression) (later : List Expression)
    → leads_on first later (part_once was seen p) ≡ (if was then false else fits (slot.List p) first && ends (run_parts (state.Parts seen) later))
unfolding leads_on
once_leads true seen p first later = refl
once_leads false seen p first later = ends_more (state.Part seen p) (state.Parts seen) (slot.List p) (part_awaits seen p) first later

abbrev Later : List Expression → Option (List Section) → Type 0
Later later sections = (seen : PartsSeen) → ends (run_parts (state.Parts seen) later) ≡ parts_fit seen sections

abbrev Fitting : PartsSeen → ℕ → Expression → List Expression → List Section → Name → Option State → Type 0
Fitting seen at first later sections text found = leads_on first later found ≡ parts_fit seen (Some (the_section text at (first ∷ []) ∷ sections))

on_later : (was : Bool) (seen : PartsSeen) (p : Place) (first : Expression) (later : List Expression) (sections : List Section) → Later later (Some sections)
    → leads_on first later (part_once was seen p) ≡ (if was then false else fits (slot.List p) first && parts_fit seen (Some sections))
on_later was seen p first later sections same = once_leads was seen p first later ∙ ap (λ b. if was then false else fits (slot.List p) first && b) (same seen)

part_fits : (seen : PartsSeen) (at : ℕ) (text : Name) (first : Expression) (later : List Expression) (sections : List Section) → Later later (Some sections)
    → Fitting seen at first later sections text (part_word seen text)
unfolding leads_on
part_fits seen at text first later sections same =
    let known = are_known action_keywords sections in
    decide_all text (Fitting seen at first later sections) (part_forms seen) None (
      on_later seen.parameters (record seen { parameters = true }) place.Variables first later sections same
          ∙ keyed seen.parameters false (body_at place.Variables) (the_section (codes ":parameters") at (first ∷ [])) (sections_named (codes ":parameters") sections) (known ∷ []) (preconditions seen sections && effects seen sections),
      (
        on_later seen.precondition (record seen { precondition = true }) place.PreGoalOrEmpty first later sections same
            ∙ keyed seen.precondition false (body_at place.PreGoalOrEmpty) (the_section (codes ":precondition") at (first ∷ [])) (sections_named (codes ":precondition") sections) (known ∷ parameters seen sections ∷ []) (effects seen sections),
        (
          on_later seen.effect (record seen { effect = true }) place.EffectOrEmpty first later sections same
              ∙ keyed_last seen.effect false (body_at place.EffectOrEmpty) (the_section (codes ":effect") at (first ∷ [])) (sections_named (codes ":effect") sections) (known ∷ parameters seen sections ∷ preconditions seen sections ∷ []),
          tt,
        ),
      ),
    )
    (unknown action_keywords (all_parts_allowed seen) (the_section text at (first ∷ [])) sections)

-- nothing leads on where the later parts do not
stops : (was : Bool) (seen : PartsSeen) (p : Place) (first : Expression) (later : List Expression) → Later later None → leads_on first later (part_once was seen p) ≡ false
stops was seen p first later same = once_leads was seen p first later ∙ ap (λ b. if was then false else fits (slot.List p) first && b) (same seen) ∙ once_false was (fits (slot.List p) first)

either_stops : (first : Expression) (later : List Expression) (b : Bool) (o u : Option State) → leads_on first later o ≡ false → leads_on first later u ≡ false → leads_on first later (if b then o else u) ≡ false
either_stops first later true o u here there = here
either_stops first later false o u here there = there

part_stops : (seen : PartsSeen) (text : Name) (first : Expression) (later : List Expression) → Later later None → leads_on first later (part_word seen text) ≡ false
unfolding leads_on
part_stops seen text first later same =
    either_stops first later (same_name (codes ":parameters") text) (part_once seen.parameters (record seen { parameters = true }) place.Variables) _ (stops seen.parameters (record seen { parameters = true }) place.Variables first later same)
    (either_stops first later (same_name (codes ":precondition") text) (part_once seen.precondition (record seen { precondition = true }) place.PreGoalOrEmpty) _ (stops seen.precondition (record seen { precondition = true }) place.PreGoalOrEmpty first later same)
    (either_stops first later (same_name (codes ":effect") text) (part_once seen.effect (record seen { effect = true }) place.EffectOrEmpty) None (stops seen.effect (record seen { effect = true }) place.EffectOrEmpty first later same) refl))

one_more : (seen : PartsSeen) (at : ℕ) (text : Name) (first : Expression) (later : List Expression) (others : Option (List Section)) → Later later others
    → leads_on first later (part_word seen text) ≡ parts_fit seen (others >>= λ rest. Some (the_section text at (first ∷ []) ∷ rest))
one_more seen at text first later None same = part_stops seen text first later same
one_more seen at text first later (Some sections) same = part_fits seen at text first later sections same

no_part : (seen : PartsSeen) (b c d : Bool) → b ≡ true → c ≡ true → d ≡ true → true ≡ (true && (b && (c && d)))
no_part seen true true true is_b is_c is_d = refl
no_part seen true true false is_b is_c is_d = absurd cc
no_part seen true false d is_b is_c is_d = absurd cc
no_part seen false c d is_b is_c is_d = absurd cc

keyword_alone : (text : Name) (seen : PartsSeen) → ends (part_word seen text >>= λ s. run_parts s []) ≡ false
keyword_alone text seen = alone (same_name (codes ":parameters") text) (same_name (codes ":precondition") text) (same_name (codes ":effect") text) seen.parameters seen.precondition seen.effect
  where
    one : (was : Bool) (other : PartsSeen) (p : Place) → ends (part_once was other p >>= λ s. run_parts s []) ≡ false
    one true other p = refl
    one false other p = refl

    alone : (a b c x y z : Bool) → ends ((if a then part_once x (record seen { parameters = true }) place.Variables else (if b then part_once y (record seen { precondition = true }) place.PreGoalOrEmpty
        else (if c then part_once z (record seen { effect = true }) place.EffectOrEmpty else None))) >>= λ s. run_parts s []) ≡ false
    alone true b c x y z = one x (record seen { parameters = true }) place.Variables
    alone false true c x y z = one y (record seen { precondition = true }) place.PreGoalOrEmpty
    alone false false true x y z = one z (record seen { effect = true }) place.EffectOrEmpty
    alone false false false x y z = refl

-- THE PARTS of an action stand where the table takes them.
pub parts_run : (es : List Expression) (seen : PartsSeen) → ends (run_parts (state.Parts seen) es) ≡ parts_fit seen (keyword_parts es)
unfolding run leads_on
parts_run [] seen = no_part seen (parameters seen []) (preconditions seen []) (effects seen []) (free_none seen.parameters (body_at place.Variables)) (free_none seen.precondition (body_at place.PreGoalOrEmpty)) (free_none seen.effect (body_at place.EffectOrEmpty))
parts_run (expression.Word at text ∷ []) seen = keyword_alone text seen
parts_run (Group' at shape row ∷ []) seen = refl
parts_run (expression.Word at text ∷ first ∷ es) seen = one_more seen at text first es (keyword_parts es) (parts_run es)
parts_run (Group' at shape row ∷ first ∷ es) seen = refl
