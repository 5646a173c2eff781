-- Which sections stand in a problem.
use Rattle.std.specs.Prelude.{Bool, true, false, not, ◌&&◌, List, [], ◌∷◌, codes, Option, Some, None}
use Rattle.std.specs.List.{list_all}
use Rattle.p3_task.specs.Names.{Name, has_name}
use Rattle.p3_task.specs.Grammar.Halves.{Section, sections_named, problem_keywords}
use Rattle.p3_task.specs.declared.expression.Expression.{Expression}
use Rattle.p3_places.specs.Places.{many_of, one_of, num_slot}
use Rattle.p3_places.proofs.Fits.{ends, run_parts}
use Rattle.p3_places.specs.declared.state.Class.TheVariants as class
use Rattle.p3_places.specs.declared.state.Place.TheVariants as place
use Rattle.p3_places.specs.declared.state.Slot.TheVariants as slot
use Rattle.p3_places.specs.declared.state.Items.TheVariants as items
use Rattle.p3_places.specs.declared.state.Progress.TheVariants as progress
use Rattle.p3_places.specs.declared.state.Rest.{Rest}
use Rattle.p3_places.specs.declared.state.Rest.TheVariants as rest
use Rattle.p3_places.specs.declared.state.Keyword.{Keyword}
use Rattle.p3_places.specs.declared.state.Keyword.TheVariants as keyword
use Rattle.p3_places.specs.declared.state.Seen.{Seen}
use Rattle.p3_places.specs.declared.state.State.TheVariants as state

abbrev pub rest_of : Keyword → Rest
rest_of keyword.Domain = rest.One (slot.Word class.Name)
rest_of keyword.Requirements = rest.Many (slot.Word class.Keyword)
rest_of keyword.Objects = rest.Typed items.Names progress.Start
rest_of keyword.Init = many_of place.Init
rest_of keyword.Goal = one_of place.PreGoalOrEmpty
rest_of keyword.Constraints = one_of place.ConstraintOrEmpty
rest_of keyword.Metric = rest.Two (slot.Word class.Direction) num_slot

-- whether this may stand behind a section's keyword
abbrev pub body_fits : Keyword → List Expression → Bool
body_fits k parts = ends (run_parts (state.Rest (rest_of k)) parts)

-- the sections of a keyword: none where one was seen, else one at most, and one where it is needed
abbrev pub allowed : Bool → Bool → (List Expression → Bool) → List Section → Bool
allowed needed true fits [] = true
allowed needed true fits (section ∷ sections) = false
allowed needed false fits [] = not needed
allowed needed false fits (section ∷ []) = fits section.behind
allowed needed false fits (section ∷ other ∷ sections) = false

abbrev pub all_allowed : Seen → List Section → Bool
all_allowed seen sections =
    allowed true seen.domain (body_fits keyword.Domain) (sections_named (codes ":domain") sections)
    && (allowed false seen.requirements (body_fits keyword.Requirements) (sections_named (codes ":requirements") sections)
    && (allowed false seen.objects (body_fits keyword.Objects) (sections_named (codes ":objects") sections)
    && (allowed true seen.init (body_fits keyword.Init) (sections_named (codes ":init") sections)
    && (allowed true seen.goal (body_fits keyword.Goal) (sections_named (codes ":goal") sections)
    && (allowed false seen.constraints (body_fits keyword.Constraints) (sections_named (codes ":constraints") sections)
    && allowed false seen.metric (body_fits keyword.Metric) (sections_named (codes ":metric") sections))))))

-- sections of these keywords alone
abbrev pub are_known : List Name → List Section → Bool
are_known keywords sections = list_all (λ section. has_name keywords section.word.name) sections

abbrev pub fit_among : List Name → (List Section → Bool) → Option (List Section) → Bool
fit_among keywords fit None = false
fit_among keywords fit (Some sections) = are_known keywords sections && fit sections

abbrev pub sections_fit : Seen → Option (List Section) → Bool
sections_fit seen sections = fit_among problem_keywords (all_allowed seen) sections
