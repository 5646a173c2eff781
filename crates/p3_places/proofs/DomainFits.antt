-- Which sections stand in a domain, and which parts in an action.
use Rattle.std.specs.Prelude.{Bool, false, ◌&&◌, List, codes, Option}
use Rattle.std.specs.List.{list_all}
use Rattle.p3_task.specs.Grammar.Halves.{Section, sections_named, domain_keywords, action_keywords}
use Rattle.p3_task.specs.declared.expression.Expression.{Expression}
use Rattle.p3_places.specs.Places.{domain_rest}
use Rattle.p3_places.proofs.Fits.{ends, run_parts, fits, fits_one}
use Rattle.p3_places.proofs.SectionFits.{allowed, fit_among}
use Rattle.p3_places.specs.declared.state.Place.{Place}
use Rattle.p3_places.specs.declared.state.Place.TheVariants as place
use Rattle.p3_places.specs.declared.state.Slot.TheVariants as slot
use Rattle.p3_places.specs.declared.state.DomainKeyword.{DomainKeyword}
use Rattle.p3_places.specs.declared.state.DomainKeyword.TheVariants as domain
use Rattle.p3_places.specs.declared.state.DomainSeen.{DomainSeen}
use Rattle.p3_places.specs.declared.state.PartsSeen.{PartsSeen}
use Rattle.p3_places.specs.declared.state.State.TheVariants as state

-- ---- the parts of an action

-- one list at this place
abbrev pub body_at : Place → List Expression → Bool
body_at p parts = fits_one (fits (slot.List p)) parts

abbrev pub parameters : PartsSeen → List Section → Bool
parameters seen sections = allowed false seen.parameters (body_at place.Variables) (sections_named (codes ":parameters") sections)

abbrev pub preconditions : PartsSeen → List Section → Bool
preconditions seen sections = allowed false seen.precondition (body_at place.PreGoalOrEmpty) (sections_named (codes ":precondition") sections)

abbrev pub effects : PartsSeen → List Section → Bool
effects seen sections = allowed false seen.effect (body_at place.EffectOrEmpty) (sections_named (codes ":effect") sections)

abbrev pub all_parts_allowed : PartsSeen → List Section → Bool
all_parts_allowed seen sections = parameters seen sections && (preconditions seen sections && effects seen sections)

abbrev pub parts_fit : PartsSeen → Option (List Section) → Bool
parts_fit seen sections = fit_among action_keywords (all_parts_allowed seen) sections

-- ---- sections of a domain

abbrev pub domain_body_fits : DomainKeyword → List Expression → Bool
domain_body_fits k parts = ends (run_parts (state.Rest (domain_rest k)) parts)

abbrev pub requirements : DomainSeen → List Section → Bool
requirements seen sections = allowed false seen.requirements (domain_body_fits domain.Requirements) (sections_named (codes ":requirements") sections)

abbrev pub types : DomainSeen → List Section → Bool
types seen sections = allowed false seen.types (domain_body_fits domain.Types) (sections_named (codes ":types") sections)

abbrev pub constants : DomainSeen → List Section → Bool
constants seen sections = allowed false seen.constants (domain_body_fits domain.Constants) (sections_named (codes ":constants") sections)

abbrev pub predicates : DomainSeen → List Section → Bool
predicates seen sections = allowed false seen.predicates (domain_body_fits domain.Predicates) (sections_named (codes ":predicates") sections)

abbrev pub functions : DomainSeen → List Section → Bool
functions seen sections = allowed false seen.functions (domain_body_fits domain.Functions) (sections_named (codes ":functions") sections)

abbrev pub constraints : DomainSeen → List Section → Bool
constraints seen sections = allowed false seen.constraints (domain_body_fits domain.Constraints) (sections_named (codes ":constraints") sections)

abbrev pub action_fits : Section → Bool
action_fits section = ends (run_parts state.Action section.behind)

-- actions stand any number of times
abbrev pub actions : List Section → Bool
actions sections = list_all action_fits (sections_named (codes ":action") sections)

abbrev pub domain_allowed : DomainSeen → List Section → Bool
domain_allowed seen sections =
    requirements seen sections && (types seen sections && (constants seen sections && (predicates seen sections
    && (functions seen sections && (constraints seen sections && actions sections)))))

abbrev pub domain_sections_fit : DomainSeen → Option (List Section) → Bool
domain_sections_fit seen sections = fit_among domain_keywords (domain_allowed seen) sections
