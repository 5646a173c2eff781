-- Sections as they are read, and whose they are.
use Rattle.std.specs.Prelude.{List, [], ◌∷◌, map, codes, Option, Some, None}
use Rattle.std.specs.Option.{option_map}
use Rattle.p3_task.specs.Names.{Name}
use Rattle.p3_task.specs.Grammar.Words.{◌>>=◌, Place, each_at, only, pair, word_place, parts_place}
use Rattle.p3_task.specs.Grammar.Halves.{Section, section_of, section_place, sections_named, at_most_one, optional, part_at, requirements, no_constraints}
use Rattle.p3_task.specs.Grammar.Constraints.{constraint_or_empty_place}
use Rattle.p3_task.specs.Grammar.Halves as halves
use Rattle.p3_task.specs.declared.expression.Expression.{Expression}
use Rattle.p3_task.specs.declared.term.Ref.{Ref}
use Rattle.p3_task.specs.declared.task.Part.{Part}
use Rattle.p3_task.specs.declared.constraint.Constraint.{Constraint}
use Rattle.p3_syntax.specs.declared.tree.parts.HeadedParts.{HeadedParts}
use Rattle.p3_syntax.specs.declared.tree.sections.NamedSections.{NamedSections}
use Rattle.p3_outline.specs.declared.view.Parts.{Parts}
use Rattle.p3_outline.specs.Nodes.{expressions_of}
use Rattle.p3_syntax.specs.Trees.{the_head}

abbrev pub the_section : HeadedParts → Section
the_section list = section_of (the_head list)

abbrev pub the_sections : List HeadedParts → List Section
the_sections lists = map the_section lists

abbrev pub each_section : Parts → Option (List Section)
each_section parts = each_at section_place (expressions_of parts)

abbrev pub the_found : Option HeadedParts → Option Section
the_found = option_map the_section

-- the section with a keyword, where it stands at most once, and where it stands once
abbrev pub named_once : Name → List Section → Option (Option Section)
named_once keyword sections = at_most_one (sections_named keyword sections)

abbrev pub only_named : Name → List Section → Option Section
only_named keyword sections = only (sections_named keyword sections)

abbrev pub requirements_among : List Section → Option (List Ref)
requirements_among sections = optional (codes ":requirements") [] requirements sections

abbrev pub constraints_among : List Section → Option (Part Constraint)
constraints_among sections = optional (codes ":constraints") no_constraints (part_at constraint_or_empty_place) sections

abbrev pub the_half : NamedSections → halves.NamedSections
the_half half = record { name = half.name; sections = the_sections half.sections.items }

-- a half, whatever its words are
abbrev pub half_in : List Expression → Option halves.NamedSections
half_in (word ∷ title ∷ behind) = do
  parts ← parts_place title
  both ← pair parts
  name ← word_place both.1
  sections ← each_at section_place behind
  Some (record { name = name; sections = sections })
half_in _ = None

abbrev pub half_place : Place halves.NamedSections
half_place e = parts_place e >>= half_in
