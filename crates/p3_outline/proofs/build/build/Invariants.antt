use Rattle.std.proofs.Common.{◌≡◌, ◌≤◌, ◌-◌, length}
use Rattle.p3_lexer.specs.Lexing.{left}
use Rattle.p3_outline.specs.Builds.{the_built}
use Rattle.p3_outline.specs.Numbers.{number_refusal}
use Rattle.p3_outline.proofs.BuildLemmas.{Goes}
use Rattle.p3_outline.proofs.NumberLemmas.{numbers_from}
use Rattle.p3_places.specs.Searches.{side_of}
use Rattle.p3_places.specs.Walks.{place_of, fault_of, fault_left}
use Rattle.p3_outline.proofs.build.build.Given as goal

-- what was built follows what was read, and what is left leads to the text's expression, to its first number too long and to its first fault
abbrev pub invariant-loop-word : goal.invariant-loop-word
invariant-loop-word l = record {
  source : l.lexer.source ≡ l.text;
  few : length l.passed.building.nodes.items ≤ l.lexer.at;
  goes : Goes l.limit l.text (left l.lexer) (the_built l.passed.building);
  numbers : numbers_from (side_of l.role) l.role l.passed.number (left l.lexer) ≡ number_refusal l.role l.text;
  faults : fault_left l.role l.passed.faults (left l.lexer) ≡ fault_of l.role (place_of l.role) l.text;
}

abbrev pub decreases-loop-word : goal.decreases-loop-word
decreases-loop-word l = length l.text - l.lexer.at
