-- The atoms of a well-formed task's trees have names.
use Rattle.std.proofs.Common.{◌≡◌, nat_lt, true, ◌&&◌, List, [], ◌∷◌, length, refl}
use Rattle.std.specs.Prelude.{filter_map}
use Rattle.std.specs.List.{list_all}
use Rattle.std.proofs.lemmas.Bool.{and_parts, and_from, lt-ltb}
use Rattle.p3_task.specs.Names.{has_name}
use Rattle.p3_task.specs.declared.task.Init.{Init}
use Rattle.p3_task.specs.declared.task.Init.TheVariants.{True, False, Value}
use Rattle.p3_task.specs.declared.task.Task.{Task}
use Rattle.p3_task.specs.declared.term.Ref.{Ref}
use Rattle.p3_task.specs.declared.term.Term.{Term}
use Rattle.p3_numbers.specs.Places.{Variables, Fills, number_in, numbered_term, numbered_terms, is_known_term, are_known_terms}
use Rattle.p3_numbers.specs.Slots.{Slots, value_of, values_of}
use Rattle.p3_numbers.specs.Starts.{entry_fact, start_of, is_known_entry}
use Rattle.p3_numbers.specs.declared.numbers.Numbers.{Numbers}
use Rattle.p3_numbers.proofs.PlaceLemmas.{found_within, term_means}
use Rattle.p3_expansion.specs.Atoms.{atom_at, is_named}
use Rattle.p3_expansion.specs.Statics.{atom_of}
use Rattle.p3_expansion.proofs.TaskLemmas.{no-variables}

module _ (N : Numbers) (scope : Variables) (slots : Slots) (fills : Fills N scope slots) where
  objects-named : (terms : List Term) → are_known_terms N scope terms ≡ true → list_all (λ object. nat_lt object (length N.objects)) (values_of slots (numbered_terms N scope terms)) ≡ true
  objects-named [] known = refl
  objects-named (term ∷ terms) known =
      let parts = and_parts (is_known_term N scope term) (are_known_terms N scope terms) known in
      and_from (nat_lt (value_of slots (numbered_term N scope term)) (length N.objects)) _ (lt-ltb (value_of slots (numbered_term N scope term)) (length N.objects) (term_means N scope slots fills term parts.0).1) (objects-named terms parts.1)

  pub atom-named : (pred : Ref) (args : List Term) → (has_name N.predicates pred.name && are_known_terms N scope args) ≡ true → is_named N (atom_at slots (number_in N.predicates pred.name) (numbered_terms N scope args)) ≡ true
  atom-named pred args known =
      let parts = and_parts (has_name N.predicates pred.name) (are_known_terms N scope args) known in
      and_from (nat_lt (number_in N.predicates pred.name) (length N.predicates)) _ (lt-ltb (number_in N.predicates pred.name) (length N.predicates) (found_within N.predicates pred.name parts.0)) (objects-named args parts.1)

-- those of the start
module _ (N : Numbers) where
  entries-named : (entries : List Init) → list_all (is_known_entry N) entries ≡ true → list_all (λ fact. is_named N (atom_of fact)) (filter_map (entry_fact N) entries) ≡ true
  entries-named [] known = refl
  entries-named (True pred args ∷ entries) known =
      let parts = and_parts (is_known_entry N (True pred args)) (list_all (is_known_entry N) entries) known in
      and_from (is_named N (atom_at [] (number_in N.predicates pred.name) (numbered_terms N [] args))) _ (atom-named N [] [] (no-variables N) pred args parts.0) (entries-named entries parts.1)
  entries-named (False pred args ∷ entries) known = entries-named entries (and_parts (is_known_entry N (False pred args)) (list_all (is_known_entry N) entries) known).1
  entries-named (Value function args number ∷ entries) known = entries-named entries (and_parts (is_known_entry N (Value function args number)) (list_all (is_known_entry N) entries) known).1

pub start-named : (T : Task) (N : Numbers) → list_all (is_known_entry N) T.problem.init ≡ true → list_all (λ fact. is_named N (atom_of fact)) (start_of N T) ≡ true
unfolding start_of
start-named T N known = entries-named N T.problem.init known
