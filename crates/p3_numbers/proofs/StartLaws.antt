-- The atoms that are true at the start, by their numbers.
use Rattle.std.proofs.Common.{◌≡◌, true, List, [], ◌∷◌, ◌<◌, length, map, refl}
use Rattle.std.specs.Prelude.{filter_map}
use Rattle.std.specs.List.{list_all}
use Rattle.std.proofs.lemmas.Bool.{and_parts}
use Rattle.std.proofs.lemmas.List.Elements.{All-nil}
use Rattle.p3_task.specs.States.{initial_fact, start}
use Rattle.p3_task.specs.declared.task.Init.{Init}
use Rattle.p3_task.specs.declared.task.Init.TheVariants.{True, False, Value}
use Rattle.p3_task.specs.declared.task.Task.{Task}
use Rattle.p3_numbers.specs.Places.{Fills}
use Rattle.p3_numbers.specs.Starts.{fact_by, entry_fact, start_of, is_known_entry, StartIsKept}
use Rattle.p3_numbers.specs.declared.numbers.Numbers.{Numbers}
use Rattle.p3_numbers.proofs.PlaceLemmas.{fact_means}

module _ (N : Numbers) where
  no_variables : Fills N [] []
  no_variables = record { lengths = refl; objects = All-nil (λ number. number < length N.objects) }

  entries-mean : (entries : List Init) → list_all (is_known_entry N) entries ≡ true → map (fact_by N) (filter_map (entry_fact N) entries) ≡ filter_map initial_fact entries
  entries-mean [] known = refl
  entries-mean (True pred args ∷ entries) known =
      let parts = and_parts (is_known_entry N (True pred args)) (list_all (is_known_entry N) entries) known in
      λ i. fact_means N [] [] no_variables pred args parts.0 i ∷ entries-mean entries parts.1 i
  entries-mean (False pred args ∷ entries) known = entries-mean entries (and_parts (is_known_entry N (False pred args)) (list_all (is_known_entry N) entries) known).1
  entries-mean (Value function args number ∷ entries) known = entries-mean entries (and_parts (is_known_entry N (Value function args number)) (list_all (is_known_entry N) entries) known).1

pub start-means : (T : Task) (N : Numbers) → StartIsKept T N
unfolding start start_of
start-means T N known = entries-mean N T.problem.init known
