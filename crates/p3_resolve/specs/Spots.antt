-- The word of least offset, found while a tree is walked.
use Rattle.std.specs.Prelude.{nat_lt, fold, flat_map, length, if◌then◌else◌, Option, Some, None, List}
use Rattle.std.specs.Prelude.{is_some}
use Rattle.p3_task.specs.Uses.{Scope, Use}
use Rattle.p3_task.specs.Offences.{repeated_variables, unknown_words, unknown_term, unless, miscounted, wrong_count, clashing, clashes}
use Rattle.p3_task.specs.declared.term.Ref.{Ref}
use Rattle.p3_task.specs.declared.term.Term.{Term}
use Rattle.p3_task.specs.declared.task.Header.{Header}
use Rattle.p3_task.specs.declared.task.Task.{Task}
use Rattle.p3_resolve.specs.declared.spot.Spot.{Spot}
use Rattle.p3_resolve.specs.declared.spot.FirstOffences.{FirstOffences}

abbrev pub spot_of : Ref → Spot
spot_of word = record { at = word.at; len = length word.name }

-- a word further
abbrev pub step : Option Spot → Ref → Option Spot
step None word = Some (spot_of word)
step (Some spot) word = Some (if nat_lt word.at spot.at then spot_of word else spot)

-- a use further: one word for each kind of offence
abbrev pub use_step : Task → FirstOffences → Use → FirstOffences
use_step T found item = record {
  duplicate = fold step found.duplicate (repeated_variables item);
  unknown = fold step found.unknown (unknown_words T item);
  miscount = fold step found.miscount (miscounted T item);
  clash = fold step found.clash (clashing T item);
}

-- a predicate or a function at arguments, and the header that was found for it
abbrev pub header_step : Task → Scope → FirstOffences → Option Header → Ref → List Term → FirstOffences
header_step T scope found header word args = record {
  duplicate = found.duplicate;
  unknown = fold step (fold step found.unknown (unless (is_some header) word)) (flat_map (unknown_term T scope) args);
  miscount = fold step found.miscount (wrong_count header word args);
  clash = fold step found.clash (clashes T scope header args);
}
