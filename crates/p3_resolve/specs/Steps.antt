-- What is noted of an argument, and of a predicate or a function at arguments.
use Rattle.std.specs.Prelude.{Bool, true, List, fold, flat_map, is_some, Option, Some, None}
use Rattle.p3_task.specs.Names.{Name}
use Rattle.p3_task.specs.Offences.{clashes, term_fits, unknown_term, unless, variable_fits, word_of, wrong_count}
use Rattle.p3_task.specs.Uses.{Scope}
use Rattle.p3_task.specs.declared.term.Ref.{Ref}
use Rattle.p3_task.specs.declared.term.Term.{Term}
use Rattle.p3_task.specs.declared.term.Typed.{Typed}
use Rattle.p3_task.specs.declared.task.Header.{Header}
use Rattle.p3_task.specs.declared.task.Task.{Task}
use Rattle.p3_resolve.specs.Spots.{step}
use Rattle.p3_resolve.specs.declared.spot.FirstOffences.{FirstOffences}

-- a word that may be unknown, and may not fit
abbrev pub note_step : FirstOffences → Bool → Bool → Ref → FirstOffences
note_step found is_known fits word = record {
  duplicate = found.duplicate;
  unknown = fold step found.unknown (unless is_known word);
  miscount = found.miscount;
  clash = fold step found.clash (unless fits word);
}

-- ---- an argument beside its parameter; beside none all fits

abbrev pub fits_beside : Task → Scope → Option Typed → Term → Bool
fits_beside T scope None term = true
fits_beside T scope (Some parameter) term = term_fits T scope parameter term

abbrev pub variable_fits_beside : Task → Option Typed → Option (Name × List Name) → Bool
variable_fits_beside T None entry = true
variable_fits_beside T (Some parameter) entry = variable_fits T parameter.types entry

unfoldable pub argument_step : Task → Scope → Option Typed → FirstOffences → Term → FirstOffences
argument_step T scope parameter found term = record {
  duplicate = found.duplicate;
  unknown = fold step found.unknown (unknown_term T scope term);
  miscount = found.miscount;
  clash = fold step found.clash (unless (fits_beside T scope parameter term) (word_of term));
}

-- ---- arguments beside the parameters of a header

unfoldable pub arguments_step : Task → Scope → Option Header → FirstOffences → List Term → FirstOffences
arguments_step T scope header found args = record {
  duplicate = found.duplicate;
  unknown = fold step found.unknown (flat_map (unknown_term T scope) args);
  miscount = found.miscount;
  clash = fold step found.clash (clashes T scope header args);
}

-- the word of a header, looked up, before its arguments
abbrev pub word_step : FirstOffences → Option Header → Ref → List Term → FirstOffences
word_step found header word args = record {
  duplicate = found.duplicate;
  unknown = fold step found.unknown (unless (is_some header) word);
  miscount = fold step found.miscount (wrong_count header word args);
  clash = found.clash;
}
