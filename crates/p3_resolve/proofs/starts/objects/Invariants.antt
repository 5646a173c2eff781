use Rattle.std.proofs.Common.{◌≡◌, take, []}
use Rattle.p3_numbers.specs.Places.{numbered_terms}
use Rattle.p3_numbers.specs.Slots.{values_of}
use Rattle.p3_resolve.specs.Steps.{arguments_step}
use Rattle.p3_resolve.specs.Tables.{header_of}
use Rattle.p3_resolve.specs.NumbersOf.{numbers_of}
use Rattle.p3_resolve.proofs.starts.objects.Given as goal

abbrev pub invariant-loop-place : goal.invariant-loop-place
invariant-loop-place l = record {
  found : l.found ≡ arguments_step l.tables.task.now l.walk.scope (header_of l.declared) l.fn.found (take l.place l.args);
  made : l.made ≡ values_of [] (numbered_terms (numbers_of l.tables) l.walk.words (take l.place l.args));
}
