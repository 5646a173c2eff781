use Rattle.std.proofs.Common.{◌∙◌}
use Rattle.p3_task.specs.Offences.{declared_types}
use Rattle.p3_resolve.proofs.TableLemmas.{has-adds}
use Rattle.p3_resolve.proofs.tables.words_of.Goals as goal

pub invariant_of-result : goal.invariant_of-result
invariant_of-result c = record {
  predicates_told = c.in_ok-predicates.ensures ∙ c.items.ensures;
  functions_told = c.in_ok-functions.ensures ∙ c.items-2.ensures;
  types_told = has-adds c.in_ok-types.types (declared_types c.args.task.now) c.in_ok-types.ensures;
}
