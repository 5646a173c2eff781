use Rattle.std.proofs.Common.{◌∙◌}
use Rattle.p3_task.specs.Names.{has_name}
use Rattle.p3_task.specs.Offences.{declared_types}
use Rattle.p3_resolve.proofs.tables.Tables.joined.Goals as goal

pub invariant_of-result : goal.invariant_of-result
invariant_of-result c =
    let words = c.args.words in
    let typing = c.args.typing in
    record {
      predicates_told = words.predicates_told ∙ (λ i. (c.requires.words i).domain.predicates);
      functions_told = words.functions_told ∙ (λ i. (c.requires.words i).domain.functions);
      objects_told = typing.objects_told ∙ c.requires.typing;
      types_told = words.types_told ∙ (λ i. has_name (declared_types (c.requires.words i)));
      preferences_told = c.requires.preferences;
      fits_told = typing.fits_told ∙ c.requires.typing;
      counted = c.requires.counted;
    }
