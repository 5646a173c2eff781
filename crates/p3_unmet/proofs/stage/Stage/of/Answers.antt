use Rattle.std.proofs.Common.{◌∙◌, [], ap}
use Rattle.p3_numbers.specs.Names.{with_names}
use Rattle.p3_numbers.specs.declared.task.NumberedTask.{NumberedTask}
use Rattle.p3_unmet.proofs.NameLaws.{all-names}
use Rattle.p3_unmet.proofs.stage.Stage.of.Goals as goal

pub invariant_of-result : goal.invariant_of-result
invariant_of-result c = record {
  numbered = c.in_ok-names.ensures ∙ ap (λ (X : NumberedTask). with_names [] X.numbers.preferences) c.numbered-numbered.ensures.task
      ∙ all-names c.args.checked.now.task c.args.checked.now.numbered.numbers c.numbered-numbered.ensures.numbered.names;
}
